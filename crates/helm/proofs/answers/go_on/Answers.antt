use Rattle.std.proofs.Common.{ap, lt-ltb, le-ltb, eq-eqb, ne_eqb}
use Rattle.tx_list.specs.Moves.{goes_on}
use Rattle.helm.specs.declared.steps.Step.{Step}
use Rattle.helm.specs.Steps.{told_step}
use Rattle.helm.proofs.answers.go_on.Goals as goal

pub returns-then-old-gt1-clause-left : goal.returns-then-old-gt1-clause-left
unfolding goes_on
returns-then-old-gt1-clause-left g c = λ st. rw (lt-ltb 1 c.args.old.owed c.if-old-gt1.true) (c.ask_next.ensures.left st)

pub returns-then-old-eq0-clause-left : goal.returns-then-old-eq0-clause-left
unfolding goes_on
returns-then-old-eq0-clause-left g c =
    λ st.
    rw (le-ltb 1 c.args.old.owed c.if-old-gt1.false, eq-eqb c.args.old.fresh 0 c.if-old-eq0.true)
    (ap (λ (r : Step). told_step r (g.M.Arrays.stored c.args.memory.now)) c.awaiting.ensures)

pub returns-clause-left : goal.returns-clause-left
unfolding goes_on
returns-clause-left g c =
    λ st.
    rw (le-ltb 1 c.args.old.owed c.if-old-gt1.false, ne_eqb c.args.old.fresh 0 c.if-old-eq0.false)
    (ap (λ (r : Step). told_step r (g.M.Arrays.stored c.args.memory.now)) c.awaiting-2.ensures)
