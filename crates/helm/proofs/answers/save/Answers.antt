use Rattle.std.proofs.Common.{◌≡◌, ◌+◌, arith, ap, ◌∙◌, [], take, length}
use Rattle.tx_list.specs.Moves.{activated}
use Rattle.tx_list.specs.declared.State.TheVariants.{Done}
use Rattle.session.specs.AnswersLaws.{count_appended}
use Rattle.helm.specs.declared.steps.Step.{Step}
use Rattle.helm.specs.Stored.{session_at}
use Rattle.helm.specs.Steps.{told_step}
use Rattle.helm.proofs.answers.save.Goals as goal

pub returns-clause-left : goal.returns-clause-left
unfolding activated
returns-clause-left g c =
    let s = g.M.Arrays.stored c.args.memory.now in
    let n = c.args.tested.numbers in
    let k : n.saved + n.fresh ≡ n.saved + length (take n.fresh s.fresh) = count_appended s.fresh n.saved n.fresh (omega (arith, c.sized.ensures.fresh, c.args.tested.within.fresh)) in
    λ st.
    ap (λ (r : Step). told_step r (g.M.Arrays.stored c.save_fresh.new.self)) c.awaiting.ensures
    ∙ (λ i. record { sent = []; sync = session_at Done (record n { saved = k i; due = c.args.at.ms + 10000 }) (c.save_fresh.ensures i) })
