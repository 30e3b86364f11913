-- `ticked` meets its contract.
use Rattle.std.proofs.Common.{arith, ap, ◌∙◌, le-leb}
use borrow.Author.Tests.{lt-leb}
use Rattle.tx_list.specs.Moves.{late, ticked}
use Rattle.tx_list.specs.declared.State.{State}
use Rattle.session.specs.Sync.{step_of}
use Rattle.std.specs.Prelude.{None}
use Rattle.helm.specs.declared.steps.Step.{Step}
use Rattle.helm.specs.Stored.{kind_of, session_at}
use Rattle.helm.specs.Steps.{told_step}
use Rattle.helm.proofs.stored.Numbers.ticked.Goals as goal

pub returns-then-self-ms : goal.returns-then-self-ms
unfolding ticked
returns-then-self-ms c = λ s.
    rw (le-leb c.args.self.due c.args.at.ms (omega (arith, c.if-self-ms.true, c.ms.ensures)))
    (c.late.ensures s ∙ ap (λ (st : State). step_of (late (kind_of c.args.limits) st (session_at st c.args.self s) c.args.at.ms)) c.state-state.ensures)

pub returns-else-self-ms : goal.returns-else-self-ms
unfolding ticked
returns-else-self-ms c = λ s.
    rw (lt-leb c.args.self.due c.args.at.ms (omega (arith, c.if-self-ms.false, c.ms.ensures)))
    (ap (λ (q : Step). told_step q s) c.stay.ensures ∙ ap (λ (st : State). told_step (record { sent = None; state = st; numbers = c.args.self }) s) c.state-state.ensures)
