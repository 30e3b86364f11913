use Rattle.std.proofs.Common.{ap, ◌∙◌, [], ◌+◌}
use Rattle.tx_list.specs.declared.State.TheVariants.{ReadingF2}
use Rattle.helm.specs.declared.steps.Step.{Step}
use Rattle.helm.specs.Stored.{session_at}
use Rattle.helm.specs.Steps.{told_step}
use Rattle.helm.proofs.parts.keep.Goals as goal

pub returns-clause-left : goal.returns-clause-left
returns-clause-left g c =
    ap (λ (r : Step). told_step r (g.M.Arrays.stored c.set_parts.new.self)) c.awaiting.ensures
    ∙ (λ i. record { sent = []; sync = session_at (ReadingF2 c.args.attempt) (record c.args.old { proprietary = c.args.parts.proprietary.list.n; blank = 0; due = c.args.at.ms + 10000 }) (c.set_parts.ensures i) })
