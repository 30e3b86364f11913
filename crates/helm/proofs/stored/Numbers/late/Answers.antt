-- `late` meets its contract.
use Rattle.std.proofs.Common.{ap, refl, ◌∙◌}
use Rattle.tx_list.specs.Moves.{late}
use Rattle.helm.specs.declared.steps.Step.{Step}
use Rattle.helm.specs.Steps.{told_step}
use Rattle.helm.proofs.stored.Numbers.late.Goals as goal

pub returns-in-AwaitStartup : goal.returns-in-AwaitStartup
unfolding late
returns-in-AwaitStartup c = λ s. ap (λ (q : Step). told_step q s) c.stay.ensures ∙ (rw c.in-AwaitStartup.is refl)

pub returns-in-Enabling : goal.returns-in-Enabling
unfolding late
returns-in-Enabling c = λ s. rw c.in-Enabling.is (c.finish.ensures c.args.limits c.args.state s)

pub returns-in-Committing : goal.returns-in-Committing
unfolding late
returns-in-Committing c = λ s. rw c.in-Committing.is (c.finish-in-Committing.ensures c.args.limits c.args.state s)

pub returns-in-Activating : goal.returns-in-Activating
unfolding late
returns-in-Activating c = λ s. rw c.in-Activating.is (c.finish-in-Activating.ensures c.args.limits c.args.state s)

pub returns-in-Done : goal.returns-in-Done
unfolding late
returns-in-Done c = λ s. ap (λ (q : Step). told_step q s) c.stay-in-Done.ensures ∙ (rw c.in-Done.is refl)
