use Rattle.std.proofs.Common.{sym, ◌∙◌}
use Rattle.helm.proofs.stored.Numbers.is_full.Goals as goal

pub returns-in-AwaitStartup : goal.returns-in-AwaitStartup
returns-in-AwaitStartup c = λ s. rw (sym c.state.ensures ∙ c.in-AwaitStartup.is)

pub returns-in-ReadAt : goal.returns-in-ReadAt
returns-in-ReadAt c = λ s. rw (sym c.state.ensures ∙ c.in-ReadAt.is)

pub returns-in-Reading : goal.returns-in-Reading
returns-in-Reading c = λ s. rw (sym c.state.ensures ∙ c.in-Reading.is) c.passes.ensures

pub returns-in-ReadingF2 : goal.returns-in-ReadingF2
returns-in-ReadingF2 c = λ s. rw (sym c.state.ensures ∙ c.in-ReadingF2.is)

pub returns-in-Enabling : goal.returns-in-Enabling
returns-in-Enabling c = λ s. rw (sym c.state.ensures ∙ c.in-Enabling.is)

pub returns-in-Committing : goal.returns-in-Committing
returns-in-Committing c = λ s. rw (sym c.state.ensures ∙ c.in-Committing.is)

pub returns-in-Activating : goal.returns-in-Activating
returns-in-Activating c = λ s. rw (sym c.state.ensures ∙ c.in-Activating.is)

pub returns-in-Done : goal.returns-in-Done
returns-in-Done c = λ s. rw (sym c.state.ensures ∙ c.in-Done.is)
