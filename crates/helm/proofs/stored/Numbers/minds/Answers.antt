use Rattle.std.proofs.Common.{sym, ◌∙◌}
use Rattle.session.specs.Lent.{minds_in}
use Rattle.helm.proofs.stored.Numbers.minds.Goals as goal

pub returns-in-AwaitStartup : goal.returns-in-AwaitStartup
unfolding minds_in
returns-in-AwaitStartup c = rw (sym c.state.ensures ∙ c.in-AwaitStartup.is) c.is_mode.ensures

pub returns-in-ReadAt : goal.returns-in-ReadAt
unfolding minds_in
returns-in-ReadAt c = rw (sym c.state.ensures ∙ c.in-ReadAt.is)

pub returns-in-Reading : goal.returns-in-Reading
unfolding minds_in
returns-in-Reading c = rw (sym c.state.ensures ∙ c.in-Reading.is) c.starts.ensures

pub returns-in-ReadingF2 : goal.returns-in-ReadingF2
unfolding minds_in
returns-in-ReadingF2 c = rw (sym c.state.ensures ∙ c.in-ReadingF2.is) c.is_format2.ensures

pub returns-in-Enabling : goal.returns-in-Enabling
unfolding minds_in
returns-in-Enabling c = rw (sym c.state.ensures ∙ c.in-Enabling.is) c.starts-in-Enabling.ensures

pub returns-in-Committing : goal.returns-in-Committing
unfolding minds_in
returns-in-Committing c = rw (sym c.state.ensures ∙ c.in-Committing.is) c.starts-in-Committing.ensures

pub returns-in-Activating : goal.returns-in-Activating
unfolding minds_in
returns-in-Activating c = rw (sym c.state.ensures ∙ c.in-Activating.is) c.starts-in-Activating.ensures

pub returns-in-Done : goal.returns-in-Done
unfolding minds_in
returns-in-Done c = rw (sym c.state.ensures ∙ c.in-Done.is)
