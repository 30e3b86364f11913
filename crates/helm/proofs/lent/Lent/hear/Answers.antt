use Rattle.helm.specs.PlayedLaws.{loans_held}
use Rattle.helm.proofs.lent.Lent.hear.Goals as goal

pub returns-clause-same : goal.returns-clause-same
returns-clause-same c = loans_held _ _ c.message.ensures.loans
