-- `claims::soundness` states what Framing proves. Assumes nothing.
use Rattle.claims.specs.Framing as framing
use Rattle.claims.proofs.wire.soundness.Goals as goal

pub returns-clause-told : goal.returns-clause-told
returns-clause-told c = λ buf fed i cmd n h b l. (framing.soundness buf fed i cmd n h b l).0

pub returns-clause-ends : goal.returns-clause-ends
returns-clause-ends c = λ buf fed i cmd n h b l. (framing.soundness buf fed i cmd n h b l).1
