-- `claims::delivery` states what Framing proves. Assumes nothing.
use Rattle.claims.specs.Framing as framing
use Rattle.claims.proofs.wire.delivery.Goals as goal

pub returns : goal.returns
returns c = framing.delivery
