-- `claims::arrival` states what Replies proves. Assumes nothing.
use Rattle.claims.specs.Replies as replies
use Rattle.claims.proofs.wire.arrival.Goals as goal

pub returns : goal.returns
returns c = replies.arrival
