-- `claims::no_other_reading` states what Replies proves. Assumes nothing.
use Rattle.claims.specs.Replies as replies
use Rattle.claims.proofs.wire.no_other_reading.Goals as goal

pub returns : goal.returns
returns c = replies.no_other_reading
