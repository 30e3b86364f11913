-- `claims::rows` states what Rows proves. Assumes nothing.
use Rattle.claims.specs.Rows as rows
use Rattle.claims.proofs.wire.rows.Goals as goal

pub returns : goal.returns
returns c = rows.rows
