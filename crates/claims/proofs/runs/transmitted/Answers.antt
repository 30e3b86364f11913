-- `claims::transmitted` states what Session proves. Assumes nothing.
use Rattle.claims.specs.Session as session
use Rattle.claims.proofs.runs.transmitted.Goals as goal

pub returns : goal.returns
returns c = session.transmitted
