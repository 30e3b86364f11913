-- `transcript::area::Transcript::answer_written` meets its contract. Assumes nothing.
use Rattle.std.proofs.Common.{rules}
use Rattle.field.specs.Fields.{bytes_of}
use Rattle.transcript.proofs.answer.Transcript.answer_written.Goals as goal

pub returns-clause-told : goal.returns-clause-told
unfolding bytes_of
returns-clause-told g c = search rules
