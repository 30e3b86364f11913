-- The loop of `transcript::answer::Transcript::fill`: the byte is put so many times.
use Rattle.std.proofs.Common.{replicate}
use Rattle.transcript.specs.Log.{puts}
use Rattle.transcript.specs.Told.{told, Tells}
use Rattle.transcript.proofs.answer.Transcript.fill.Given as goal

abbrev pub invariant-loop : goal.invariant-loop
invariant-loop l = Tells l.initial.self l.self (puts (told l.initial.self) (replicate l.counter l.b))
