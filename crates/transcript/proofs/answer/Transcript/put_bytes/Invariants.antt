-- The loop of `transcript::answer::Transcript::put_bytes`: the bytes so far are put.
use Rattle.std.proofs.Common.{take}
use Rattle.transcript.specs.Log.{puts}
use Rattle.transcript.specs.Told.{told, Tells}
use Rattle.transcript.proofs.answer.Transcript.put_bytes.Given as goal

abbrev pub invariant-loop-b : goal.invariant-loop-b
invariant-loop-b l = Tells l.initial.self l.self (puts (told l.initial.self) (take l.b-index l.bytes))
