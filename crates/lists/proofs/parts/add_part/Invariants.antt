-- `lists::parts::add_part` meets its contract. Assumes nothing.
use Rattle.std.proofs.Common.{◌+◌, ◌≡◌}
use lib.Seq.{sets}
use Rattle.lists.specs.Parts.{entries_from}
use Rattle.lists.proofs.parts.add_part.Given as goal

abbrev pub invariant-loop-i : goal.invariant-loop-i
invariant-loop-i g l = l.places ≡ sets l.initial.places l.first (entries_from (g.E.Entry.entry_at l.reply) (l.at + 3) l.i)
