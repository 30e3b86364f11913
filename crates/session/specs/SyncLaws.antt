-- Laws of a session in arrays and counts: the test for 16 on its counts. Assumes nothing.
use Rattle.std.specs.Prelude.{◌≡◌, refl, Bool, true, ◌&&◌}
use Rattle.std.proofs.Common.{ap₂}
use Rattle.field.specs.Tests.{and_true, and_assoc}
use Rattle.lists.specs.Format2.{formed}
use Rattle.tx_list.specs.Session.{all_le, known_max}
use Rattle.tx_list.specs.Memory.{counts}
use Rattle.tx_list.specs.Moves.{format_in, owes_in, sums_in, sound_in}
use Rattle.tx_list.specs.declared.State.{State}
use Rattle.tx_list.specs.declared.State.TheVariants.{AwaitStartup, ReadAt, ReadingF2, Reading as ReadingF1, Enabling, Committing, Activating, Done}
use Rattle.bounds.specs.Bounds.{counts_fit, sums_fit, sound_at}
use Rattle.session.specs.Sync.{Sync, kind}
use Rattle.session.specs.Sound.{helm, counts_of}

counts_same : (s : Sync) → counts_fit helm (counts_of s) ≡ (formed s.f2 && all_le (counts kind s))
unfolding formed known_max
counts_same s = simp (and_assoc, and_true)

sums_same : (s : Sync) (st : State) → sums_fit helm (counts_of s) st ≡ all_le (sums_in kind st s)
unfolding known_max
sums_same s AwaitStartup = simp (and_assoc, and_true)
sums_same s ReadAt = simp (and_assoc, and_true)
sums_same s (ReadingF2 a) = simp (and_assoc, and_true)
sums_same s (ReadingF1 a) = simp (and_assoc, and_true)
sums_same s Enabling = simp (and_assoc, and_true)
sums_same s Committing = simp (and_assoc, and_true)
sums_same s Activating = simp (and_assoc, and_true)
sums_same s Done = refl

pub sound_same : (s : Sync) → sound_at helm (counts_of s) s.state ≡ sound_in kind s
unfolding sound_in
sound_same s =
    ap₂ (λ (x y : Bool). x && (format_in true s.state && (owes_in s.state s.owed.n && y))) (counts_same s) (sums_same s s.state)
