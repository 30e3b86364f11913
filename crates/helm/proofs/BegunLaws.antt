-- A session that begins in a machine of its own, by the tests.
use Rattle.std.specs.Prelude.{ℕ, ◌<◌, ◌≤◌, ◌≡◌, Bool, true, false, not, ◌&&◌, List, length, leb}
use Rattle.std.proofs.Common.{refl, sym, ap, ◌∙◌, lt-ltb, le-ltb}
use Rattle.field.specs.Tests.{and_true, and_assoc}
use Rattle.tx_list.specs.Reading.{taken, refuse, unless}
use Rattle.tx_list.specs.Session.{Record, begins, unknown, known_max, all_le, old_bounds}
use Rattle.tx_list.specs.Memory.{write_flat}
use Rattle.session.specs.Sync.{Sync, Begun, kind, clear, begun_with}
use Rattle.session.proofs.CallLaws.{begin_by_law}
use Rattle.helm.specs.declared.stored.Which.TheVariants.{Wanted, Saved, Present, Refused}
use Rattle.helm.specs.declared.stored.Numbers.{Numbers}
use Rattle.helm.specs.Stored.{Stored, session_of, opened_with}
use Rattle.helm.specs.Arrays.{storing}
use Rattle.helm.specs.Machines.{helm_blank}

-- no list of the record is over 192
abbrev pub record_fits : Record ℕ → Bool
record_fits r = (leb (length r.saved) 192 && leb (length r.present) 192) && leb (length r.refused) 192

record_same : (r : Record ℕ) → record_fits r ≡ all_le (old_bounds kind r)
record_same r = simp (and_assoc, and_true)

module _ (w : List ℕ) (r : Record ℕ) where
  pub begun_over : 64 < length w → record { number = 11; sync = clear } ≡ begun_with w r
  unfolding unless
  begun_over h = begin_by_law w r (refuse 11) (rw (lt-ltb 64 (length w) h) refl)

  pub begun_record : length w ≤ 64 → record_fits r ≡ false → record { number = 12; sync = clear } ≡ begun_with w r
  unfolding unless
  begun_record h e =
      begin_by_law w r (refuse 12) (rw (le-ltb 64 (length w) h) (ap (λ (y : Bool). unless (not y) 12 taken) (sym (record_same r) ∙ e)))

  -- the blank machine, with these lists stored one after the other
  abbrev pub filled : Stored
  filled =
      storing (storing (storing (storing helm_blank Wanted 0 w) Saved 0 r.saved) Present 0 r.present) Refused 0 r.refused

  abbrev pub counted : Numbers
  counted = record helm_blank.numbers { saved = length r.saved; present = length r.present; refused = length r.refused }

  filled_begins : session_of (opened_with counted (length w)) filled ≡ write_flat clear (begins kind w r)
  unfolding begins unknown known_max
  filled_begins = refl

  pub begun_taken :
      length w ≤ 64
      → record_fits r ≡ true
      → record { number = 0; sync = session_of (opened_with counted (length w)) filled } ≡ begun_with w r
  unfolding unless
  begun_taken h e =
      ap {B = Begun} (λ (x : Sync). record { number = 0; sync = x }) filled_begins
      ∙ begin_by_law w r taken (rw (le-ltb 64 (length w) h) (ap (λ (y : Bool). unless (not y) 12 taken) (sym (record_same r) ∙ e)))
