-- Laws of a session in lent memory. Assumes nothing.
use Rattle.std.specs.Prelude.{ℕ, ◌≡◌, refl, Bool, true, false, [], eqb}
use Rattle.std.proofs.Common.{sym, ap, ◌∙◌, ne_eqb}
use Rattle.field.specs.Pick.{pick}
use Rattle.lists.specs.declared.F2List.{F2List}
use Rattle.lists.specs.Format2.{no_parts}
use Rattle.tx_list.proofs.LiveLists.{false_true}
use Rattle.tx_list.specs.Session.{known_max}
use Rattle.tx_list.specs.Memory.{Sized}
use Rattle.tx_list.specs.Moves.{sound_in}
use Rattle.session.specs.Sync.{Sync, kind}
use Rattle.session.specs.Sound.{counts_of}
use Rattle.session.specs.SyncLaws.{sound_same}
use Rattle.session.specs.Lent.{Totals, Numbers, Arrays, lent, Fits, counted, parts_of, sync_of, numbers_of, arrays_of, sound_for, Hand, hand}

-- no arrays at all, for what holds whatever stands in them
abbrev pub nowhere : Arrays
nowhere = lent [] [] [] [] [] [] [] [] no_parts

-- taken apart and put together again
pub back : (s : Sync) → sync_of (numbers_of s) (arrays_of s) ≡ s
back s = refl

-- the arrays' lengths are the session's
pub sized : (x : Numbers) (a : Arrays) → Fits a → Sized kind (sync_of x a)
unfolding known_max
sized x a z =
    record {
      wanted = z.wanted_64;
      owed = z.owed_64;
      fresh = z.fresh_64;
      list = z.list_1024;
      known = z.known_1344;
      saved = z.saved_256;
      present = z.present_256;
      refused = z.refused_256;
    }

-- 16, by the numbers
pub sound_flat : (x : Numbers) (a : Arrays) → sound_for x ≡ sound_in kind (sync_of x a)
unfolding sound_for
sound_flat x a = sound_same (sync_of x a)

-- a choice whose test is known
pub chosen : {A : Type 0} {b : Bool} (x y : A) → b ≡ true → x ≡ pick b x y
chosen x y e = rw e

pub other : {A : Type 0} {b : Bool} (x y : A) → b ≡ false → y ≡ pick b x y
other x y e = rw e

-- What holds the same sessions is the same: nothing of the numbers is left open by a contract that tells the session for every list of parts

-- a list of parts that is not the empty one
abbrev sized_parts : F2List
sized_parts =
    record {
      supported = record { sized = true; size = no_parts.supported.size; entries = no_parts.supported.entries };
      enabled = no_parts.enabled;
      proprietary = no_parts.proprietary;
    }

blank_by : (b c : Bool) (m n : ℕ) → ((f : F2List) → counted m (pick b no_parts f) ≡ counted n (pick c no_parts f)) → b ≡ c
blank_by true true m n h = refl
blank_by false false m n h = refl
blank_by true false m n h = false_true (ap (λ (p : F2List). p.supported.sized) (h sized_parts))
blank_by false true m n h = false_true (sym (ap (λ (p : F2List). p.supported.sized) (h sized_parts)))

pub blank_told : (x y : Totals) → ((f : F2List) → parts_of x f ≡ parts_of y f) → x.blank ≡ y.blank
blank_told x y h = blank_by x.blank y.blank x.counts.proprietary y.counts.proprietary h

pub numbers_tell : (x y : Numbers) (a b : F2List → Arrays) → ((f : F2List) → (a f).f2 ≡ f) → ((f : F2List) → (b f).f2 ≡ f)
    → ((f : F2List) → sync_of x (a f) ≡ sync_of y (b f)) → x ≡ y
numbers_tell x y a b p q h =
    let e = h no_parts in
    λ i.
    record {
      state = (e i).state;
      totals =
          record {
            counts = counts_of (e i);
            deadline = (e i).deadline;
            read = (e i).is_known;
            complete = (e i).complete;
            told = (e i).told;
            version = (e i).version;
            blank =
                blank_told x.totals y.totals
                (λ f. ap (parts_of x.totals) (sym (p f)) ∙ ap (λ (s : Sync). s.f2) (h f) ∙ ap (parts_of y.totals) (q f)) i;
          };
    }

-- what `part` hands back: in a refusal what it was lent, else what the message left in hand
pub hand_kept : {n k : ℕ} (x : Numbers) (f : F2List) (h : Hand) → (k ≡ 0 → ⊥) → n ≡ k → hand x f ≡ pick (eqb n 0) h (hand x f)
hand_kept {n} {k} x f h z e = sym (ap (λ (b : Bool). pick b h (hand x f)) (ap (λ (m : ℕ). eqb m 0) e ∙ ne_eqb k 0 z))

pub hand_given : {n : ℕ} (h g : Hand) → n ≡ 0 → h ≡ pick (eqb n 0) h g
hand_given h g e = ap (λ (n : ℕ). pick (eqb n 0) h g) (sym e)
