-- What a well formed state leaves room for, phase by phase, and a message's step by phase. Assumes nothing.
use Prim.Native.Nat.{ℕ, ◌+◌, ◌≤◌, ◌<◌}
use native.Mathlib.Omega.{arith}
use mathlib.Core.Path.{◌≡◌, refl, sym, ap, ◌∙◌, subst}
use mathlib.Core.Bool.{true, false, ◌&&◌}
use mathlib.Core.List.{List}
use borrow.Author.Tests.{ltb-true}
use Rattle.lists.specs.declared.F2List.{F2List}
use Rattle.lists.specs.Format2.{formed}
use Rattle.tx_list.specs.declared.State.{State}
use Rattle.tx_list.specs.declared.State.TheVariants.{AwaitStartup, ReadAt, ReadingF2, Reading as ReadingF1, Enabling, Committing, Activating, Done}
use Rattle.tx_list.specs.Views.{f1_of, f2_of}
use Rattle.tx_list.specs.Session.{all_le, AllLe, known_max}
use Rattle.tx_list.specs.Memory.{Flat, counts}
use Rattle.tx_list.proofs.LiveLists.{false_true}
use Rattle.tx_list.specs.Moves.{format_in, owes_in, sums_in, sound_in, full_in, in_f1, in_f2, heard}
use Rattle.field.specs.Tests.{left_true}
use Rattle.tx_list.proofs.MovesSound.{sound_counts, sound_owes, sound_sums}
use Rattle.session.specs.Sync.{Sync, kind, over_list, Stepped, step_of}
use Rattle.session.specs.Lent.{reads_f2}

module _ (s : Sync) (e : sound_in kind s ≡ true) where
  pub within : AllLe (counts kind s)
  within = sound_counts kind s e

  pub parts_formed : formed s.f2 ≡ true
  unfolding sound_in
  parts_formed =
      left_true (formed s.f2) (all_le (counts kind s))
      (left_true (formed s.f2 && all_le (counts kind s))
      (format_in true s.state && (owes_in s.state s.owed.n && all_le (sums_in kind s.state s)))
      e)

  pub enabling_room :
      s.state ≡ Enabling
      → (s.owed.n ≤ 64)
      × (s.known.n < 1344)
      × (s.present.n < 256)
      × (s.refused.n < 256)
      × (s.fresh.n < 64)
  unfolding known_max
  enabling_room q =
      let o : owes_in Enabling s.owed.n ≡ true = subst (λ (st : State). owes_in st s.owed.n ≡ true) q (sound_owes kind s e) in
      let u : AllLe (sums_in kind Enabling s) = subst (λ (st : State). AllLe (sums_in kind st s)) q (sound_sums kind s e) in
      let n : 0 < s.owed.n = ltb-true 0 s.owed.n o in
      let w : AllLe (counts kind s) = within in
      (omega arith, omega arith, omega arith, omega arith, omega arith)

  pub activating_room :
      s.state ≡ Activating → (s.saved.n + s.fresh.n ≤ 256) × (s.fresh.n ≤ 64)
  activating_room q =
      let u : AllLe (sums_in kind Activating s) = subst (λ (st : State). AllLe (sums_in kind st s)) q (sound_sums kind s e) in
      let w : AllLe (counts kind s) = within in
      (omega arith, omega arith)

-- 14, while Format 1 is read
pub not_over : (s : Sync) (m : List ℕ) {a : ℕ} → s.state ≡ ReadingF1 a → full_in kind s.state s m ≡ false → over_list s.list.n m ≡ false
not_over s m {a} q e = ap (λ (st : State). full_in kind st s m) (sym q) ∙ e

-- the phase of an arm is the state's
pub by_state :
    (s : Sync) (t : ℕ) (m : List ℕ) {p : State} {r : Stepped}
    → s.state ≡ p
    → r ≡ step_of (heard kind p s t m)
    → r ≡ step_of (heard kind s.state s t m)
by_state s t m e h = h ∙ ap (λ (q : State). step_of (heard kind q s t m)) (sym e)

pub hears_f1 : (s : Sync) (t : ℕ) (m : List ℕ) (n : ℕ) {r : Stepped} → r ≡ step_of (in_f1 kind (f1_of m) s t) → r ≡ step_of (heard kind (ReadingF1 n) s t m)
unfolding heard
hears_f1 s t m n e = e

-- a message while Format 2 is read: 14 cannot be, and what it does
pub never_full : (st : State) (h : Flat F2List ℕ) (m : List ℕ) → reads_f2 st ≡ true → full_in kind st h m ≡ false
never_full AwaitStartup h m e = refl
never_full ReadAt h m e = refl
never_full (ReadingF2 n) h m e = refl
never_full (ReadingF1 n) h m e = false_true e
never_full Enabling h m e = refl
never_full Committing h m e = refl
never_full Activating h m e = refl
never_full Done h m e = refl

pub hears_part_law : (st : State) (h : Flat F2List ℕ) (t : ℕ) (m : List ℕ) → reads_f2 st ≡ true → in_f2 kind (f2_of m) h t m ≡ heard kind st h t m
unfolding heard
hears_part_law AwaitStartup h t m e = false_true e
hears_part_law ReadAt h t m e = false_true e
hears_part_law (ReadingF2 n) h t m e = refl
hears_part_law (ReadingF1 n) h t m e = false_true e
hears_part_law Enabling h t m e = false_true e
hears_part_law Committing h t m e = false_true e
hears_part_law Activating h t m e = false_true e
hears_part_law Done h t m e = false_true e
