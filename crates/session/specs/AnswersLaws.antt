-- Laws of what is heard while enabling, committing and activating, and of a count beside what is written. Assumes nothing.
use Rattle.std.specs.Prelude.{ℕ, ◌+◌, ◌-◌, ◌≤◌, ◌≡◌, refl, Bool, true, false, not, ◌&&◌, List, length, take, drop}
use Rattle.std.proofs.Common.{arith, length-drop, length-take-le}
use Rattle.std.proofs.Math.Bool.{and_assoc}
use Rattle.lists.specs.declared.F2List.{F2List}
use Rattle.tx_list.specs.Views.{has, Answer, enabled, there, denied, is_good, is_there, is_denied, is_fresh, starts, is_answer, answer_of, ack_of, ack_by, good, nothing}
use Rattle.tx_list.specs.Memory.{Buf, live, Flat}
use Rattle.tx_list.specs.Moves.{push_if, with_known, with_record, with_owed, heard, answered, goes_on, oldest, marks, stays, committed, activated}
use Rattle.tx_list.specs.declared.State.TheVariants.{Enabling, Committing, Activating}
use Rattle.session.specs.Sync.{kind}

-- error 0
unfoldable pub is_now : Answer → Bool
is_now enabled = true
is_now there = false
is_now denied = false

pub fresh_now : (a : Answer) (p : ℕ) (l : List ℕ) → (is_now a && not (has p l)) ≡ is_fresh a p l
unfolding is_now is_fresh
fresh_now enabled p l = refl
fresh_now there p l = refl
fresh_now denied p l = refl

-- what an answer passes: good, enabled now, already there, refused
pub record Tests : Type 0 where
  pub good : Bool
  pub now : Bool
  pub there : Bool
  pub denied : Bool

-- of this answer
abbrev pub tests_of : Answer → Tests
tests_of a = record { good = is_good a; now = is_now a; there = is_there a; denied = is_denied a }

-- the known list, the record and the fresh ones after an answer to p: each pushed to where its test passed
pub marks_is : (h : Flat F2List ℕ) (m : List ℕ) {a : Answer} {x : Tests} {p : ℕ} {lacked unsaved : Bool} {k r q u : Buf ℕ}
    → a ≡ answer_of m
    → x ≡ tests_of a
    → p ≡ oldest kind h
    → lacked ≡ ((h.is_known && x.good) && not (has p (live h.known)))
    → unsaved ≡ (x.now && not (has p (live h.saved)))
    → k ≡ push_if lacked h.known p
    → r ≡ push_if x.there h.present p
    → q ≡ push_if x.denied h.refused p
    → u ≡ push_if unsaved h.fresh p
    → with_owed (with_record (with_known h h.is_known h.complete k) h.saved r q) h.owed u ≡ marks kind h m (answer_of m)
marks_is h m ea ex ep el es ek er eq eu = rw (ek, er, eq, eu, el, es, ex, ea, ep, and_assoc, fresh_now)

-- the answer to commit or activate, by its first byte
ack_good : (b : ℕ) (m : List ℕ) → starts b m ≡ true → ack_of false b m ≡ good
unfolding ack_of ack_by
ack_good b m e = rw e

ack_nothing : (b : ℕ) (m : List ℕ) → starts b m ≡ false → ack_of false b m ≡ nothing
unfolding ack_of ack_by
ack_nothing b m e = rw e

-- a message, by its first byte
module _ (h : Flat F2List ℕ) (t : ℕ) (m : List ℕ) where
  pub enabling_answer : starts 0x47 m ≡ true → heard kind Enabling h t m ≡ goes_on kind (marks kind h m (answer_of m)) t
  unfolding heard is_answer answered
  enabling_answer e = rw e

  pub enabling_other : starts 0x47 m ≡ false → heard kind Enabling h t m ≡ stays h
  unfolding heard is_answer
  enabling_other e = rw e

  pub committing_answer : starts 0x01 m ≡ true → heard kind Committing h t m ≡ committed kind good h t
  unfolding heard
  committing_answer e = rw (ack_good 0x01 m e)

  pub committing_other : starts 0x01 m ≡ false → heard kind Committing h t m ≡ stays h
  unfolding heard committed
  committing_other e = rw (ack_nothing 0x01 m e)

  pub activating_answer : starts 0x4B m ≡ true → heard kind Activating h t m ≡ activated kind good h t
  unfolding heard
  activating_answer e = rw (ack_good 0x4B m e)

  pub activating_other : starts 0x4B m ≡ false → heard kind Activating h t m ≡ stays h
  unfolding heard activated
  activating_other e = rw (ack_nothing 0x4B m e)

-- the count of the first n without the very first, and after the first n of another list
pub count_shifted : (l : List ℕ) (n : ℕ) → n ≤ length l → n - 1 ≡ length (drop 1 (take n l))
count_shifted l n h = omega (arith, length-drop 1 (take n l), length-take-le n l h)

pub count_appended : (l : List ℕ) (at n : ℕ) → n ≤ length l → at + n ≡ at + length (take n l)
count_appended l at n h = omega (arith, length-take-le n l h)
