-- Calls that change nothing, in lent memory: what is_idle and ignores say, and that such a call is taken and does nothing. Assumes nothing.
use Prim.Native.Nat.{ℕ, ◌+◌, ◌≤◌, ◌<◌}
use native.Mathlib.Omega.{arith}
use mathlib.Core.Path.{◌≡◌, refl, sym, ap, ◌∙◌}
use mathlib.Core.Bool.{Bool, true, false, not, ◌&&◌}
use mathlib.Core.List.{List}
use lib.Dec.{leb, ltb}
use lib.ListN.{length}
use borrow.Author.Tests.{not-true, not-false, le-leb, lt-leb, le-ltb, leb-true}
use Rattle.field.specs.Pick.{pick}
use Rattle.field.specs.Tests.{left_true, right_true}
use Rattle.lists.specs.declared.F2List.{F2List}
use Rattle.views.specs.ViewsLaws.{f1_other, f2_other}
use Rattle.tx_list.specs.declared.State.{State}
use Rattle.tx_list.specs.declared.State.TheVariants.{AwaitStartup, ReadAt, ReadingF2, Reading as ReadingF1, Enabling, Committing, Activating, Done}
use Rattle.tx_list.specs.Views.{parsed, no_error, F1, added, F2, is_answer, ack_by, ack_of}
use Rattle.tx_list.specs.Reading.{Verdict, message, tick, taken, refuse, vet_message}
use Rattle.tx_list.specs.Session.{AllLe}
use Rattle.tx_list.specs.Stored.{wire}
use Rattle.tx_list.specs.Memory.{Flat, counts}
use Rattle.tx_list.specs.Moves.{Moved, stays, waits_from, answered, committed, activated, in_f1, in_f2, heard, late, ticked, full_in, sound_in}
use Rattle.tx_list.proofs.LiveLists.{false_true}
use Rattle.session.specs.Sync.{Sync, kind, Told, called, step_of, wrote_step}
use Rattle.session.specs.Lent.{Numbers, Arrays, Fits, sync_of, refused_with, Admitted, sound_for, waits_in, due_at, minds_in, idle_at, ignored_at}
use Rattle.session.specs.LentLaws.{sized, sound_flat}
use Rattle.session.proofs.CallLaws.{by_verdict, tick_by, message_by, unsound, judged, tick_taken, message_far, message_long, message_small, message_full, message_taken}
use Rattle.session.proofs.HeardLaws.{within}

-- 16, by is_sound's answer
module _ (x : Numbers) (a : Arrays) {y : Bool} (e : y ≡ sound_for x) where
  pub sound_no : not y ≡ true → sound_in kind (sync_of x a) ≡ false
  sound_no n = sym (sound_flat x a) ∙ sym e ∙ not-true y n

  pub sound_yes : not y ≡ false → sound_in kind (sync_of x a) ≡ true
  sound_yes n = sym (sound_flat x a) ∙ sym e ∙ not-false y n

-- a message, by the tests of `barred`
module _ (x : Numbers) (t : ℕ) (m : List ℕ) (room : ℕ) (out : List ℕ) (a : Arrays) (z : Fits a) {y : Bool} (e : y ≡ sound_for x) where
  abbrev Answers : Told → Type 0
  Answers r = r ≡ called (sync_of x a) (message t m room) out

  abbrev kept : ℕ → Told
  kept n = refused_with n x a out

  pub message_16 : not y ≡ true → Answers (kept 16)
  message_16 n = message_by (sync_of x a) t m room out (refuse 16) (sized x a z) (unsound _ _ (sound_no x a e n))

  module _ (s : not y ≡ false) where
    by : (v : Verdict) → vet_message t m room (full_in kind x.state (sync_of x a) m) ≡ v → Answers (by_verdict v (sync_of x a) (heard kind x.state (sync_of x a) t m) out)
    by v g = message_by (sync_of x a) t m room out v (sized x a z) (judged _ _ (sound_yes x a e s) ∙ g)

    pub message_13 : 18446744073709541615 < t → Answers (kept 13)
    message_13 h = by (refuse 13) (message_far t m room _ h)

    module _ (h : t ≤ 18446744073709541615) where
      pub message_6 : 255 < length m → Answers (kept 6)
      message_6 g = by (refuse 6) (message_long t m room _ h g)

      module _ (g : length m ≤ 255) where
        pub message_7 : room < 32 → Answers (kept 7)
        message_7 k = by (refuse 7) (message_small t m room _ h g k)

        module _ (k : 32 ≤ room) where
          pub message_14 : full_in kind x.state (sync_of x a) m ≡ true → Answers (kept 14)
          message_14 f = by (refuse 14) (message_full t m room _ h g k f)

-- a message that no test refuses does what the phase says
pub admitted : (x : Numbers) (t : ℕ) (m : List ℕ) (room : ℕ) (out : List ℕ) (a : Arrays) → Fits a → Admitted x t m room
    → wrote_step (step_of (heard kind x.state (sync_of x a) t m)) out ≡ called (sync_of x a) (message t m room) out
admitted x t m room out a z p =
    message_by (sync_of x a) t m room out taken (sized x a z)
    (judged _ _ (sym (sound_flat x a) ∙ p.sound) ∙ message_taken t m room _ p.early p.short p.roomy (p.unfilled a))

-- is_idle, by its tests
module _ (x : Numbers) (t room : ℕ) where
  pub idle_unsound : sound_for x ≡ false → false ≡ idle_at x t room
  unfolding idle_at
  idle_unsound e = rw e

  pub idle_far : sound_for x ≡ true → 18446744073709541615 < t → false ≡ idle_at x t room
  unfolding idle_at
  idle_far e h = rw (e, lt-leb t 18446744073709541615 h)

  pub idle_small : sound_for x ≡ true → t ≤ 18446744073709541615 → room < 32 → false ≡ idle_at x t room
  unfolding idle_at
  idle_small e h g = rw (e, le-leb t 18446744073709541615 h, lt-leb 32 room g)

  pub idle_by : {y : Bool} → sound_for x ≡ true → t ≤ 18446744073709541615 → 32 ≤ room → y ≡ due_at x t → not y ≡ idle_at x t room
  unfolding idle_at
  idle_by e h g q = rw (e, le-leb t 18446744073709541615 h, le-leb 32 room g) (ap not q)

-- ignores, by its tests
module _ (x : Numbers) (t : ℕ) (m : List ℕ) (room : ℕ) where
  pub ignored_unsound : sound_for x ≡ false → false ≡ ignored_at x t m room
  unfolding ignored_at
  ignored_unsound e = rw e

  pub ignored_far : sound_for x ≡ true → 18446744073709541615 < t → false ≡ ignored_at x t m room
  unfolding ignored_at
  ignored_far e h = rw (e, lt-leb t 18446744073709541615 h)

  pub ignored_long : sound_for x ≡ true → t ≤ 18446744073709541615 → 255 < length m → false ≡ ignored_at x t m room
  unfolding ignored_at
  ignored_long e h l = rw (e, le-leb t 18446744073709541615 h, lt-leb (length m) 255 l)

  pub ignored_small : sound_for x ≡ true → t ≤ 18446744073709541615 → length m ≤ 255 → room < 32 → false ≡ ignored_at x t m room
  unfolding ignored_at
  ignored_small e h l g = rw (e, le-leb t 18446744073709541615 h, le-leb (length m) 255 l, lt-leb 32 room g)

  pub ignored_by :
      {y : Bool}
      → sound_for x ≡ true
      → t ≤ 18446744073709541615
      → length m ≤ 255
      → 32 ≤ room
      → y ≡ minds_in x.state m
      → not y ≡ ignored_at x t m room
  unfolding ignored_at
  ignored_by e h l g q =
      rw (e, le-leb t 18446744073709541615 h, le-leb (length m) 255 l, le-leb 32 room g) (ap not q)

-- a tick that is not due does nothing

late_quiet : (st : State) (h : Flat F2List ℕ) (t : ℕ) → waits_in st ≡ false → late kind st h t ≡ stays h
unfolding late
late_quiet AwaitStartup h t e = refl
late_quiet ReadAt h t e = false_true (sym e)
late_quiet (ReadingF2 n) h t e = false_true (sym e)
late_quiet (ReadingF1 n) h t e = false_true (sym e)
late_quiet Enabling h t e = false_true (sym e)
late_quiet Committing h t e = false_true (sym e)
late_quiet Activating h t e = false_true (sym e)
late_quiet Done h t e = refl

tick_quiet : (h : Flat F2List ℕ) (t : ℕ) (y : Bool) → (y && waits_in h.state) ≡ false → pick y (late kind h.state h t) (stays h) ≡ stays h
tick_quiet h t true e = late_quiet h.state h t e
tick_quiet h t false e = refl

ticked_quiet : (x : Numbers) (a : Arrays) (t : ℕ) → due_at x t ≡ false → ticked kind (sync_of x a) t ≡ stays (sync_of x a)
unfolding ticked due_at
ticked_quiet x a t e = tick_quiet (sync_of x a) t (leb x.totals.deadline t) e

-- nor does a message that is not minded

heard_quiet : (st : State) (h : Flat F2List ℕ) (t : ℕ) (m : List ℕ) → minds_in st m ≡ false → heard kind st h t m ≡ stays h
unfolding heard minds_in in_f1 in_f2 is_answer ack_of ack_by committed activated
heard_quiet AwaitStartup h t m e = ap (λ (y : Bool). pick y (waits_from kind h t) (stays h)) e
heard_quiet ReadAt h t m e = refl
heard_quiet (ReadingF2 n) h t m e = ap (λ (v : F2). in_f2 kind v h t m) (sym (f2_other m e))
heard_quiet (ReadingF1 n) h t m e = ap (λ (v : F1). in_f1 kind v h t) (sym (f1_other m e))
heard_quiet Enabling h t m e = ap (λ (y : Bool). pick y (answered kind h t m) (stays h)) e
heard_quiet Committing h t m e = ap (λ (y : Bool). committed kind (ack_by y false (parsed m && no_error m)) h t) e
heard_quiet Activating h t m e = ap (λ (y : Bool). activated kind (ack_by y false (parsed m && no_error m)) h t) e
heard_quiet Done h t m e = refl

-- and it brings no PGN, so that the list is not over (14)
full_quiet :
    (s : Sync) (st : State) (m : List ℕ)
    → sound_in kind s ≡ true
    → minds_in st m ≡ false
    → full_in kind st s m ≡ false
unfolding minds_in added
full_quiet s AwaitStartup m w e = refl
full_quiet s ReadAt m w e = refl
full_quiet s (ReadingF2 n) m w e = refl
full_quiet s (ReadingF1 n) m w e =
    let b : AllLe (counts kind s) = within s w in
    let l : s.list.n + 0 ≤ 1024 = omega arith in
    ap (λ (v : F1). ltb 1024 (s.list.n + length (added v))) (sym (f1_other m e)) ∙ le-ltb 1024 (s.list.n + 0) l
full_quiet s Enabling m w e = refl
full_quiet s Committing m w e = refl
full_quiet s Activating m w e = refl
full_quiet s Done m w e = refl

-- nothing is sent and nothing changes
stays_told : (s : Sync) (out : List ℕ) → wrote_step (step_of (stays s)) out ≡ record { number = 0; count = 0; sync = s; out = out }
unfolding wire
stays_told s out = refl

-- A TICK WHILE IDLE is taken and does nothing
pub idle_quiet :
    (x : Numbers) (a : Arrays) (t room : ℕ) (out : List ℕ)
    → Fits a
    → idle_at x t room ≡ true
    → called (sync_of x a) (tick t room) out ≡ record { number = 0; count = 0; sync = sync_of x a; out = out }
unfolding idle_at
idle_quiet x a t room out z e =
    let d = leb 32 room && not (due_at x t) in
    let f = right_true (sound_for x) (leb t 18446744073709541615 && d) e in
    let g = right_true (leb t 18446744073709541615) d f in
    sym
    (tick_by (sync_of x a) t room out taken (sized x a z)
    (judged (sound_in kind (sync_of x a)) _ (sym (sound_flat x a) ∙ left_true (sound_for x) (leb t 18446744073709541615 && d) e)
    ∙ tick_taken t room (leb-true t 18446744073709541615 (left_true (leb t 18446744073709541615) d f))
    (leb-true 32 room (left_true (leb 32 room) (not (due_at x t)) g))))
    ∙ ap (λ (v : Moved F2List ℕ). wrote_step (step_of v) out)
    (ticked_quiet x a t (not-true (due_at x t) (right_true (leb 32 room) (not (due_at x t)) g)))
    ∙ stays_told (sync_of x a) out

-- A MESSAGE THAT IS IGNORED is taken and does nothing
pub ignored_quiet :
    (x : Numbers) (a : Arrays) (t : ℕ) (m : List ℕ) (room : ℕ) (out : List ℕ)
    → Fits a
    → ignored_at x t m room ≡ true
    → called (sync_of x a) (message t m room) out ≡ record { number = 0; count = 0; sync = sync_of x a; out = out }
unfolding ignored_at
ignored_quiet x a t m room out z e =
    let i = not (minds_in x.state m) in
    let d = leb (length m) 255 && (leb 32 room && i) in
    let w = sym (sound_flat x a) ∙ left_true (sound_for x) (leb t 18446744073709541615 && d) e in
    let f = right_true (sound_for x) (leb t 18446744073709541615 && d) e in
    let g = right_true (leb t 18446744073709541615) d f in
    let j = right_true (leb (length m) 255) (leb 32 room && i) g in
    let q = not-true (minds_in x.state m) (right_true (leb 32 room) i j) in
    sym
    (message_by (sync_of x a) t m room out taken (sized x a z)
    (judged (sound_in kind (sync_of x a)) _ w
    ∙ message_taken t m room (full_in kind x.state (sync_of x a) m)
    (leb-true t 18446744073709541615 (left_true (leb t 18446744073709541615) d f))
    (leb-true (length m) 255 (left_true (leb (length m) 255) (leb 32 room && i) g))
    (leb-true 32 room (left_true (leb 32 room) i j))
    (full_quiet (sync_of x a) x.state m w q)))
    ∙ ap (λ (v : Moved F2List ℕ). wrote_step (step_of v) out) (heard_quiet x.state (sync_of x a) t m q)
    ∙ stays_told (sync_of x a) out
