-- What well formed numbers leave room for, and a message's step, phase by phase.
use Rattle.std.specs.Prelude.{ℕ, ◌+◌, ◌<◌, ◌≤◌, ◌≡◌, Bool, true, false, ◌&&◌, List, [], ◌∷◌, length, leb, ltb}
use Rattle.std.proofs.Common.{arith, refl, sym, ap, ◌∙◌, le-ltb, leb-true}
use Rattle.std.proofs.Math.Path.{subst}
use Rattle.std.proofs.Math.Option.{Option, none, some}
use Rattle.std.proofs.lemmas.Bool.Decides.{nat_tests}
use Rattle.field.specs.Pick.{pick}
use Rattle.field.specs.Tests.{left_true, right_true}
use Rattle.bounds.specs.declared.Limits.{Limits}
use Rattle.bounds.specs.Bounds.{counts_fit, sums_fit, sound_at}
use Rattle.lists.specs.declared.F2List.{F2List}
use Rattle.numbers.specs.Layout.{state_of}
use Rattle.views.specs.ViewsLaws.{f1_other, f2_other}
use Rattle.tx_list.proofs.LiveLists.{false_true}
use Rattle.tx_list.specs.declared.State.{State}
use Rattle.tx_list.specs.declared.State.TheVariants.{AwaitStartup, ReadAt, ReadingF2, Reading as ReadingF1, Enabling, Committing, Activating, Done}
use Rattle.tx_list.specs.Views.{parsed, no_error, F1, adds, ends, f1_of, added, F2, wrong, part, neither, f2_of, is_answer, answer_of, Ack, good, bad, nothing, ack_by, ack_of}
use Rattle.tx_list.specs.Moves.{stays, waits_from, asks, marks, answered, goes_on, committed, activated, in_f1, in_f2, in_whole, heard, full_in}
use Rattle.session.specs.AnswersLaws.{enabling_answer, committing_answer, activating_answer}
use Rattle.session.specs.Sync.{Sync, kind, put, Stepped, step_of}
use Rattle.session.specs.Lent.{minds_in}
use Rattle.lists.specs.Format2.{pgns_of}
use Rattle.helm.specs.declared.stored.Numbers.{Numbers}
use Rattle.helm.specs.Stored.{Stored, Within, kind_of, counts_of, is_well_formed, session_at, session_of}
use Rattle.helm.specs.Steps.{minded, heard_by}

pub within : (l : Limits) (n : Numbers) → is_well_formed l n ≡ true → Within l n
within l n e =
    let c : counts_fit l (counts_of n) ≡ true = left_true (counts_fit l (counts_of n)) _ (right_true (leb n.phase 7) (sound_at l (counts_of n) (state_of n.phase n.attempt)) e) in
    record {
      wanted = grind (arith, nat_tests);
      owed = grind (arith, nat_tests);
      fresh = grind (arith, nat_tests);
      list = grind (arith, nat_tests);
      proprietary = grind (arith, nat_tests);
      known = grind (arith, nat_tests);
      saved = grind (arith, nat_tests);
      present = grind (arith, nat_tests);
      refused = grind (arith, nat_tests);
    }

-- enabling, there is room for the answer to the oldest PGN owed
pub record Room (l : Limits) (n : Numbers) : Type 0 where
  pub owed : 0 < n.owed
  pub fresh : n.fresh < l.wanted
  pub known : n.known < l.known
  pub present : n.present < 256
  pub refused : n.refused < 256

sound_in_state : (l : Limits) (n : Numbers) (st : State) → is_well_formed l n ≡ true → state_of n.phase n.attempt ≡ st → sound_at l (counts_of n) st ≡ true
sound_in_state l n st e q =
    subst (λ (x : State). sound_at l (counts_of n) x ≡ true) q (right_true (leb n.phase 7) (sound_at l (counts_of n) (state_of n.phase n.attempt)) e)

pub enabling_room : (l : Limits) (n : Numbers) → is_well_formed l n ≡ true → state_of n.phase n.attempt ≡ Enabling → Room l n
enabling_room l n e q =
    let u : sound_at l (counts_of n) Enabling ≡ true = sound_in_state l n Enabling e q in
    let v : (ltb 0 n.owed && sums_fit l (counts_of n) Enabling) ≡ true = right_true (counts_fit l (counts_of n)) (ltb 0 n.owed && sums_fit l (counts_of n) Enabling) u in
    let o : 0 < n.owed = grind (arith, nat_tests) in
    let w : sums_fit l (counts_of n) Enabling ≡ true = right_true (ltb 0 n.owed) (sums_fit l (counts_of n) Enabling) v in
    record {
      owed = o;
      fresh = grind (arith, nat_tests);
      known = grind (arith, nat_tests);
      present = grind (arith, nat_tests);
      refused = grind (arith, nat_tests);
    }

pub activating_room : (l : Limits) (n : Numbers) → is_well_formed l n ≡ true → state_of n.phase n.attempt ≡ Activating → n.saved + n.fresh ≤ 256
activating_room l n e q =
    leb-true (n.saved + n.fresh) 256 (right_true (counts_fit l (counts_of n)) (leb (n.saved + n.fresh) 256) (sound_in_state l n Activating e q))

pub reads_two : (l : Limits) (n : Numbers) {a : ℕ} → is_well_formed l n ≡ true → state_of n.phase n.attempt ≡ ReadingF2 a → l.two ≡ true
reads_two l n {a} e q =
    left_true l.two (true && sums_fit l (counts_of n) (ReadingF2 a)) (right_true (counts_fit l (counts_of n)) (l.two && (true && sums_fit l (counts_of n) (ReadingF2 a))) (sound_in_state l n (ReadingF2 a) e q))

-- a message does the same at every limits
module _ (l : Limits) (h : Sync) (t : ℕ) where
  asks_same : (g : Sync) (o : List ℕ) → asks (kind_of l) g o t ≡ asks kind g o t
  unfolding asks
  asks_same g [] = refl
  asks_same g (p ∷ ps) = refl

  in_f1_same : (v : F1) → in_f1 (kind_of l) v h t ≡ in_f1 kind v h t
  unfolding in_f1
  in_f1_same (adds xs) = refl
  in_f1_same ends = asks_same _ _
  in_f1_same neither = refl

  in_whole_same : (o : Option (List ℕ)) (p : F2List) → in_whole (kind_of l) o h p t ≡ in_whole kind o h p t
  unfolding in_whole
  in_whole_same none p = refl
  in_whole_same (some x) p = asks_same _ _

  in_f2_same : (v : F2) (m : List ℕ) → in_f2 (kind_of l) v h t m ≡ in_f2 kind v h t m
  unfolding in_f2
  in_f2_same wrong m = refl
  in_f2_same part m = in_whole_same (pgns_of (put m h.f2)) (put m h.f2)
  in_f2_same neither m = refl

  committed_same : (v : Ack) → committed (kind_of l) v h t ≡ committed kind v h t
  unfolding committed
  committed_same good = refl
  committed_same bad = refl
  committed_same nothing = refl

  activated_same : (v : Ack) → activated (kind_of l) v h t ≡ activated kind v h t
  unfolding activated
  activated_same good = refl
  activated_same bad = refl
  activated_same nothing = refl

  pub heard_same : (st : State) (m : List ℕ) → heard (kind_of l) st h t m ≡ heard kind st h t m
  unfolding heard answered goes_on
  heard_same AwaitStartup m = refl
  heard_same ReadAt m = refl
  heard_same (ReadingF2 a) m = in_f2_same (f2_of m) m
  heard_same (ReadingF1 a) m = in_f1_same (f1_of m)
  heard_same Enabling m = refl
  heard_same Committing m = committed_same (ack_of false 0x01 m)
  heard_same Activating m = activated_same (ack_of false 0x4B m)
  heard_same Done m = refl

-- a message that is of no interest does nothing
pub heard_quiet : (st : State) (h : Sync) (t : ℕ) (m : List ℕ) → minds_in st m ≡ false → heard kind st h t m ≡ stays h
unfolding heard minds_in in_f1 in_f2 is_answer ack_of ack_by committed activated
heard_quiet AwaitStartup h t m e = ap (λ (y : Bool). pick y (waits_from kind h t) (stays h)) e
heard_quiet ReadAt h t m e = refl
heard_quiet (ReadingF2 n) h t m e = ap (λ (v : F2). in_f2 kind v h t m) (sym (f2_other m e))
heard_quiet (ReadingF1 n) h t m e = ap (λ (v : F1). in_f1 kind v h t) (sym (f1_other m e))
heard_quiet Enabling h t m e = ap (λ (y : Bool). pick y (answered kind h t m) (stays h)) e
heard_quiet Committing h t m e = ap (λ (y : Bool). committed kind (ack_by y false (parsed m && no_error m)) h t) e
heard_quiet Activating h t m e = ap (λ (y : Bool). activated kind (ack_by y false (parsed m && no_error m)) h t) e
heard_quiet Done h t m e = refl

-- and brings no PGN, so that the list is not over
pub full_quiet : (l : Limits) (st : State) (h : Sync) (m : List ℕ) → h.list.n ≤ l.list → minds_in st m ≡ false → full_in (kind_of l) st h m ≡ false
unfolding minds_in added
full_quiet l AwaitStartup h m w e = refl
full_quiet l ReadAt h m w e = refl
full_quiet l (ReadingF2 n) h m w e = refl
full_quiet l (ReadingF1 n) h m w e =
    ap (λ (v : F1). ltb l.list (h.list.n + length (added v))) (sym (f1_other m e)) ∙ le-ltb l.list (h.list.n + 0) (omega arith)
full_quiet l Enabling h m w e = refl
full_quiet l Committing h m w e = refl
full_quiet l Activating h m w e = refl
full_quiet l Done h m w e = refl

minds_by : (n : Numbers) (m : List ℕ) {p : State} → state_of n.phase n.attempt ≡ p → minded n m ≡ true → minds_in p m ≡ true
minds_by n m e k = ap (λ (st : State). minds_in st m) (sym e) ∙ k

-- a message of interest, by the phase: what the code of that phase does is what the message does
module _ (l : Limits) (s : Stored) (n : Numbers) (t : ℕ) (m : List ℕ) {r : Stepped} where
  lands : {p : State} → state_of n.phase n.attempt ≡ p → r ≡ step_of (heard kind p (session_at p n s) t m) → r ≡ heard_by l n s t m
  lands e h =
      h
      ∙ ap (λ (st : State). step_of (heard kind st (session_at st n s) t m)) (sym e)
      ∙ ap step_of (sym (heard_same l (session_of n s) t (state_of n.phase n.attempt) m))

  pub heard_mode : state_of n.phase n.attempt ≡ AwaitStartup → minded n m ≡ true → r ≡ step_of (waits_from kind (session_at AwaitStartup n s) t)
      → r ≡ heard_by l n s t m
  unfolding heard minds_in
  heard_mode e k h =
      lands e (h ∙ sym (ap (λ (y : Bool). step_of (pick y (waits_from kind (session_at AwaitStartup n s) t) (stays (session_at AwaitStartup n s)))) (minds_by n m e k)))

  pub heard_too_soon : state_of n.phase n.attempt ≡ ReadAt → minded n m ≡ true → r ≡ heard_by l n s t m
  unfolding minds_in
  heard_too_soon e k = absurd (false_true (minds_by n m e k))

  pub heard_f1 : {a : ℕ} → state_of n.phase n.attempt ≡ ReadingF1 a → r ≡ step_of (in_f1 kind (f1_of m) (session_at (ReadingF1 a) n s) t)
      → r ≡ heard_by l n s t m
  unfolding heard
  heard_f1 e h = lands e h

  pub heard_f2 : {a : ℕ} → state_of n.phase n.attempt ≡ ReadingF2 a → r ≡ step_of (in_f2 kind (f2_of m) (session_at (ReadingF2 a) n s) t m)
      → r ≡ heard_by l n s t m
  unfolding heard
  heard_f2 e h = lands e h

  pub heard_enabled : state_of n.phase n.attempt ≡ Enabling → minded n m ≡ true
      → r ≡ step_of (goes_on kind (marks kind (session_at Enabling n s) m (answer_of m)) t) → r ≡ heard_by l n s t m
  unfolding minds_in
  heard_enabled e k h = lands e (h ∙ ap step_of (sym (enabling_answer (session_at Enabling n s) t m (minds_by n m e k))))

  pub heard_committed : state_of n.phase n.attempt ≡ Committing → minded n m ≡ true → r ≡ step_of (committed kind good (session_at Committing n s) t)
      → r ≡ heard_by l n s t m
  unfolding minds_in
  heard_committed e k h = lands e (h ∙ ap step_of (sym (committing_answer (session_at Committing n s) t m (minds_by n m e k))))

  pub heard_activated : state_of n.phase n.attempt ≡ Activating → minded n m ≡ true → r ≡ step_of (activated kind good (session_at Activating n s) t)
      → r ≡ heard_by l n s t m
  unfolding minds_in
  heard_activated e k h = lands e (h ∙ ap step_of (sym (activating_answer (session_at Activating n s) t m (minds_by n m e k))))

  pub heard_done : state_of n.phase n.attempt ≡ Done → minded n m ≡ true → r ≡ heard_by l n s t m
  unfolding minds_in
  heard_done e k = absurd (false_true (minds_by n m e k))
