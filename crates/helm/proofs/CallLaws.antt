-- What each call answers and leaves, by its tests, on any machine: tx_list's laws of the store at these limits.
use Rattle.std.specs.Prelude.{ℕ, zero, suc, ◌≤◌, ◌≡◌, Bool, true, false, not, ◌&&◌, List, [], ◌∷◌, ◌++◌, length, take, eqb, leb, ltb, Ok, Err, Option, Some, None}
use Rattle.std.proofs.Common.{arith, refl, sym, ap, ap₂, ◌∙◌, le-leb, leb-true, le-ltb}
use Rattle.std.proofs.lemmas.Bool.{ltb-false}
use Rattle.field.specs.Pick.{pick}
use Rattle.field.specs.Written.{written}
use Rattle.field.specs.Tests.{left_true, right_true, and_true, and_assoc}
use Rattle.lists.specs.declared.F2List.{F2List}
use Rattle.lists.specs.Format2.{formed, no_parts}
use Rattle.bounds.specs.declared.Limits.{Limits}
use Rattle.bounds.specs.Bounds.{counts_fit, old_fits, sums_fit, sound_at}
use Rattle.numbers.specs.Layout.{is_set, state_of as state_by, due_in}
use Rattle.tx_list.specs.declared.State.{State}
use Rattle.tx_list.specs.declared.State.TheVariants.{AwaitStartup, ReadAt, ReadingF2, Reading as ReadingF1, Enabling, Committing, Activating, Done}
use Rattle.tx_list.specs.Views.{has}
use Rattle.tx_list.specs.Reading.{Command, message, tick, firmware, Verdict, taken, refuse, unless, vet_message, vet_tick}
use Rattle.tx_list.specs.Session.{Session, is_done, all_le, known_max, lacks, lacks_by}
use Rattle.tx_list.specs.Stored as stored
use Rattle.tx_list.specs.Stored.{CallAnswer, wire, again, opens}
use Rattle.tx_list.specs.Memory.{Sized, phase_in, abs_flat, counts, clear_flat}
use Rattle.tx_list.specs.Moves.{Moved, format_in, owes_in, sums_in, sound_in, full_in, heard, late, ticked, stays, with_firmware, gives_up, starts_over, judge_message, judge_tick, judge_state, judge_restart}
use Rattle.tx_list.specs.Moves as moves
use Rattle.tx_list.proofs.LiveLists.{false_true}
use borrow.Author.Tests.{not-true}
use Rattle.tx_list.proofs.MovesSound.{sound_is}
use Rattle.tx_list.proofs.MovesLaws.{message_law, tick_law, firmware_law, restart_law, abandon_law}
use Rattle.session.specs.Sync.{Sync, Begun, kind, same, store, frame_of, Told, step_of, wrote_step}
use Rattle.session.specs.Lent.{minds_in}
use Rattle.session.proofs.CallLaws.{unsound, judged, tick_taken, message_taken}
use Rattle.std.proofs.lemmas.Bool.Decides.{nat_tests}
use Rattle.helm.proofs.Calm.{calm_sound}
use Rattle.helm.proofs.HeardLaws.{within, heard_same, heard_quiet, full_quiet}
use Rattle.std.proofs.Math.Path.{subst}
use Rattle.helm.specs.declared.moment.Moment.{Moment}
use Rattle.helm.specs.declared.words.Refusal.TheVariants.{NotWellFormed}
use Rattle.helm.specs.declared.stored.Numbers.{Numbers}
use Rattle.helm.specs.Stored.{Stored, HasSizes, FitLimits, kind_of, session_in, counts_of, is_well_formed, is_calm, rests_on, ignores_on}
use Rattle.helm.specs.Calls.{Holds, store_of, gave, begun, told, refused_phase, called, set_to, restarted, abandoned, is_session, state_of, says, lack_of, idle_at, ignored_at, Quiet, Judged}

-- the test of a state, of memory that holds the numbers tested
pub formed_by : {l : Limits} {n : Numbers} {s : Stored} {r b : Bool} → Holds l n s → (FitLimits l → r ≡ is_well_formed l n) → r ≡ b → is_well_formed l s.numbers ≡ b
formed_by {l} z e q = ap (is_well_formed l) z.numbers ∙ sym (e z.fit) ∙ q

-- a message that is found to be of no interest
pub found_quiet : {l : Limits} {s : Stored} {t : ℕ} {m : List ℕ} {room : ℕ} {x : Option Moment} → Judged l s t m room (Ok x) → x ≡ None → Quiet l s t m room
found_quiet {l} {s} {t} {m} {room} z e = subst (λ (x : Option Moment). Judged l s t m room (Ok x)) e z

pub formed_low : (l : Limits) (n : Numbers) → is_well_formed l n ≡ true → n.phase ≤ 7
formed_low l n e = leb-true n.phase 7 (left_true (leb n.phase 7) (sound_at l (counts_of n) (state_by n.phase n.attempt)) e)

-- the phases, one by one
pub each_phase : (P : ℕ → Type 0) → P 0 → P 1 → P 2 → P 3 → P 4 → P 5 → P 6 → P 7 → (p : ℕ) → p ≤ 7 → P p
each_phase P a b c d e f g h zero z = a
each_phase P a b c d e f g h (suc zero) z = b
each_phase P a b c d e f g h (suc (suc zero)) z = c
each_phase P a b c d e f g h (suc (suc (suc zero))) z = d
each_phase P a b c d e f g h (suc (suc (suc (suc zero)))) z = e
each_phase P a b c d e f g h (suc (suc (suc (suc (suc zero))))) z = f
each_phase P a b c d e f g h (suc (suc (suc (suc (suc (suc zero)))))) z = g
each_phase P a b c d e f g h (suc (suc (suc (suc (suc (suc (suc zero))))))) z = h
each_phase P a b c d e f g h (suc (suc (suc (suc (suc (suc (suc (suc n)))))))) z = absurd (omega arith)

module _ (l : Limits) where
  abbrev K : stored.Store (kind_of l)
  K = store_of l

  abbrev M : Type 0
  M = Moved F2List ℕ

  -- a command's frame is the same on every machine
  wire_same : (cs : List Command) → wire (kind_of l) (store_of l) cs ≡ wire kind store cs
  unfolding wire
  wire_same [] = refl
  wire_same (c ∷ cs) = ap (λ bytes. frame_of c ++ bytes) (wire_same cs)

  -- a refusal, and a step taken
  abbrev pub by_verdict : Verdict → Sync → M → List ℕ → Told
  by_verdict taken s x out = wrote_step (step_of x) out
  by_verdict (refuse n) s x out = record { number = n; count = 0; sync = s; out = out }

  gave_by : (v : Verdict) (s : Sync) (x : M) (out : List ℕ) → gave l (moves.told (kind_of l) (store_of l) same s v x) out ≡ by_verdict v s x out
  gave_by taken s x out = λ i. record { number = 0; count = length (wire_same x.sent i); sync = x.flat; out = written (wire_same x.sent i) out }
  gave_by (refuse n) s x out = refl

  abbrev pub begun_by : Verdict → Sync → Sync → Begun
  begun_by taken s h = record { number = 0; sync = h }
  begun_by (refuse n) s h = record { number = n; sync = s }

  begun_by_law : (v : Verdict) (s : Sync) (x : M) → begun l (moves.told (kind_of l) (store_of l) same s v x) ≡ begun_by v s x.flat
  begun_by_law taken s x = refl
  begun_by_law (refuse n) s x = refl

  abbrev quietly : Sync → M
  quietly h = record { flat = h; sent = []; handed = [] }

  module _ (s : Stored) (f : FitLimits l) (z : HasSizes l s) where
    abbrev σ : Sync
    σ = session_in s

    pub sized : Sized (kind_of l) (session_in s)
    unfolding known_max
    sized =
        record {
          wanted = z.wanted;
          owed = z.owed;
          fresh = z.fresh;
          list = z.list;
          known = z.known ∙ f.known;
          saved = z.saved;
          present = z.present;
          refused = z.refused;
        }

    -- 16, by the numbers
    counts_same : counts_fit l (counts_of s.numbers) ≡ (formed (session_in s).f2 && all_le (counts (kind_of l) (session_in s)))
    unfolding formed known_max
    counts_same = rw f.known (simp (and_assoc, and_true))

    sums_same : (st : State) → sums_fit l (counts_of s.numbers) st ≡ all_le (sums_in (kind_of l) st (session_in s))
    unfolding known_max
    sums_same AwaitStartup = simp (and_assoc, and_true)
    sums_same ReadAt = simp (and_assoc, and_true)
    sums_same (ReadingF2 a) = simp (and_assoc, and_true)
    sums_same (ReadingF1 a) = simp (and_assoc, and_true)
    sums_same Enabling = rw f.known (simp (and_assoc, and_true))
    sums_same Committing = simp (and_assoc, and_true)
    sums_same Activating = simp (and_assoc, and_true)
    sums_same Done = refl

    pub sound_same : sound_at l (counts_of s.numbers) (session_in s).state ≡ sound_in (kind_of l) (session_in s)
    unfolding sound_in
    sound_same =
        ap₂ (λ (x y : Bool). x && (format_in l.two (session_in s).state && (owes_in (session_in s).state s.numbers.owed && y)))
        counts_same (sums_same (session_in s).state)

    -- well formed: the phase is one, and the model's test passes
    pub formed_phase : is_well_formed l s.numbers ≡ true → s.numbers.phase ≤ 7
    formed_phase e = leb-true s.numbers.phase 7 (left_true (leb s.numbers.phase 7) _ e)

    pub formed_sound : is_well_formed l s.numbers ≡ true → sound_in (kind_of l) (session_in s) ≡ true
    formed_sound e = sym sound_same ∙ right_true (leb s.numbers.phase 7) (sound_at l (counts_of s.numbers) (session_in s).state) e

    unformed : (y : Bool) → leb s.numbers.phase 7 ≡ y → is_well_formed l s.numbers ≡ false → y ≡ true → sound_in (kind_of l) (session_in s) ≡ false
    unformed y q e t = sym sound_same ∙ sym (ap (λ (b : Bool). b && sound_at l (counts_of s.numbers) (session_in s).state) (q ∙ t)) ∙ e

    -- a choice by the phase
    in_phase : {A : Type 0} (x y : A) → s.numbers.phase ≤ 7 → y ≡ pick (ltb 7 s.numbers.phase) x y
    in_phase x y h = sym (ap (λ (b : Bool). pick b x y) (le-ltb 7 s.numbers.phase h))

    past_phase : {A : Type 0} (x y : A) → (s.numbers.phase ≤ 7 → x ≡ y) → x ≡ pick (ltb 7 s.numbers.phase) x y
    past_phase x y h = go (ltb 7 s.numbers.phase) refl
      where
        go : (b : Bool) → ltb 7 s.numbers.phase ≡ b → x ≡ pick b x y
        go true e = refl
        go false e = h (ltb-false 7 s.numbers.phase e)

    -- message and tick
    module _ (out : List ℕ) where
      tick_by : (t room : ℕ) (v : Verdict) → judge_tick (kind_of l) (session_in s) t room ≡ v
          → by_verdict v (session_in s) (ticked (kind_of l) (session_in s) t) out ≡ gave l (stored.called (kind_of l) (store_of l) (session_in s) (tick t room)) out
      tick_by t room v e =
          sym
          (ap (λ (a : CallAnswer (kind_of l) (store_of l)). gave l a out)
          (tick_law (kind_of l) Sync same same (clear_flat (kind_of l) no_parts 0) frame_of (session_in s) t room sized)
          ∙ gave_by (judge_tick (kind_of l) (session_in s) t room) (session_in s) (ticked (kind_of l) (session_in s) t) out
          ∙ ap (λ (w : Verdict). by_verdict w (session_in s) (ticked (kind_of l) (session_in s) t) out) e)

      message_by : (t : ℕ) (m : List ℕ) (room : ℕ) (v : Verdict) → judge_message (kind_of l) (session_in s) t m room ≡ v
          → by_verdict v (session_in s) (heard (kind_of l) (session_in s).state (session_in s) t m) out
          ≡ gave l (stored.called (kind_of l) (store_of l) (session_in s) (message t m room)) out
      message_by t m room v e =
          sym
          (ap (λ (a : CallAnswer (kind_of l) (store_of l)). gave l a out)
          (message_law (kind_of l) Sync same same (clear_flat (kind_of l) no_parts 0) frame_of (session_in s) t m room sized)
          ∙ gave_by (judge_message (kind_of l) (session_in s) t m room) (session_in s) (heard (kind_of l) (session_in s).state (session_in s) t m) out
          ∙ ap (λ (w : Verdict). by_verdict w (session_in s) (heard (kind_of l) (session_in s).state (session_in s) t m) out) e)

      pub message_unformed : (t : ℕ) (m : List ℕ) (room : ℕ) → is_well_formed l s.numbers ≡ false → told (Err NotWellFormed) s out ≡ called l s (message t m room) out
      message_unformed t m room e =
          past_phase (told (Err NotWellFormed) s out) (gave l (stored.called (kind_of l) (store_of l) (session_in s) (message t m room)) out)
          (λ h.
          message_by t m room (refuse 16)
          (unsound _ (vet_message t m room (full_in (kind_of l) (session_in s).state (session_in s) m)) (unformed (leb s.numbers.phase 7) refl e (le-leb s.numbers.phase 7 h))))

      pub message_judged : (t : ℕ) (m : List ℕ) (room : ℕ) (v : Verdict) → is_well_formed l s.numbers ≡ true
          → vet_message t m room (full_in (kind_of l) (session_in s).state (session_in s) m) ≡ v
          → by_verdict v (session_in s) (heard (kind_of l) (session_in s).state (session_in s) t m) out ≡ called l s (message t m room) out
      message_judged t m room v e q =
          message_by t m room v (judged _ (vet_message t m room (full_in (kind_of l) (session_in s).state (session_in s) m)) (formed_sound e) ∙ q)
          ∙ in_phase (told (Err NotWellFormed) s out) (gave l (stored.called (kind_of l) (store_of l) (session_in s) (message t m room)) out) (formed_phase e)

      -- a message of no interest does nothing
      pub message_quiet : (t : ℕ) (m : List ℕ) (room : ℕ) → is_well_formed l s.numbers ≡ true → t ≤ 18446744073709541615 → length m ≤ 255 → 32 ≤ room
          → minds_in (session_in s).state m ≡ false → told (Ok 0) s out ≡ called l s (message t m room) out
      unfolding wire
      message_quiet t m room e h k r d =
          ap (λ (x : M). wrote_step (step_of x) out) (sym (heard_same l (session_in s) t (session_in s).state m ∙ heard_quiet (session_in s).state (session_in s) t m d))
          ∙ message_judged t m room taken e (message_taken t m room _ h k r (full_quiet l (session_in s).state (session_in s) m (within l s.numbers e).list d))

      pub tick_unformed : (t room : ℕ) → is_well_formed l s.numbers ≡ false → told (Err NotWellFormed) s out ≡ called l s (tick t room) out
      tick_unformed t room e =
          past_phase (told (Err NotWellFormed) s out) (gave l (stored.called (kind_of l) (store_of l) (session_in s) (tick t room)) out)
          (λ h. tick_by t room (refuse 16) (unsound _ (vet_tick t room) (unformed (leb s.numbers.phase 7) refl e (le-leb s.numbers.phase 7 h))))

      pub tick_judged : (t room : ℕ) (v : Verdict) → is_well_formed l s.numbers ≡ true → vet_tick t room ≡ v
          → by_verdict v (session_in s) (ticked (kind_of l) (session_in s) t) out ≡ called l s (tick t room) out
      tick_judged t room v e q =
          tick_by t room v (judged _ (vet_tick t room) (formed_sound e) ∙ q)
          ∙ in_phase (told (Err NotWellFormed) s out) (gave l (stored.called (kind_of l) (store_of l) (session_in s) (tick t room)) out) (formed_phase e)

      -- A MESSAGE THAT IS IGNORED is taken and does nothing
      pub ignored_quiet : (t : ℕ) (m : List ℕ) (room : ℕ) → ignored_at l s.numbers t m room ≡ true → called l s (message t m room) out ≡ told (Ok 0) s out
      ignored_quiet t m room e =
          let i = not (minds_in (session_in s).state m) in
          let d = leb 32 room && i in
          let g = right_true (is_well_formed l s.numbers) (leb t 18446744073709541615 && (leb (length m) 255 && d)) e in
          let h = right_true (leb t 18446744073709541615) (leb (length m) 255 && d) g in
          let j = right_true (leb (length m) 255) d h in
          sym
          (message_quiet t m room
          (left_true (is_well_formed l s.numbers) (leb t 18446744073709541615 && (leb (length m) 255 && d)) e)
          (leb-true t 18446744073709541615 (left_true (leb t 18446744073709541615) (leb (length m) 255 && d) g))
          (leb-true (length m) 255 (left_true (leb (length m) 255) d h))
          (leb-true 32 room (left_true (leb 32 room) i j))
          (not-true (minds_in (session_in s).state m) (right_true (leb 32 room) i j)))

      -- a tick that is not due does nothing
      pub tick_quiet : (t room : ℕ) → is_well_formed l s.numbers ≡ true → vet_tick t room ≡ taken → due_in s.numbers.phase s.numbers.due t ≡ false
          → told (Ok 0) s out ≡ called l s (tick t room) out
      unfolding ticked wire late
      tick_quiet t room e q d =
          ap (λ (x : M). wrote_step (step_of x) out) (sym (go (leb s.numbers.due t) refl)) ∙ tick_judged t room taken e q
        where
          late_quiet : (p : ℕ) → p ≤ 7 → (not (eqb p 0) && ltb p 7) ≡ false → late (kind_of l) (state_by p s.numbers.attempt) (session_in s) t ≡ stays (session_in s)
          late_quiet p h =
              each_phase
              (λ (p : ℕ). (not (eqb p 0) && ltb p 7) ≡ false → late (kind_of l) (state_by p s.numbers.attempt) (session_in s) t ≡ stays (session_in s))
              (λ e. refl)
              (λ e. false_true (sym e))
              (λ e. false_true (sym e))
              (λ e. false_true (sym e))
              (λ e. false_true (sym e))
              (λ e. false_true (sym e))
              (λ e. false_true (sym e))
              (λ e. refl)
              p h

          go : (y : Bool) → leb s.numbers.due t ≡ y → ticked (kind_of l) (session_in s) t ≡ stays (session_in s)
          go true b =
              ap (λ (y : Bool). pick y (late (kind_of l) (session_in s).state (session_in s) t) (stays (session_in s))) b
              ∙ late_quiet s.numbers.phase (formed_phase e) (sym (ap (λ (y : Bool). y && (not (eqb s.numbers.phase 0) && ltb s.numbers.phase 7)) b) ∙ d)
          go false b = ap (λ (y : Bool). pick y (late (kind_of l) (session_in s).state (session_in s) t) (stays (session_in s))) b

      -- told by one look
      pub tick_rests : (t room : ℕ) → rests_on l s.numbers t room ≡ true → told (Ok 0) s out ≡ called l s (tick t room) out
      tick_rests t room e =
          let c : is_calm l s.numbers ≡ true = grind (arith, nat_tests) in
          let h : t ≤ 18446744073709541615 = grind (arith, nat_tests) in
          let r : 32 ≤ room = grind (arith, nat_tests) in
          let d : due_in s.numbers.phase s.numbers.due t ≡ false = grind (arith, nat_tests) in
          tick_quiet t room (calm_sound l s.numbers f c) (tick_taken t room h r) d

      pub message_ignored : (t : ℕ) (m : List ℕ) (room : ℕ) → ignores_on l s.numbers t m room ≡ true → told (Ok 0) s out ≡ called l s (message t m room) out
      message_ignored t m room e =
          let c : is_calm l s.numbers ≡ true = grind (arith, nat_tests) in
          let h : t ≤ 18446744073709541615 = grind (arith, nat_tests) in
          let k : length m ≤ 255 = grind (arith, nat_tests) in
          let r : 32 ≤ room = grind (arith, nat_tests) in
          let d : minds_in (session_in s).state m ≡ false = grind (arith, nat_tests) in
          message_quiet t m room (calm_sound l s.numbers f c) h k r d

      -- A TICK WHILE IDLE is taken and does nothing
      pub idle_quiet : (t room : ℕ) → idle_at l s.numbers t room ≡ true → called l s (tick t room) out ≡ told (Ok 0) s out
      idle_quiet t room e =
          let i = not (due_in s.numbers.phase s.numbers.due t) in
          let g = right_true (is_well_formed l s.numbers) (leb t 18446744073709541615 && (leb 32 room && i)) e in
          let h = right_true (leb t 18446744073709541615) (leb 32 room && i) g in
          sym
          (tick_quiet t room
          (left_true (is_well_formed l s.numbers) (leb t 18446744073709541615 && (leb 32 room && i)) e)
          (tick_taken t room
          (leb-true t 18446744073709541615 (left_true (leb t 18446744073709541615) (leb 32 room && i) g))
          (leb-true 32 room (left_true (leb 32 room) i h)))
          (not-true (due_in s.numbers.phase s.numbers.due t) (right_true (leb 32 room) i h)))

    -- a call without output, of which tx_list's law says what it leaves by its verdict
    module _ (x : Begun) (h : Sync) (w : Verdict) (law : (v : Verdict) → unless (not (sound_in (kind_of l) (session_in s))) 16 w ≡ v → begun_by v (session_in s) h ≡ x) where
      done_unformed : is_well_formed l s.numbers ≡ false → refused_phase s ≡ pick (ltb 7 s.numbers.phase) (refused_phase s) x
      done_unformed e =
          past_phase (refused_phase s) x
          (λ p. law (refuse 16) (unsound _ w (unformed (leb s.numbers.phase 7) refl e (le-leb s.numbers.phase 7 p))))

      done_judged : (v : Verdict) → is_well_formed l s.numbers ≡ true → w ≡ v → begun_by v (session_in s) h ≡ pick (ltb 7 s.numbers.phase) (refused_phase s) x
      done_judged v e q = law v (judged _ w (formed_sound e) ∙ q) ∙ in_phase (refused_phase s) x (formed_phase e)

    firmware_by : (v : ℕ) (u : Verdict) → judge_state (kind_of l) (session_in s) ≡ u
        → begun_by u (session_in s) (with_firmware (session_in s) true v) ≡ begun l (stored.called (kind_of l) (store_of l) (session_in s) (firmware v))
    firmware_by v u e =
        sym
        (ap (begun l) (firmware_law (kind_of l) Sync same same (clear_flat (kind_of l) no_parts 0) frame_of (session_in s) v sized)
        ∙ begun_by_law (judge_state (kind_of l) (session_in s)) (session_in s) (quietly (with_firmware (session_in s) true v))
        ∙ ap (λ (w : Verdict). begun_by w (session_in s) (with_firmware (session_in s) true v)) e)

    abandon_by : (u : Verdict) → judge_state (kind_of l) (session_in s) ≡ u
        → begun_by u (session_in s) (gives_up (kind_of l) (session_in s)).flat ≡ begun l (stored.abandoned (kind_of l) (store_of l) (session_in s))
    abandon_by u e =
        sym
        (ap (begun l) (abandon_law (kind_of l) Sync same same (clear_flat (kind_of l) no_parts 0) frame_of (session_in s) sized)
        ∙ begun_by_law (judge_state (kind_of l) (session_in s)) (session_in s) (gives_up (kind_of l) (session_in s))
        ∙ ap (λ (w : Verdict). begun_by w (session_in s) (gives_up (kind_of l) (session_in s)).flat) e)

    restart_by : (u : Verdict) → judge_restart (kind_of l) (session_in s) ≡ u
        → begun_by u (session_in s) (starts_over (kind_of l) (session_in s)) ≡ begun l (opens (kind_of l) (store_of l) (again (session_in s)))
    restart_by u e =
        sym
        (ap (begun l) (restart_law (kind_of l) Sync same same (clear_flat (kind_of l) no_parts 0) frame_of (session_in s) sized)
        ∙ begun_by_law (judge_restart (kind_of l) (session_in s)) (session_in s) (quietly (starts_over (kind_of l) (session_in s)))
        ∙ ap (λ (w : Verdict). begun_by w (session_in s) (starts_over (kind_of l) (session_in s))) e)

    pub firmware_unformed : (v : ℕ) → is_well_formed l s.numbers ≡ false → refused_phase s ≡ set_to l s v
    firmware_unformed v = done_unformed (begun l (stored.called (kind_of l) (store_of l) (session_in s) (firmware v))) (with_firmware (session_in s) true v) taken (firmware_by v)

    pub firmware_judged : (v : ℕ) → is_well_formed l s.numbers ≡ true → record { number = 0; sync = with_firmware (session_in s) true v } ≡ set_to l s v
    firmware_judged v e = done_judged (begun l (stored.called (kind_of l) (store_of l) (session_in s) (firmware v))) (with_firmware (session_in s) true v) taken (firmware_by v) taken e refl

    pub abandon_unformed : is_well_formed l s.numbers ≡ false → refused_phase s ≡ abandoned l s
    abandon_unformed = done_unformed (begun l (stored.abandoned (kind_of l) (store_of l) (session_in s))) (gives_up (kind_of l) (session_in s)).flat taken abandon_by

    pub abandon_judged : is_well_formed l s.numbers ≡ true → record { number = 0; sync = (gives_up (kind_of l) (session_in s)).flat } ≡ abandoned l s
    abandon_judged e = done_judged (begun l (stored.abandoned (kind_of l) (store_of l) (session_in s))) (gives_up (kind_of l) (session_in s)).flat taken abandon_by taken e refl

    abbrev old_test : Verdict
    old_test = unless (not (all_le (moves.old_in (session_in s)))) 12 taken

    old_same : old_fits (counts_of s.numbers) ≡ all_le (moves.old_in (session_in s))
    old_same = simp (and_assoc, and_true)

    pub restart_unformed : is_well_formed l s.numbers ≡ false → refused_phase s ≡ restarted l s
    restart_unformed = done_unformed (begun l (opens (kind_of l) (store_of l) (again (session_in s)))) (starts_over (kind_of l) (session_in s)) old_test restart_by

    pub restart_over : is_well_formed l s.numbers ≡ true → old_fits (counts_of s.numbers) ≡ false → record { number = 12; sync = session_in s } ≡ restarted l s
    unfolding unless
    restart_over e q =
        done_judged (begun l (opens (kind_of l) (store_of l) (again (session_in s)))) (starts_over (kind_of l) (session_in s)) old_test restart_by (refuse 12) e
        (ap (λ (y : Bool). unless (not y) 12 taken) (sym old_same ∙ q))

    pub restart_judged : is_well_formed l s.numbers ≡ true → old_fits (counts_of s.numbers) ≡ true → record { number = 0; sync = starts_over (kind_of l) (session_in s) } ≡ restarted l s
    unfolding unless
    restart_judged e q =
        done_judged (begun l (opens (kind_of l) (store_of l) (again (session_in s)))) (starts_over (kind_of l) (session_in s)) old_test restart_by taken e
        (ap (λ (y : Bool). unless (not y) 12 taken) (sym old_same ∙ q))

    -- the session of module 6 that memory holds
    pub is_session_by : is_well_formed l s.numbers ≡ is_session l s
    is_session_by = ap (λ (b : Bool). leb s.numbers.phase 7 && b) (sound_same ∙ sym (sound_is (kind_of l) (session_in s) sized))

    pub state_none : is_well_formed l s.numbers ≡ false → None ≡ state_of l s
    state_none e = sym (ap (λ (b : Bool). pick b (Some (abs_flat (session_in s))) None) (sym is_session_by ∙ e))

    pub state_some : is_well_formed l s.numbers ≡ true → Some (abs_flat (session_in s)) ≡ state_of l s
    state_some e = sym (ap (λ (b : Bool). pick b (Some (abs_flat (session_in s))) None) (sym is_session_by ∙ e))

    -- what is said of a PGN, by the tests
    pub lacks_law :
        (p : ℕ) {b h w : Bool}
        → is_well_formed l s.numbers ≡ true
        → is_set s.numbers.read ≡ b
        → has p (take s.numbers.known s.known) ≡ h
        → is_set s.numbers.complete ≡ w
        → says (lacks_by b h w) ≡ lack_of (state_of l s) p
    unfolding lacks
    lacks_law p e x y v =
        (λ i. says (lacks_by (sym x i) (sym y i) (sym v i))) ∙ ap (λ (o : Option (Session F2List ℕ)). lack_of o p) (state_some e)

-- done
done_phase : (h : Sync) (a p : ℕ) → p ≤ 7 → is_done (phase_in (state_by p a) h) ≡ eqb p 7
unfolding is_done
done_phase h a = each_phase (λ (p : ℕ). is_done (phase_in (state_by p a) h) ≡ eqb p 7) refl refl refl refl refl refl refl refl

pub done_by : (h : Sync) (n : Numbers) → h.state ≡ state_by n.phase n.attempt → n.phase ≤ 7 → eqb n.phase 7 ≡ is_done (abs_flat h).phase
done_by h n e p = sym (ap (λ (st : State). is_done (phase_in st h)) e ∙ done_phase h n.attempt n.phase p)
