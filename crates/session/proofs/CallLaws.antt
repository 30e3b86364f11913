-- What the exported functions answer, by their verdicts: the laws of tx_list's store at this struct. Assumes nothing.
use Prim.Native.Nat.{ℕ, ◌≤◌, ◌<◌}
use mathlib.Core.Path.{◌≡◌, refl, sym, ap, ◌∙◌}
use mathlib.Core.Bool.{Bool, true, false, not, ◌&&◌}
use mathlib.Core.List.{List, []}
use lib.Dec.{leb, ltb}
use lib.ListN.{length, take}
use native.Mathlib.Omega.{arith}
use borrow.Author.Tests.{lt-ltb, le-ltb, lt-leb, leb-true, leb-false}
use lib.Seq.{length-take-le, take_all}
use Rattle.field.specs.Pick.{pick}
use Rattle.lists.specs.declared.F2List.{F2List}
use Rattle.tx_list.specs.declared.State.{State}
use Rattle.tx_list.specs.declared.State.TheVariants.{AwaitStartup, ReadAt, ReadingF2, Reading as ReadingF1, Enabling, Committing, Activating, Done}
use Rattle.tx_list.specs.Reading.{message, tick, Verdict, taken, refuse, unless, vet_message, vet_tick}
use Rattle.tx_list.specs.Session.{Record, is_done, all_le, old_bounds, begins, begin_by, lacks}
use Rattle.tx_list.specs.Stored as stored
use Rattle.tx_list.specs.Stored.{CallAnswer}
use Rattle.tx_list.specs.Memory.{Flat, Sized, phase_in, abs_flat, write_flat}
use Rattle.tx_list.specs.Moves.{Moved, sound_in, heard, ticked, with_firmware, gives_up, starts_over, judge_message, judge_tick, judge_state, judge_restart, told}
use Rattle.field.specs.Tests.{left_true, right_true, and_true, and_assoc}
use Rattle.tx_list.proofs.MovesSound.{sound_is}
use Rattle.tx_list.proofs.MovesLaws.{message_law, tick_law, firmware_law, restart_law, abandon_law, begin_law}
use Rattle.session.specs.Sync.{Sync, Begun, IsDone, kind, same, Learned, store, clear, frame_of, Told, gave, called, begun, set_to, restarted, abandoned, begun_with, record_of, sound, record_fits, done_in, done_of, says, refused, lack_of, step_of, wrote_step}
use Rattle.session.specs.Lent.{Numbers, Arrays, Fits, sync_of, opened_with, wanting, begun_in}
use Rattle.session.specs.Sync.{learned_in}
use Rattle.tx_list.specs.Session as session
use Rattle.tx_list.specs.Stored.{opens}

-- a refusal, and a step taken
abbrev pub by_verdict : Verdict → Sync → Moved F2List ℕ → List ℕ → Told
by_verdict taken s x out = wrote_step (step_of x) out
by_verdict (refuse n) s x out = record { number = n; count = 0; sync = s; out = out }

gave_by : (v : Verdict) (s : Sync) (x : Moved F2List ℕ) (out : List ℕ) → gave (told kind store same s v x) out ≡ by_verdict v s x out
gave_by taken s x out = refl
gave_by (refuse n) s x out = refl

pub tick_by :
    (s : Sync) (t room : ℕ) (out : List ℕ) (v : Verdict)
    → Sized kind s
    → judge_tick kind s t room ≡ v
    → by_verdict v s (ticked kind s t) out ≡ called s (tick t room) out
tick_by s t room out v z e =
    sym
    (ap (λ (a : CallAnswer kind store). gave a out) (tick_law kind Sync same same clear frame_of s t room z)
    ∙ gave_by (judge_tick kind s t room) s (ticked kind s t) out
    ∙ ap (λ (w : Verdict). by_verdict w s (ticked kind s t) out) e)

pub message_by :
    (s : Sync) (t : ℕ) (m : List ℕ) (room : ℕ) (out : List ℕ) (v : Verdict)
    → Sized kind s
    → judge_message kind s t m room ≡ v
    → by_verdict v s (heard kind s.state s t m) out ≡ called s (message t m room) out
message_by s t m room out v z e =
    sym
    (ap (λ (a : CallAnswer kind store). gave a out) (message_law kind Sync same same clear frame_of s t m room z)
    ∙ gave_by (judge_message kind s t m room) s (heard kind s.state s t m) out
    ∙ ap (λ (w : Verdict). by_verdict w s (heard kind s.state s t m) out) e)

-- the verdicts, by their tests

pub unsound : (y : Bool) (v : Verdict) → y ≡ false → unless (not y) 16 v ≡ refuse 16
unfolding unless
unsound y v e = rw e

pub judged : (y : Bool) (v : Verdict) → y ≡ true → unless (not y) 16 v ≡ v
unfolding unless
judged y v e = rw e

pub tick_far : (t room : ℕ) → 18446744073709541615 < t → vet_tick t room ≡ refuse 13
unfolding vet_tick unless
tick_far t room h = rw (lt-ltb 18446744073709541615 t h)

pub tick_small : (t room : ℕ) → t ≤ 18446744073709541615 → room < 32 → vet_tick t room ≡ refuse 7
unfolding vet_tick unless
tick_small t room h g = rw (le-ltb 18446744073709541615 t h, lt-ltb room 32 g)

pub tick_taken : (t room : ℕ) → t ≤ 18446744073709541615 → 32 ≤ room → vet_tick t room ≡ taken
unfolding vet_tick unless
tick_taken t room h g = rw (le-ltb 18446744073709541615 t h, le-ltb room 32 g)

module _ (t : ℕ) (m : List ℕ) (room : ℕ) (y : Bool) where
  pub message_far : 18446744073709541615 < t → vet_message t m room y ≡ refuse 13
  unfolding vet_message unless
  message_far h = rw (lt-ltb 18446744073709541615 t h)

  pub message_long : t ≤ 18446744073709541615 → 255 < length m → vet_message t m room y ≡ refuse 6
  unfolding vet_message unless
  message_long h g = rw (le-ltb 18446744073709541615 t h, lt-ltb 255 (length m) g)

  pub message_small : t ≤ 18446744073709541615 → length m ≤ 255 → room < 32 → vet_message t m room y ≡ refuse 7
  unfolding vet_message unless
  message_small h g k = rw (le-ltb 18446744073709541615 t h, le-ltb 255 (length m) g, lt-ltb room 32 k)

  pub message_full : t ≤ 18446744073709541615 → length m ≤ 255 → 32 ≤ room → y ≡ true → vet_message t m room y ≡ refuse 14
  unfolding vet_message unless
  message_full h g k e = rw (le-ltb 18446744073709541615 t h, le-ltb 255 (length m) g, le-ltb room 32 k, e)

  pub message_taken : t ≤ 18446744073709541615 → length m ≤ 255 → 32 ≤ room → y ≡ false → vet_message t m room y ≡ taken
  unfolding vet_message unless
  message_taken h g k e = rw (le-ltb 18446744073709541615 t h, le-ltb 255 (length m) g, le-ltb room 32 k, e)

-- setting firmware, restart, abandon

abbrev pub begun_by : Verdict → Sync → Flat F2List ℕ → Begun
begun_by taken s h = record { number = 0; sync = h }
begun_by (refuse n) s h = record { number = n; sync = s }

begun_by_law : (v : Verdict) (s : Sync) (x : Moved F2List ℕ) → begun (told kind store same s v x) ≡ begun_by v s x.flat
begun_by_law taken s x = refl
begun_by_law (refuse n) s x = refl

abbrev quietly : Flat F2List ℕ → Moved F2List ℕ
quietly h = record { flat = h; sent = []; handed = [] }

pub firmware_by_law :
    (s : Sync) (f : ℕ) (v : Verdict)
    → Sized kind s
    → judge_state kind s ≡ v
    → begun_by v s (with_firmware s true f) ≡ set_to s f
firmware_by_law s f v z e =
    sym
    (ap begun (firmware_law kind Sync same same clear frame_of s f z)
    ∙ begun_by_law (judge_state kind s) s (quietly (with_firmware s true f))
    ∙ ap (λ (w : Verdict). begun_by w s (with_firmware s true f)) e)

pub abandon_by :
    (s : Sync) (v : Verdict)
    → Sized kind s
    → judge_state kind s ≡ v
    → begun_by v s (gives_up kind s).flat ≡ abandoned s
abandon_by s v z e =
    sym
    (ap begun (abandon_law kind Sync same same clear frame_of s z)
    ∙ begun_by_law (judge_state kind s) s (gives_up kind s)
    ∙ ap (λ (w : Verdict). begun_by w s (gives_up kind s).flat) e)

pub restart_by :
    (s : Sync) (v : Verdict)
    → Sized kind s
    → judge_restart kind s ≡ v
    → begun_by v s (starts_over kind s) ≡ restarted s
restart_by s v z e =
    sym
    (ap begun (restart_law kind Sync same same clear frame_of s z)
    ∙ begun_by_law (judge_restart kind s) s (quietly (starts_over kind s))
    ∙ ap (λ (w : Verdict). begun_by w s (starts_over kind s)) e)

-- begin
pub begin_by_law :
    (w : List ℕ) (r : Record ℕ) (v : Verdict)
    → unless (ltb 64 (length w)) 11 (unless (not (all_le (old_bounds kind r))) 12 taken) ≡ v
    → begun_by v clear (write_flat clear (begins kind w r)) ≡ begun_with w r
begin_by_law w r v e =
    sym
    (ap begun (begin_law kind Sync same same clear frame_of w r)
    ∙ begun_by_law (unless (ltb 64 (length w)) 11 (unless (not (all_le (old_bounds kind r))) 12 taken)) clear (quietly (write_flat clear (begins kind w r)))
    ∙ ap (λ (x : Verdict). begun_by x clear (write_flat clear (begins kind w r))) e)

-- is_done and lacks

pub sound_by : (s : Sync) → Sized kind s → sound s ≡ sound_in kind s
sound_by s z = sound_is kind s z

done_in_law : (st : State) (h : Flat F2List ℕ) → is_done (phase_in st h) ≡ done_in st
unfolding is_done
done_in_law AwaitStartup h = refl
done_in_law ReadAt h = refl
done_in_law (ReadingF2 a) h = refl
done_in_law (ReadingF1 a) h = refl
done_in_law Enabling h = refl
done_in_law Committing h = refl
done_in_law Activating h = refl
done_in_law Done h = refl

pub done_unsound : (s : Sync) → Sized kind s → sound_in kind s ≡ false → record { number = 16; done = false } ≡ done_of s
done_unsound s z e =
    sym
    (ap (λ (y : Bool). pick {A = IsDone} y (record { number = 0; done = is_done (abs_flat s).phase }) (record { number = 16; done = false }))
    (sound_by s z ∙ e))

pub done_sound : (s : Sync) → Sized kind s → sound_in kind s ≡ true → record { number = 0; done = done_in s.state } ≡ done_of s
done_sound s z e =
    sym
    (ap (λ (y : Bool). pick {A = IsDone} y (record { number = 0; done = is_done (abs_flat s).phase }) (record { number = 16; done = false }))
    (sound_by s z ∙ e)
    ∙ ap {B = IsDone} (λ (y : Bool). record { number = 0; done = y }) (done_in_law s.state s))

pub lacks_by_law : (s : Sync) (p : ℕ) (y : Bool) → Sized kind s → sound_in kind s ≡ y → lack_of s p ≡ pick y (says (lacks (abs_flat s).known p)) (refused 16)
lacks_by_law s p y z e = ap (λ (x : Bool). pick x (says (lacks (abs_flat s).known p)) (refused 16)) (sound_by s z ∙ e)

-- 12, by the counts of the record

old_same : (r : Learned) → record_fits r ≡ ((leb r.saved.n 192) && ((leb r.present.n 192) && ((leb r.refused.n 192) && true)))
old_same r = simp (and_assoc, and_true)

abbrev pub old_test : Learned → Verdict
old_test r = unless (not ((leb r.saved.n 192) && ((leb r.present.n 192) && ((leb r.refused.n 192) && true)))) 12 taken

pub record_over : (r : Learned) → record_fits r ≡ false → old_test r ≡ refuse 12
unfolding unless
record_over r e = ap (λ (y : Bool). unless (not y) 12 taken) (sym (old_same r) ∙ e)

pub record_within : (r : Learned) → record_fits r ≡ true → old_test r ≡ taken
unfolding unless
record_within r e = ap (λ (y : Bool). unless (not y) 12 taken) (sym (old_same r) ∙ e)

-- begin: 11, 12, by the number wanted and the counts of the record

take_leb : (l : List ℕ) (n : ℕ) → length l ≡ 256 → leb (length (take n l)) 192 ≡ leb n 192
take_leb l n e = go (leb n 256) refl
  where
    go : (y : Bool) → leb n 256 ≡ y → leb (length (take n l)) 192 ≡ leb n 192
    go true h = ap (λ (k : ℕ). leb k 192) (length-take-le n l (omega (arith, leb-true n 256 h)))
    go false h =
        ap (λ (k : List ℕ). leb (length k) 192) (take_all n l (omega (arith, leb-false n 256 h)))
        ∙ ap (λ (k : ℕ). leb k 192) e
        ∙ sym (lt-leb n 192 (omega (arith, leb-false n 256 h)))

pub record LearnedSized (r : Learned) : Type 0 where
  pub saved_256 : length r.saved.items ≡ 256
  pub present_256 : length r.present.items ≡ 256
  pub refused_256 : length r.refused.items ≡ 256

old_lists : (r : Learned) → LearnedSized r → all_le (old_bounds kind (record_of r)) ≡ record_fits r
old_lists r z =
    (λ i.
    take_leb r.saved.items r.saved.n z.saved_256 i
    && (take_leb r.present.items r.present.n z.present_256 i && (take_leb r.refused.items r.refused.n z.refused_256 i && true)))
    ∙ sym (old_same r)

abbrev pub begin_test : List ℕ → Learned → Verdict
begin_test w r = unless (ltb 64 (length w)) 11 (unless (not (all_le (old_bounds kind (record_of r)))) 12 taken)

pub begin_over : (w : List ℕ) (r : Learned) → 64 < length w → begin_test w r ≡ refuse 11
unfolding unless
begin_over w r h = rw (lt-ltb 64 (length w) h)

pub begin_record : (w : List ℕ) (r : Learned) → LearnedSized r → length w ≤ 64 → record_fits r ≡ false → begin_test w r ≡ refuse 12
unfolding unless
begin_record w r z h e = rw (le-ltb 64 (length w) h) (ap (λ (y : Bool). unless (not y) 12 taken) (old_lists r z ∙ e))

pub begin_taken : (w : List ℕ) (r : Learned) → LearnedSized r → length w ≤ 64 → record_fits r ≡ true → begin_test w r ≡ taken
unfolding unless
begin_taken w r z h e = rw (le-ltb 64 (length w) h) (ap (λ (y : Bool). unless (not y) 12 taken) (old_lists r z ∙ e))

pub record_counts : (r : Learned) → record_fits r ≡ true → (r.saved.n ≤ 192) × (r.present.n ≤ 192) × (r.refused.n ≤ 192)
record_counts r e =
    let a : (leb r.saved.n 192 && leb r.present.n 192) ≡ true = left_true (leb r.saved.n 192 && leb r.present.n 192) (leb r.refused.n 192) e in (
      leb-true _ _ (left_true (leb r.saved.n 192) (leb r.present.n 192) a),
      leb-true _ _ (right_true (leb r.saved.n 192) (leb r.present.n 192) a),
      leb-true _ _ (right_true (leb r.saved.n 192 && leb r.present.n 192) (leb r.refused.n 192) e),
    )

-- begin in lent memory refuses with the number of module 6's begin
pub begin_number : (x : Numbers) (want : List ℕ) (a : Arrays) → Fits a
    → (begun_in x want a).number ≡ (begun_with want (record_of (learned_in (sync_of x a)))).number
unfolding begun_in opens stored.answer session.begin begin_by
begin_number x want a z =
    let l = learned_in (sync_of x a) in
    let e = old_lists l (record { saved_256 = z.saved_256; present_256 = z.present_256; refused_256 = z.refused_256 }) in
    go (ltb 64 (length want)) (record_fits l)
    ∙ ap (λ (v : Bool). (stored.answer kind store clear (begin_by kind (ltb 64 (length want)) v want (record_of l))).no) (sym e)
  where
    go : (u v : Bool)
        → ◌≡◌ {A = ℕ} (pick {A = Begun} u (record { number = 11; sync = sync_of x a })
        (pick {A = Begun} v (record { number = 0; sync = sync_of (opened_with x.totals.counts (length want)) (wanting a want) })
        (record { number = 12; sync = sync_of x a }))).number
        (stored.answer kind store clear (begin_by kind u v want (record_of (learned_in (sync_of x a))))).no
    go true v = refl
    go false true = refl
    go false false = refl
