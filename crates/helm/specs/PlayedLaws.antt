-- A call of a helm's machine is a step of a run (session/specs/Played): where it answers and leaves what its contract says, and the rest is a run
-- from the session that it left, the whole is a run. A run starts from what begin leaves (session/specs/LentPlayed), or restart; and what is
-- said of its end is what is_done and lacks answer (session/specs/StartUp). And every session can be held by a machine. The limits of `Helm`
-- and of `Lent` are the same, so all of it stands for both. Assumes nothing.
use Rattle.std.specs.Prelude.{ℕ, ◌<◌, ◌≤◌, ltb, ◌≡◌, refl, Bool, true, false, List, [], ◌∷◌, ◌++◌, length, take, eqb, get_or, Result, Ok, Err, Option, Some, None}
use Rattle.std.specs.Borrow.{GName}
use Rattle.std.proofs.Common.{arith, sym, ap, ◌∙◌, le-ltb, le-leb, ne_eqb, ltb-true, ltb-false}
use Rattle.field.specs.Pick.{pick}
use Rattle.numbers.specs.Layout.{is_set, one, state_of, phase_of, attempt_of}
use Rattle.tx_list.specs.Reading.{Call, message, tick, firmware}
use Rattle.lists.specs.declared.F2List.{F2List}
use Rattle.lists.specs.Format2.{no_parts}
use Rattle.tx_list.specs.Session as model
use Rattle.tx_list.specs.Session.{Session, Record, begin_by, begins, all_le, old_bounds, Lacks, silent, from_whole, from_part}
use Rattle.tx_list.specs.Memory.{Sized, abs_flat}
use Rattle.tx_list.specs.declared.State.{State}
use Rattle.tx_list.specs.declared.State.TheVariants.{AwaitStartup, ReadAt, ReadingF2, Reading as ReadingF1, Enabling, Committing, Activating, Done}
use Rattle.session.specs.Sync as one_session
use Rattle.tx_list.specs.Stored.{opens, answer}
use Rattle.tx_list.specs.Session.{begin}
use Rattle.tx_list.specs.Live.{Gateway, Helpful, Mixed, start_up_run}
use Rattle.session.specs.Sync.{Sync, Begun, Told, IsDone, kind, store, clear, begun, begun_with, record_of, learned_in}
use Rattle.session.specs.Lent.{Fits, begun_in, counted, Hand}
use Rattle.session.specs.LentLaws.{sized, blank_told}
use Rattle.session.specs.LentPlayed.{InLentMemory}
use Rattle.session.specs.Played.{Played, Holds, held_by, message', tick', firmware'}
use Rattle.session.specs.StartUp.{StartedUp}
use Rattle.helm.specs.declared.words.Refusal.{Refusal}
use Rattle.helm.specs.declared.words.Refusal.TheVariants.{NotWellFormed, TimeOverLimit, MessageTooLong, NoRoom, ListFull, TooManyWanted, RecordTooLong}
use Rattle.helm.specs.declared.words.Lack.{Lack}
use Rattle.helm.specs.declared.words.Lack.TheVariants.{FromWhole, FromPart}
use Rattle.helm.specs.declared.machines.Helm.{Helm}
use Rattle.helm.specs.declared.lent.Lent.{Lent}
use Rattle.helm.specs.Words.{refusal_number}
use Rattle.helm.specs.declared.calls.Ticked as ticks
use Rattle.helm.specs.declared.stored.Numbers.{Numbers}
use Rattle.helm.specs.Stored.{Stored, HasSizes, session_of, session_in, plain, rests_on, with_numbers, with_parts}
use Rattle.helm.specs.Steps.{minded}
use Rattle.helm.specs.Hands.{hand_in, hand_after_message}
use Rattle.helm.specs.Calls as contracts
use Rattle.helm.specs.Calls.{told, told_done, told_numbers, told_ticked, called, set_to, restarted, abandoned, Said, says, refuses, told_lacks}
use Rattle.helm.specs.Machines.{SameLoans, helm_limits, helm_stored, lent_stored, told_begun}
use Rattle.helm.specs.Linked.{as_lent, arrays_in}
use Rattle.bounds.specs.declared.Limits.{Limits}

-- how many bytes a call wrote
abbrev pub count_in : Result ℕ Refusal → ℕ
count_in (Ok n) = n
count_in (Err e) = 0

-- what a call's `loans` promises its lender: the machine holds the same references, each in its place, so that what it leaves stands in what
-- was lent
pub loans_held : (a b : Lent) → (lent_stored a).loans ≡ (lent_stored b).loans → SameLoans a b
loans_held a b e =
    let at = λ (i : ℕ) (l : List GName). get_or l i b.numbers.ghost_name in
    record {
      numbers = ap (at 0) e;
      wanted = ap (at 1) e;
      owed = ap (at 2) e;
      fresh = ap (at 3) e;
      list = ap (at 4) e;
      known = ap (at 5) e;
      saved = ap (at 6) e;
      present = ap (at 7) e;
      refused = ap (at 8) e;
    }

-- with arrays of a helm's lengths, those that theorems about a begin in lent memory (`Fits`) and about a restart (`Sized`) ask for
pub fits_held : (s : Stored) → HasSizes helm_limits s → Fits (arrays_in s)
fits_held s z =
    record {
      wanted_64 = z.wanted;
      owed_64 = z.owed;
      fresh_64 = z.fresh;
      list_1024 = z.list;
      known_1344 = z.known;
      saved_256 = z.saved;
      present_256 = z.present;
      refused_256 = z.refused;
    }

pub sized_held : (s : Stored) → HasSizes helm_limits s → Sized kind (session_in s)
sized_held s z = sized (as_lent s.numbers) (arrays_in s) (fits_held s z)

-- what begin answers and leaves, in any phase and whatever stood in the arrays before, is what `begun_in` says, of which the theorems about
-- a begin in lent memory speak
pub begun_held : (s : Stored) (want : List ℕ) → contracts.begun_with helm_limits s want ≡ begun_in (as_lent s.numbers) want (arrays_in s)
unfolding begun_in
begun_held s want = refl

-- so a begin refuses what the model's begin refuses, with the same number: the record is what stands in the arrays (s before, t after)
pub begin_refusal : (theorems : InLentMemory) (s t : Stored) → HasSizes helm_limits s
    → (want : List ℕ) {A : Type 0} (r : Result A Refusal)
    → told_done r t ≡ contracts.begun_with helm_limits s want
    → (told_done r t).number ≡ (begun_with want (record_of (learned_in (session_in s)))).number
begin_refusal theorems s t z want r left =
    ap (λ (x : Begun). x.number) (left ∙ begun_held s want) ∙ theorems.begin_number (as_lent s.numbers) want (arrays_in s) (fits_held s z)

-- and of a begin that is taken
module _ (theorems : InLentMemory) (s t : Stored) (sizes : HasSizes helm_limits s) (want : List ℕ) {A : Type 0} (u : A)
    (left : told_done (Ok u) t ≡ contracts.begun_with helm_limits s want) {last : Sync} {calls : List Call} {bytes : List ℕ} where
  -- demand 3 stands for every run from it
  pub begin_demand_3 : Played (session_in t) calls last bytes → Holds want (record_of (learned_in (session_in s))) calls last bytes
  begin_demand_3 p =
      theorems.demand_3 (as_lent s.numbers) want (arrays_in s) (told_done (Ok u) t) (fits_held s sizes) (left ∙ begun_held s want) refl calls last
      bytes p

  -- and the start-up ends well, with any gateway that helps
  pub begin_start_up : (g : Gateway)
      → Helpful kind want (record_of (learned_in (session_in s))) g
      → Mixed kind (record { session = held_by (session_in t); sent = [] }) (start_up_run kind want (record_of (learned_in (session_in s))) g) calls
      → Played (session_in t) calls last bytes
      → StartedUp want (record_of (learned_in (session_in s))) g last bytes
  begin_start_up g f m p =
      theorems.start_up (as_lent s.numbers) want (arrays_in s) (told_done (Ok u) t) (fits_held s sizes) (left ∙ begun_held s want) refl g f calls m
      last bytes p

-- what is_done answered, with the number of a refusal
abbrev pub told_is_done : Result Bool Refusal → IsDone
told_is_done (Ok b) = record { number = 0; done = b }
told_is_done (Err e) = record { number = refusal_number e; done = false }

-- what lacks said, with the number of a refusal
abbrev pub told_said : Said → one_session.Said
told_said (says x) = one_session.says x
told_said (refuses e) = one_session.refused (refusal_number e)

-- the numbers to store after a call over the numbers alone: in a refusal those that it was called with
abbrev pub ticked_numbers : Result ticks.Ticked Refusal → Numbers → Numbers
ticked_numbers (Ok t) n = t.numbers
ticked_numbers (Err e) n = n

abbrev pub ticked_count : Result ticks.Ticked Refusal → ℕ
ticked_count (Ok t) = t.count
ticked_count (Err e) = 0

abbrev pub set_numbers : Result Numbers Refusal → Numbers → Numbers
set_numbers (Ok m) n = m
set_numbers (Err e) n = n

-- where the phase is one of the eight, the contracts of a machine with a helm's limits are those of the session that it holds
module _ (s : Stored) (h : s.numbers.phase ≤ 7) where
  pub called_held : (x : Call) (out : List ℕ) → called helm_limits s x out ≡ one_session.called (session_in s) x out
  called_held x out = rw (le-ltb 7 s.numbers.phase h) refl

  pub set_to_held : (v : ℕ) → set_to helm_limits s v ≡ one_session.set_to (session_in s) v
  set_to_held v = rw (le-ltb 7 s.numbers.phase h) refl

  pub restarted_held : restarted helm_limits s ≡ one_session.restarted (session_in s)
  restarted_held = rw (le-ltb 7 s.numbers.phase h) refl

  pub abandoned_held : abandoned helm_limits s ≡ one_session.abandoned (session_in s)
  abandoned_held = rw (le-ltb 7 s.numbers.phase h) refl

  -- what is_done answers, with the number of a refusal: a start-up ends where it answers yes
  pub done_held : told_is_done (contracts.done_of (contracts.state_of helm_limits s)) ≡ one_session.done_of (session_in s)
  done_held = rw (le-leb s.numbers.phase 7 h) (by_test (one_session.sound (session_in s)) (abs_flat (session_in s)))
    where
      by_test : (b : Bool) (m : Session F2List ℕ)
          → told_is_done (contracts.done_of (pick b (Some m) None)) ≡ pick b (record { number = 0; done = model.is_done m.phase }) (record { number = 16; done = false })
      by_test true m = refl
      by_test false m = refl

  -- and what lacks says of a PGN: at the end of a start-up nothing, where the PGN is wanted and was not refused before
  pub lack_held : (p : ℕ) → told_said (contracts.lack_of (contracts.state_of helm_limits s) p) ≡ one_session.lack_of (session_in s) p
  lack_held p = rw (le-leb s.numbers.phase 7 h) (by_test (one_session.sound (session_in s)) (abs_flat (session_in s)))
    where
      by_test : (b : Bool) (m : Session F2List ℕ)
          → told_said (contracts.lack_of (pick b (Some m) None) p) ≡ pick b (one_session.says (model.lacks m.known p)) (one_session.refused 16)
      by_test true m = refl
      by_test false m = refl

  -- the calls, with the memory before (s) and after (t)
  module _ (t : Stored) {last : Sync} {calls : List Call} {bytes : List ℕ} where
    pub machine_message : (r : Result ℕ Refusal) (time : ℕ) (payload out left : List ℕ)
        → told r t left ≡ called helm_limits s (message time payload (length out)) out
        → Played (session_in t) calls last bytes
        → Played (session_in s) (message time payload (length out) ∷ calls) last (take (count_in r) left ++ bytes)
    machine_message (Ok n) time payload out left e p =
        message' (told (Ok n) t left) time payload out (e ∙ called_held (message time payload (length out)) out) p
    machine_message (Err x) time payload out left e p =
        message' (told (Err x) t left) time payload out (e ∙ called_held (message time payload (length out)) out) p

    pub machine_tick : (r : Result ℕ Refusal) (time : ℕ) (out left : List ℕ)
        → told r t left ≡ called helm_limits s (tick time (length out)) out
        → Played (session_in t) calls last bytes
        → Played (session_in s) (tick time (length out) ∷ calls) last (take (count_in r) left ++ bytes)
    machine_tick (Ok n) time out left e p = tick' (told (Ok n) t left) time out (e ∙ called_held (tick time (length out)) out) p
    machine_tick (Err x) time out left e p = tick' (told (Err x) t left) time out (e ∙ called_held (tick time (length out)) out) p

    pub machine_firmware : {A : Type 0} (r : Result A Refusal) (version : ℕ)
        → told_done r t ≡ set_to helm_limits s version
        → Played (session_in t) calls last bytes
        → Played (session_in s) (firmware version ∷ calls) last bytes
    machine_firmware (Ok u) version e p = firmware' (told_done (Ok u) t) version (e ∙ set_to_held version) p
    machine_firmware {A} (Err x) version e p = firmware' (told_done {A = A} (Err x) t) version (e ∙ set_to_held version) p

  -- the calls over the numbers alone, for callers whose arrays lie elsewhere: what is held after one is what its numbers hold in the same arrays
  module _ {last : Sync} {calls : List Call} {bytes : List ℕ} where
    pub numbers_tick : (r : Result ticks.Ticked Refusal) (time : ℕ) (out left : List ℕ)
        → told_ticked r s left ≡ called helm_limits s (tick time (length out)) out
        → Played (session_in (with_numbers s (ticked_numbers r s.numbers))) calls last bytes
        → Played (session_in s) (tick time (length out) ∷ calls) last (take (ticked_count r) left ++ bytes)
    numbers_tick (Ok x) time out left e p = machine_tick (with_numbers s x.numbers) (Ok x.count) time out left e p
    numbers_tick (Err x) time out left e p = machine_tick s (Err x) time out left e p

    pub numbers_firmware : (r : Result Numbers Refusal) (version : ℕ)
        → told_numbers r s ≡ set_to helm_limits s version
        → Played (session_in (with_numbers s (set_numbers r s.numbers))) calls last bytes
        → Played (session_in s) (firmware version ∷ calls) last bytes
    numbers_firmware (Ok n) version e p = machine_firmware (with_numbers s n) {A = Numbers} (Ok n) version e p
    numbers_firmware (Err x) version e p = machine_firmware s {A = Numbers} (Err x) version e p

-- a refusal's number loses nothing
abbrev refusal_of : ℕ → Refusal
refusal_of n =
    pick (eqb n 16) NotWellFormed
    (pick (eqb n 13) TimeOverLimit
    (pick (eqb n 6) MessageTooLong (pick (eqb n 7) NoRoom (pick (eqb n 14) ListFull (pick (eqb n 11) TooManyWanted RecordTooLong)))))

refusal_told : (e : Refusal) → refusal_of (refusal_number e) ≡ e
refusal_told NotWellFormed = refl
refusal_told TimeOverLimit = refl
refusal_told MessageTooLong = refl
refusal_told NoRoom = refl
refusal_told ListFull = refl
refusal_told TooManyWanted = refl
refusal_told RecordTooLong = refl

pub refusal_tells : (d e : Refusal) → refusal_number d ≡ refusal_number e → d ≡ e
refusal_tells d e p = sym (refusal_told d) ∙ ap refusal_of p ∙ refusal_told e

-- what `lacks` says loses nothing
abbrev lack_back : Lacks → Option Lack
lack_back silent = None
lack_back from_whole = Some FromWhole
lack_back from_part = Some FromPart

abbrev lacks_back : Said → Result (Option Lack) Refusal
lacks_back (says x) = Ok (lack_back x)
lacks_back (refuses e) = Err e

back_told : (a : Result (Option Lack) Refusal) → lacks_back (told_lacks a) ≡ a
back_told (Ok None) = refl
back_told (Ok (Some FromWhole)) = refl
back_told (Ok (Some FromPart)) = refl
back_told (Err e) = refl

pub lacks_tells : (a b : Result (Option Lack) Refusal) → told_lacks a ≡ told_lacks b → a ≡ b
lacks_tells a b e = sym (back_told a) ∙ ap lacks_back e ∙ back_told b

-- a machine that holds a session
abbrev pub helm_of : Sync → Helm
helm_of h =
    record {
      numbers =
          record {
            phase = phase_of h.state;
            attempt = attempt_of h.state;
            due = h.deadline;
            wanted = h.wanted.n;
            owed = h.owed.n;
            fresh = h.fresh.n;
            list = h.list.n;
            proprietary = h.f2.proprietary.list.n;
            known = h.known.n;
            saved = h.saved.n;
            present = h.present.n;
            refused = h.refused.n;
            read = one h.is_known;
            complete = one h.complete;
            told = one h.told;
            version = h.version;
            blank = 0;
          };
      wanted = h.wanted.items;
      owed = h.owed.items;
      fresh = h.fresh.items;
      list = h.list.items;
      known = h.known.items;
      saved = h.saved.items;
      present = h.present.items;
      refused = h.refused.items;
      parts = h.f2;
    }

pub state_back : (st : State) → state_of (phase_of st) (attempt_of st) ≡ st
state_back AwaitStartup = refl
state_back ReadAt = refl
state_back (ReadingF1 a) = refl
state_back (ReadingF2 a) = refl
state_back Enabling = refl
state_back Committing = refl
state_back Activating = refl
state_back Done = refl

flag_back : (b : Bool) → is_set (one b) ≡ b
flag_back true = refl
flag_back false = refl

pub phase_small : (st : State) → phase_of st ≤ 7
phase_small AwaitStartup = omega arith
phase_small ReadAt = omega arith
phase_small (ReadingF1 a) = omega arith
phase_small (ReadingF2 a) = omega arith
phase_small Enabling = omega arith
phase_small Committing = omega arith
phase_small Activating = omega arith
phase_small Done = omega arith

-- a session put into a machine and read back is the same, and its phase is one of the eight
pub of_to : (h : Sync) → session_in (helm_stored (helm_of h)) ≡ h
of_to h =
    λ i. record h { state = state_back h.state i; is_known = flag_back h.is_known i; complete = flag_back h.complete i; told = flag_back h.told i }

pub phase_to : (h : Sync) → (helm_stored (helm_of h)).numbers.phase ≤ 7
phase_to h = phase_small h.state

-- a machine that holds a session in this way is read and put back unchanged
pub to_of : (h : Sync) → helm_of (session_in (helm_stored (helm_of h))) ≡ helm_of h
to_of h = ap helm_of (of_to h)

-- nothing of a machine is left open by its session, where the parts in memory are in hand and its numbers are in the one form in which a call
-- stores them
pub whole_to_of : (m : Helm) → m.numbers ≡ plain m.numbers → m.numbers.blank ≡ 0 → m.numbers.proprietary ≡ m.parts.proprietary.list.n
    → helm_of (session_in (helm_stored m)) ≡ m
whole_to_of m e b p =
    λ i.
    record m {
      numbers = record (sym e i) { blank = sym b i };
      parts = counted (p i) (pick (is_set (b i)) no_parts m.parts);
    }

-- a machine that holds a session, with these parts in memory
abbrev pub helm_with : Sync → Hand → Helm
helm_with h k = record (helm_of h) { numbers = record (helm_of h).numbers { blank = one k.blank }; parts = k.parts }

-- whether the parts in memory are in hand or not, nothing is left open by them and the session
pub hand_to_of : (m : Helm) → m.numbers ≡ plain m.numbers → helm_with (session_in (helm_stored m)) (hand_in m.numbers (helm_stored m)) ≡ m
hand_to_of m e = λ i. record m { numbers = sym e i }

-- the same of numbers in that form, in any memory
numbers_fixed : (s t : Stored) → session_in s ≡ session_in t → hand_in s.numbers s ≡ hand_in t.numbers t → plain s.numbers ≡ plain t.numbers
numbers_fixed s t e h =
    λ i.
    record {
      phase = phase_of (e i).state;
      attempt = attempt_of (e i).state;
      due = (e i).deadline;
      wanted = (e i).wanted.n;
      owed = (e i).owed.n;
      fresh = (e i).fresh.n;
      list = (e i).list.n;
      proprietary = (e i).f2.proprietary.list.n;
      known = (e i).known.n;
      saved = (e i).saved.n;
      present = (e i).present.n;
      refused = (e i).refused.n;
      read = one (e i).is_known;
      complete = one (e i).complete;
      told = one (e i).told;
      version = (e i).version;
      blank = one (h i).blank;
    }

-- with the numbers, all of memory
memory_fixed : (s t : Stored) → session_in s ≡ session_in t → s.numbers ≡ t.numbers → s.parts ≡ t.parts → s.loans ≡ t.loans → s ≡ t
memory_fixed s t e n f o =
    λ i.
    record {
      numbers = n i;
      wanted = (e i).wanted.items;
      owed = (e i).owed.items;
      fresh = (e i).fresh.items;
      list = (e i).list.items;
      known = (e i).known.items;
      saved = (e i).saved.items;
      present = (e i).present.items;
      refused = (e i).refused.items;
      parts = f i;
      loans = o i;
    }

-- where the sessions are the same whatever parts are in memory, the same is in hand
hand_fixed : (s t : Stored) → ((f : F2List) → session_in (with_parts s f) ≡ session_in (with_parts t f)) → s.parts ≡ t.parts → hand_in s.numbers s ≡ hand_in t.numbers t
hand_fixed s t e p =
    λ i.
    record {
      parts = p i;
      blank = blank_told (as_lent s.numbers).totals (as_lent t.numbers).totals (λ f. ap (λ (h : Sync). h.f2) (e f)) i;
    }

-- numbers in that form that hold the same session whatever parts are in memory are the same, `blank` too: so are those that hold the same in
-- every memory
pub helm_numbers_tell : (x y : Numbers) (s t : Stored) → x ≡ plain x → y ≡ plain y
    → ((f : F2List) → session_of x (with_parts s f) ≡ session_of y (with_parts t f)) → x ≡ y
helm_numbers_tell x y s t p q h =
    let a : Stored = with_parts (with_numbers s x) no_parts in
    let b : Stored = with_parts (with_numbers t y) no_parts in
    p ∙ numbers_fixed a b (h no_parts) (hand_fixed a b h refl) ∙ sym q

-- A CALL FIXES ALL OF MEMORY: two memories that it may leave of the same one are the same, numbers, arrays and parts

-- what the contracts of begin, restart, set_firmware and abandon say of the memory that they leave, where x is said of what they answer and
-- leave with these parts
pub record Renewed (x : F2List → Begun) (s t : Stored) : Type 0 where
  pub session : (f : F2List) → ◌≡◌ {A = Begun} (record { number = 0; sync = session_in (with_parts t f) }) (x f)
  pub loans : t.loans ≡ s.loans
  pub form : t.numbers ≡ plain t.numbers
  pub parts : t.parts ≡ s.parts

pub renewed_fixes : (x : F2List → Begun) (s t u : Stored) → Renewed x s t → Renewed x s u → t ≡ u
renewed_fixes x s t u a b =
    let e : (f : F2List) → session_in (with_parts t f) ≡ session_in (with_parts u f) = λ f. ap (λ (v : Begun). v.sync) (a.session f ∙ sym (b.session f)) in
    let p : t.parts ≡ u.parts = a.parts ∙ sym b.parts in
    let h = hand_fixed t u e p in
    let k : session_in t ≡ session_in u = e t.parts ∙ ap (λ (f : F2List). session_in (with_parts u f)) p in
    memory_fixed t u k (a.form ∙ numbers_fixed t u k h ∙ sym b.form) p (a.loans ∙ sym b.loans)

module _ (l : Limits) (s : Stored) (time : ℕ) (out : List ℕ) where
  -- what the contract of a tick says of the memory that it leaves
  pub record Ticked (count : ℕ) (left : List ℕ) (t : Stored) : Type 0 where
    pub session : (f : F2List) → told (Ok count) (with_parts t f) left ≡ called l (with_parts s f) (tick time (length out)) out
    pub loans : t.loans ≡ s.loans
    pub form : t.numbers ≡ pick (rests_on l s.numbers time (length out)) s.numbers (plain t.numbers)
    pub parts : t.parts ≡ s.parts

  pub tick_fixes : (j k : ℕ) (x y : List ℕ) (t u : Stored) → Ticked j x t → Ticked k y u → t ≡ u
  tick_fixes j k x y t u a b =
      let e : (f : F2List) → session_in (with_parts t f) ≡ session_in (with_parts u f) = λ f. ap (λ (v : Told). v.sync) (a.session f ∙ sym (b.session f)) in
      let p : t.parts ≡ u.parts = a.parts ∙ sym b.parts in
      let h = hand_fixed t u e p in
      let k : session_in t ≡ session_in u = e t.parts ∙ ap (λ (f : F2List). session_in (with_parts u f)) p in
      let n = a.form ∙ ap (pick (rests_on l s.numbers time (length out)) s.numbers) (numbers_fixed t u k h) ∙ sym b.form in
      memory_fixed t u k n p (a.loans ∙ sym b.loans)

  module _ (payload : List ℕ) where
    -- what the contract of a message says of the memory that it leaves
    pub record Heard (count : ℕ) (left : List ℕ) (t : Stored) : Type 0 where
      pub session : told (Ok count) t left ≡ called l s (message time payload (length out)) out
      pub loans : t.loans ≡ s.loans
      pub form : t.numbers ≡ pick (minded s.numbers payload) (plain t.numbers) s.numbers
      pub hand : hand_in t.numbers t ≡ hand_after_message s.numbers s payload

    pub message_fixes : (j k : ℕ) (x y : List ℕ) (t u : Stored) → Heard j x t → Heard k y u → t ≡ u
    message_fixes j k x y t u a b =
        let e : session_in t ≡ session_in u = ap (λ (v : Told). v.sync) (a.session ∙ sym b.session) in
        let h : hand_in t.numbers t ≡ hand_in u.numbers u = a.hand ∙ sym b.hand in
        let n = a.form ∙ ap (λ (z : Numbers). pick (minded s.numbers payload) z s.numbers) (numbers_fixed t u e h) ∙ sym b.form in
        memory_fixed t u e n (ap (λ (v : Hand). v.parts) h) (a.loans ∙ sym b.loans)

-- so of two helms
pub helm_fixed : (h k : Helm) → helm_stored h ≡ helm_stored k → h ≡ k
helm_fixed h k e =
    λ i.
    record {
      numbers = (e i).numbers;
      wanted = (e i).wanted;
      owed = (e i).owed;
      fresh = (e i).fresh;
      list = (e i).list;
      known = (e i).known;
      saved = (e i).saved;
      present = (e i).present;
      refused = (e i).refused;
      parts = (e i).parts;
    }

-- and what `Helm::begun` answers is one helm: x is what its contract says of the session, k of the parts
pub begun_fixes : (x : Begun) (p : Hand) (h k : Helm)
    → told_begun (Ok h) ≡ x
    → told_begun (Ok k) ≡ x
    → h.numbers ≡ plain h.numbers
    → k.numbers ≡ plain k.numbers
    → hand_in h.numbers (helm_stored h) ≡ p
    → hand_in k.numbers (helm_stored k) ≡ p
    → h ≡ k
begun_fixes x p h k a b c d f g =
    let e : session_in (helm_stored h) ≡ session_in (helm_stored k) = ap (λ (v : Begun). v.sync) (a ∙ sym b) in
    let y : hand_in h.numbers (helm_stored h) ≡ hand_in k.numbers (helm_stored k) = f ∙ sym g in
    helm_fixed h k
    (memory_fixed (helm_stored h) (helm_stored k) e (c ∙ numbers_fixed (helm_stored h) (helm_stored k) e y ∙ sym d) (ap (λ (v : Hand). v.parts) y) refl)

-- a phase over 7 is taken as done; so one that is not done is one of the eight
past_done : (p a : ℕ) → 7 < p → state_of p a ≡ Done
past_done p a h =
    rw (ne_eqb p 0 (λ e. omega arith), ne_eqb p 1 (λ e. omega arith), ne_eqb p 2 (λ e. omega arith), ne_eqb p 3 (λ e. omega arith), ne_eqb p 4 (λ e. omega arith), ne_eqb p 5 (λ e. omega arith), ne_eqb p 6 (λ e. omega arith))
    refl

pub not_done_small : (p a : ℕ) → (state_of p a ≡ Done → ⊥) → p ≤ 7
not_done_small p a h = go (ltb 7 p) refl
  where
    go : (b : Bool) → ltb 7 p ≡ b → p ≤ 7
    go true e = absurd (h (past_done p a (ltb-true 7 p e)))
    go false e = ltb-false 7 p e

-- a session just begun has a phase of the eight
pub begun_small : (h : Helm) (w : List ℕ) (r : Record ℕ) → told_begun (Ok h) ≡ begun_with w r → h.numbers.phase ≤ 7
unfolding opens answer begin begin_by begins
begun_small h w r e =
    not_done_small h.numbers.phase h.numbers.attempt
    (λ d. waits_done (sym (waits (ltb 64 (length w)) (all_le (old_bounds kind r))) ∙ ap (λ (x : Begun). x.sync.state) (sym e) ∙ d))
  where
    waits : (a b : Bool) → (begun (answer kind store clear (begin_by kind a b w r))).sync.state ≡ AwaitStartup
    waits true b = refl
    waits false true = refl
    waits false false = refl

    waits_done : AwaitStartup ≡ Done → ⊥
    waits_done e = let z : ◌≡◌ {A = ℕ} 0 7 = ap phase_of e in omega arith
