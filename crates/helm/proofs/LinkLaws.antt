-- A session whose 17 numbers are lent: where it is well formed, none of them was cut; where it is not, a call is refused with 16 and nothing
-- changes. So what a call leaves of the session in memory is what it leaves of the one that the lent numbers tell.
use Rattle.std.specs.Prelude.{ℕ, ◌%◌, Option, Some, None, ◌<◌, ◌≤◌, ◌≡◌, Bool, true, false, not, ◌&&◌, ◌||◌, List, get_or, length, leb, ltb, Result, Ok, Err, eqb}
use Rattle.std.proofs.Common.{arith, refl, sym, ap, ◌∙◌, le-ltb, leb-true, ltb-true, ne_eqb, lt-ltb, leb-false}
use Rattle.std.proofs.lemmas.Bool.Decides.{nat_tests}
use borrow.Author.Tests.{lt-leb}
use Rattle.field.specs.Pick.{pick}
use Rattle.field.specs.Tests.{left_true}
use Rattle.bounds.specs.Bounds.{sound_at, old_fits}
use Rattle.numbers.specs.Layout as layout
use Rattle.numbers.specs.Layout.{is_set}
use Rattle.session.specs.Sync.{Sync, Begun, Told}
use Rattle.session.specs.Sync as sync
use Rattle.session.specs.Lent as lent
use Rattle.session.specs.Lent.{Arrays, Fits, sync_of, begun_in}
use Rattle.helm.specs.declared.stored.Numbers.{Numbers}
use Rattle.helm.specs.declared.calls.Ticked.{Ticked}
use Rattle.helm.specs.declared.words.Lack.{Lack}
use Rattle.helm.specs.declared.words.Refusal.{Refusal}
use Rattle.helm.specs.declared.words.Refusal.TheVariants.{NotWellFormed, TimeOverLimit, MessageTooLong, NoRoom, ListFull, TooManyWanted, RecordTooLong}
use Rattle.helm.specs.Words.{refusal_number}
use Rattle.helm.specs.Stored.{Stored, HasSizes, FitLimits, is_well_formed, is_calm, rests_on, session_of, counts_of}
use Rattle.helm.specs.Machines.{helm_limits, word, half, numbers_in}
use Rattle.lists.specs.declared.F2List.{F2List}
use Rattle.tx_list.specs.Reading.{tick, message}
use Rattle.tx_list.specs.Session.{Session, lacks}
use Rattle.tx_list.specs.Memory.{abs_flat}
use Rattle.helm.specs.Calls.{Holds, Said, says, refuses, told, told_numbers, told_opened, told_ticked, told_lacks, begun_with, called, set_to, restarted, abandoned, state_of, lack_of}
use Rattle.helm.proofs.CallLaws.{message_unformed, state_none, restart_unformed, firmware_unformed, abandon_unformed, tick_unformed}
use Rattle.helm.specs.Linked.{as_lent, arrays_in, stored_in, uncut, begun_by, told_by, said_by, lent_numbers, lent_opened, lent_ticked, lent_heard, lent_lacks}
use Rattle.helm.proofs.Calm.{calm_sound}
use Rattle.helm.proofs.HeardLaws.{within}

-- THE SESSION that memory holds, by either definition
pub held_same : (n : Numbers) (s : Stored) → session_of n s ≡ sync_of (as_lent n) (arrays_in s)
held_same n s = refl

-- a number that is cut is over each bound
word_kept : (x k : ℕ) → k < 4294967295 → word x ≤ k → word x ≡ x
word_kept x k h e = go (ltb 4294967295 x) refl
  where
    go : (b : Bool) → ltb 4294967295 x ≡ b → word x ≡ x
    go false q = ap (λ (b : Bool). pick b 4294967295 x) q
    go true q = let w : word x ≡ 4294967295 = ap (λ (b : Bool). pick b 4294967295 x) q in absurd (omega arith)

word_whole : (x k : ℕ) → k < 4294967295 → x ≤ k → word x ≡ x
word_whole x k h e = let f : x ≤ 4294967295 = omega arith in ap (λ (b : Bool). pick b 4294967295 x) (le-ltb 4294967295 x f)

word_eqb : (x k : ℕ) → k < 4294967295 → eqb (word x) k ≡ eqb x k
word_eqb x k h = go (ltb 4294967295 x) refl
  where
    go : (b : Bool) → ltb 4294967295 x ≡ b → eqb (word x) k ≡ eqb x k
    go false q = ap (λ (b : Bool). eqb (pick b 4294967295 x) k) q
    go true q =
        let l : 4294967295 < x = ltb-true 4294967295 x q in
        ap (λ (b : Bool). eqb (pick b 4294967295 x) k) q ∙ ne_eqb 4294967295 k (λ e. omega arith) ∙ sym (ne_eqb x k (λ e. omega arith))

-- a flag that is cut stays set
set_word : (x : ℕ) → is_set (word x) ≡ is_set x
set_word x = go (ltb 4294967295 x) refl
  where
    go : (b : Bool) → ltb 4294967295 x ≡ b → is_set (word x) ≡ is_set x
    go false q = ap (λ (b : Bool). is_set (pick b 4294967295 x)) q
    go true q =
        let h : 4294967295 < x = ltb-true 4294967295 x q in
        ap (λ (b : Bool). is_set (pick b 4294967295 x)) q ∙ sym (ap not (ne_eqb x 0 (λ e. omega arith)))

pub set_half : (x : ℕ) → is_set (half x) ≡ is_set x
set_half x = go (ltb 65535 x) refl
  where
    go : (b : Bool) → ltb 65535 x ≡ b → is_set (half x) ≡ is_set x
    go false q = ap (λ (b : Bool). is_set (pick b 65535 x)) q
    go true q =
        let h : 65535 < x = ltb-true 65535 x q in
        ap (λ (b : Bool). is_set (pick b 65535 x)) q ∙ sym (ap not (ne_eqb x 0 (λ e. omega arith)))

word_leb : (x k : ℕ) → k < 4294967295 → leb (word x) k ≡ leb x k
word_leb x k h = go (ltb 4294967295 x) refl
  where
    go : (b : Bool) → ltb 4294967295 x ≡ b → leb (word x) k ≡ leb x k
    go false q = ap (λ (b : Bool). leb (pick b 4294967295 x) k) q
    go true q =
        let l : 4294967295 < x = ltb-true 4294967295 x q in
        let m : k < x = omega arith in
        ap (λ (b : Bool). leb (pick b 4294967295 x) k) q ∙ lt-leb 4294967295 k h ∙ sym (lt-leb x k m)

-- no refusal has the number 0
not_zero : (e : Refusal) → refusal_number e ≡ 0 → ⊥
not_zero NotWellFormed h = let z : ◌≡◌ {A = ℕ} 16 0 = h in omega arith
not_zero TimeOverLimit h = let z : ◌≡◌ {A = ℕ} 13 0 = h in omega arith
not_zero MessageTooLong h = let z : ◌≡◌ {A = ℕ} 6 0 = h in omega arith
not_zero NoRoom h = let z : ◌≡◌ {A = ℕ} 7 0 = h in omega arith
not_zero ListFull h = let z : ◌≡◌ {A = ℕ} 14 0 = h in omega arith
not_zero TooManyWanted h = let z : ◌≡◌ {A = ℕ} 11 0 = h in omega arith
not_zero RecordTooLong h = let z : ◌≡◌ {A = ℕ} 12 0 = h in omega arith

helm_fits : FitLimits helm_limits
helm_fits = record { wanted = omega arith; list = omega arith; known = refl; whole = λ e. omega arith }

-- neither the phase nor a count of the 17 numbers is cut
record Whole (n : List ℕ) : Type 0 where
  phase : word (get_or n 0 0) ≡ get_or n 0 0
  wanted : word (get_or n 2 0) ≡ get_or n 2 0
  owed : word (get_or n 3 0) ≡ get_or n 3 0
  fresh : word (get_or n 4 0) ≡ get_or n 4 0
  list : word (get_or n 5 0) ≡ get_or n 5 0
  proprietary : word (get_or n 6 0) ≡ get_or n 6 0
  known : word (get_or n 7 0) ≡ get_or n 7 0
  saved : word (get_or n 8 0) ≡ get_or n 8 0
  present : word (get_or n 9 0) ≡ get_or n 9 0
  refused : word (get_or n 10 0) ≡ get_or n 10 0

module _ (n : List ℕ) where
  whole_of : is_well_formed helm_limits (numbers_in n) ≡ true → Whole n
  whole_of e =
      let w = within helm_limits (numbers_in n) e in
      record {
        phase = word_kept (get_or n 0 0) 7 (omega arith) (leb-true (word (get_or n 0 0)) 7 (left_true (leb (word (get_or n 0 0)) 7) _ e));
        wanted = word_kept (get_or n 2 0) 64 (omega arith) w.wanted;
        owed = word_kept (get_or n 3 0) 64 (omega arith) w.owed;
        fresh = word_kept (get_or n 4 0) 64 (omega arith) w.fresh;
        list = word_kept (get_or n 5 0) 1024 (omega arith) w.list;
        proprietary = word_kept (get_or n 6 0) 512 (omega arith) w.proprietary;
        known = word_kept (get_or n 7 0) 1344 (omega arith) w.known;
        saved = word_kept (get_or n 8 0) 256 (omega arith) w.saved;
        present = word_kept (get_or n 9 0) 256 (omega arith) w.present;
        refused = word_kept (get_or n 10 0) 256 (omega arith) w.refused;
      }

  whole_by : is_well_formed helm_limits (uncut n) ≡ true → Whole n
  whole_by e =
      let w = within helm_limits (uncut n) e in
      record {
        phase = word_whole (get_or n 0 0) 7 (omega arith) (leb-true (get_or n 0 0) 7 (left_true (leb (get_or n 0 0) 7) _ e));
        wanted = word_whole (get_or n 2 0) 64 (omega arith) w.wanted;
        owed = word_whole (get_or n 3 0) 64 (omega arith) w.owed;
        fresh = word_whole (get_or n 4 0) 64 (omega arith) w.fresh;
        list = word_whole (get_or n 5 0) 1024 (omega arith) w.list;
        proprietary = word_whole (get_or n 6 0) 512 (omega arith) w.proprietary;
        known = word_whole (get_or n 7 0) 1344 (omega arith) w.known;
        saved = word_whole (get_or n 8 0) 256 (omega arith) w.saved;
        present = word_whole (get_or n 9 0) 256 (omega arith) w.present;
        refused = word_whole (get_or n 10 0) 256 (omega arith) w.refused;
      }

  lent_same : Whole n → as_lent (numbers_in n) ≡ as_lent (uncut n)
  lent_same w = λ i.
      record {
        state = layout.state_of (w.phase i) (get_or n 1 0 % 4294967296);
        totals =
            record {
              counts =
                  record {
                    wanted = w.wanted i;
                    owed = w.owed i;
                    fresh = w.fresh i;
                    list = w.list i;
                    proprietary = w.proprietary i;
                    known = w.known i;
                    saved = w.saved i;
                    present = w.present i;
                    refused = w.refused i;
                  };
              deadline = get_or n 11 0;
              read = set_word (get_or n 12 0) i;
              complete = set_word (get_or n 13 0) i;
              told = set_word (get_or n 14 0) i;
              version = get_or n 15 0 % 65536;
              blank = set_half (get_or n 16 0) i;
            };
      }

  wf_same : Whole n → is_well_formed helm_limits (numbers_in n) ≡ is_well_formed helm_limits (uncut n)
  wf_same w = λ i. leb (w.phase i) 7 && sound_at helm_limits (lent_same w i).totals.counts (lent_same w i).state

  -- WELL FORMED, WHETHER CUT OR NOT, and then the session is the one that the lent numbers tell
  pub formed_same : is_well_formed helm_limits (numbers_in n) ≡ is_well_formed helm_limits (uncut n)
  formed_same = go (is_well_formed helm_limits (numbers_in n)) (is_well_formed helm_limits (uncut n)) refl refl
    where
      go : (a b : Bool) → is_well_formed helm_limits (numbers_in n) ≡ a → is_well_formed helm_limits (uncut n) ≡ b
          → is_well_formed helm_limits (numbers_in n) ≡ is_well_formed helm_limits (uncut n)
      go true b p q = wf_same (whole_of p)
      go false true p q = wf_same (whole_by q)
      go false false p q = p ∙ sym q

  pub numbers_same : is_well_formed helm_limits (numbers_in n) ≡ true → as_lent (numbers_in n) ≡ as_lent (uncut n)
  numbers_same e = lent_same (whole_of e)

  pub phase_same : is_well_formed helm_limits (numbers_in n) ≡ true → (numbers_in n).phase ≡ get_or n 0 0
  phase_same e = (whole_of e).phase

  -- one look says the same of them
  pub calm_same : is_calm helm_limits (numbers_in n) ≡ is_calm helm_limits (uncut n)
  calm_same = λ i.
      word_leb (get_or n 2 0) 64 (omega arith) i
      && word_leb (get_or n 3 0) 64 (omega arith) i
      && word_leb (get_or n 4 0) 64 (omega arith) i
      && word_leb (get_or n 5 0) 1024 (omega arith) i
      && word_leb (get_or n 6 0) 512 (omega arith) i
      && word_leb (get_or n 7 0) 1344 (omega arith) i
      && word_leb (get_or n 8 0) 192 (omega arith) i
      && word_leb (get_or n 9 0) 192 (omega arith) i
      && word_leb (get_or n 10 0) 192 (omega arith) i
      && word_leb (get_or n 0 0) 7 (omega arith) i
      && not (word_eqb (get_or n 0 0) 4 (omega arith) i)
      && (true || not (word_eqb (get_or n 0 0) 3 (omega arith) i))

  pub rests_same : (t room : ℕ) → rests_on helm_limits (numbers_in n) t room ≡ rests_on helm_limits (uncut n) t room
  rests_same t room = λ i.
      calm_same i
      && (ltb t (get_or n 11 0) || word_eqb (get_or n 0 0) 0 (omega arith) i || word_eqb (get_or n 0 0) 7 (omega arith) i)
      && leb t 18446744073709541615
      && leb 32 room

  pub calm_phase : is_calm helm_limits (numbers_in n) ≡ true → (numbers_in n).phase ≡ get_or n 0 0
  calm_phase e = phase_same (calm_sound helm_limits (numbers_in n) helm_fits e)

  -- A CALL over the numbers in memory leaves what it leaves of the session that the lent numbers tell
  module _ (a : Arrays) where
    numbers_call : (go : Sync → Begun)
        → ((x : Numbers) → is_well_formed helm_limits x ≡ false → ◌≡◌ {A = Begun} (record { number = 16; sync = sync_of (as_lent x) a }) (begun_by go (stored_in x a)))
        → (r : Result Numbers Refusal)
        → told_numbers r (stored_in (numbers_in n) a) ≡ begun_by go (stored_in (numbers_in n) a)
        → lent_numbers n r a ≡ begun_by go (stored_in (uncut n) a)
    numbers_call go refused r h = by_form (is_well_formed helm_limits (numbers_in n)) refl r h
      where
        kept : (e : is_well_formed helm_limits (numbers_in n) ≡ true) → begun_by go (stored_in (numbers_in n) a) ≡ begun_by go (stored_in (uncut n) a)
        kept e = λ i. pick (ltb 7 (phase_same e i)) (record { number = 16; sync = sync_of (numbers_same e i) a }) (go (sync_of (numbers_same e i) a))

        by_form : (b : Bool) → is_well_formed helm_limits (numbers_in n) ≡ b
            → (r : Result Numbers Refusal)
            → told_numbers r (stored_in (numbers_in n) a) ≡ begun_by go (stored_in (numbers_in n) a)
            → lent_numbers n r a ≡ begun_by go (stored_in (uncut n) a)
        by_form true e (Ok x) h = h ∙ kept e
        by_form true e (Err k) h =
            ap {B = Begun} (λ (y : lent.Numbers). record { number = refusal_number k; sync = sync_of y a }) (sym (numbers_same e)) ∙ h ∙ kept e
        by_form false e (Ok x) h =
            let z : ◌≡◌ {A = ℕ} 0 16 = ap (λ (b : Begun). b.number) (h ∙ sym (refused (numbers_in n) e)) in absurd (omega arith)
        by_form false e (Err k) h =
            ap {B = Begun} (λ (m : ℕ). record { number = m; sync = sync_of (as_lent (uncut n)) a }) (ap (λ (b : Begun). b.number) (h ∙ sym (refused (numbers_in n) e)))
            ∙ refused (uncut n) (sym formed_same ∙ e)

    ticked_call : (go : Sync → Told) (old new : List ℕ)
        → ((x : Numbers) → is_well_formed helm_limits x ≡ false → ◌≡◌ {A = Told} (record { number = 16; count = 0; sync = sync_of (as_lent x) a; out = old }) (told_by go old (stored_in x a)))
        → (r : Result Ticked Refusal)
        → told_ticked r (stored_in (numbers_in n) a) new ≡ told_by go old (stored_in (numbers_in n) a)
        → lent_ticked n r a new ≡ told_by go old (stored_in (uncut n) a)
    ticked_call go old new refused r h = by_form (is_well_formed helm_limits (numbers_in n)) refl r h
      where
        kept : (e : is_well_formed helm_limits (numbers_in n) ≡ true) → told_by go old (stored_in (numbers_in n) a) ≡ told_by go old (stored_in (uncut n) a)
        kept e = λ i. pick (ltb 7 (phase_same e i)) (record { number = 16; count = 0; sync = sync_of (numbers_same e i) a; out = old }) (go (sync_of (numbers_same e i) a))

        by_form : (b : Bool) → is_well_formed helm_limits (numbers_in n) ≡ b
            → (r : Result Ticked Refusal)
            → told_ticked r (stored_in (numbers_in n) a) new ≡ told_by go old (stored_in (numbers_in n) a)
            → lent_ticked n r a new ≡ told_by go old (stored_in (uncut n) a)
        by_form true e (Ok x) h = h ∙ kept e
        by_form true e (Err k) h =
            ap {B = Told} (λ (y : lent.Numbers). record { number = refusal_number k; count = 0; sync = sync_of y a; out = new }) (sym (numbers_same e)) ∙ h ∙ kept e
        by_form false e (Ok x) h =
            let z : ◌≡◌ {A = ℕ} 0 16 = ap (λ (b : Told). b.number) (h ∙ sym (refused (numbers_in n) e)) in absurd (omega arith)
        by_form false e (Err k) h =
            let q = h ∙ sym (refused (numbers_in n) e) in
            (λ i. record { number = (q i).number; count = 0; sync = sync_of (as_lent (uncut n)) a; out = (q i).out })
            ∙ refused (uncut n) (sym formed_same ∙ e)

    module _ (z : Fits a) where
      sizes : (x : Numbers) → HasSizes helm_limits (stored_in x a)
      sizes x =
          record {
            wanted = z.wanted_64;
            owed = z.owed_64;
            fresh = z.fresh_64;
            list = z.list_1024;
            known = z.known_1344;
            saved = z.saved_256;
            present = z.present_256;
            refused = z.refused_256;
          }

      holds : Holds helm_limits (numbers_in n) (stored_in (numbers_in n) a)
      holds = record { fit = helm_fits; sizes = sizes (numbers_in n); numbers = refl }

      pub restart_lent : (r : Result Numbers Refusal) → ((s : Stored) → Holds helm_limits (numbers_in n) s → told_numbers r s ≡ restarted helm_limits s)
          → lent_numbers n r a ≡ begun_by sync.restarted (stored_in (uncut n) a)
      restart_lent r h =
          numbers_call sync.restarted (λ x e. restart_unformed helm_limits (stored_in x a) helm_fits (sizes x) e) r
          (h (stored_in (numbers_in n) a) holds)

      pub firmware_lent : (v : ℕ) (r : Result Numbers Refusal) → ((s : Stored) → Holds helm_limits (numbers_in n) s → told_numbers r s ≡ set_to helm_limits s v)
          → lent_numbers n r a ≡ begun_by (λ s. sync.set_to s v) (stored_in (uncut n) a)
      firmware_lent v r h =
          numbers_call (λ s. sync.set_to s v) (λ x e. firmware_unformed helm_limits (stored_in x a) helm_fits (sizes x) v e) r
          (h (stored_in (numbers_in n) a) holds)

      pub abandon_lent : (r : Result Numbers Refusal) → ((s : Stored) → Holds helm_limits (numbers_in n) s → told_numbers r s ≡ abandoned helm_limits s)
          → lent_numbers n r a ≡ begun_by sync.abandoned (stored_in (uncut n) a)
      abandon_lent r h =
          numbers_call sync.abandoned (λ x e. abandon_unformed helm_limits (stored_in x a) helm_fits (sizes x) e) r
          (h (stored_in (numbers_in n) a) holds)

      pub tick_lent : (t : ℕ) (old new : List ℕ) (r : Result Ticked Refusal)
          → ((s : Stored) → Holds helm_limits (numbers_in n) s → told_ticked r s new ≡ called helm_limits s (tick t (length old)) old)
          → lent_ticked n r a new ≡ told_by (λ s. sync.called s (tick t (length old)) old) old (stored_in (uncut n) a)
      tick_lent t old new r h =
          ticked_call (λ s. sync.called s (tick t (length old)) old) old new
          (λ x e. tick_unformed helm_limits (stored_in x a) helm_fits (sizes x) old t (length old) e) r
          (h (stored_in (numbers_in n) a) holds)

      -- a message of the lent machine, which a refusal leaves as it was
      pub message_lent : (t : ℕ) (m old new : List ℕ) (r : Result ℕ Refusal) (x : Numbers) (b : Arrays)
          → told r (stored_in x b) new ≡ called helm_limits (stored_in (numbers_in n) a) (message t m (length old)) old
          → ((e : Refusal) → r ≡ Err e → (x ≡ numbers_in n) × (b ≡ a))
          → lent_heard n r x b new ≡ told_by (λ s. sync.called s (message t m (length old)) old) old (stored_in (uncut n) a)
      message_lent t m old new r x b h k = by_form (is_well_formed helm_limits (numbers_in n)) refl r h k
        where
          go : Sync → Told
          go s = sync.called s (message t m (length old)) old

          refuses : (y : Numbers) → is_well_formed helm_limits y ≡ false → ◌≡◌ {A = Told} (record { number = 16; count = 0; sync = sync_of (as_lent y) a; out = old }) (told_by go old (stored_in y a))
          refuses y e = message_unformed helm_limits (stored_in y a) helm_fits (sizes y) old t m (length old) e

          kept : (e : is_well_formed helm_limits (numbers_in n) ≡ true) → told_by go old (stored_in (numbers_in n) a) ≡ told_by go old (stored_in (uncut n) a)
          kept e = λ i. pick (ltb 7 (phase_same e i)) (record { number = 16; count = 0; sync = sync_of (numbers_same e i) a; out = old }) (go (sync_of (numbers_same e i) a))

          by_form : (f : Bool) → is_well_formed helm_limits (numbers_in n) ≡ f
              → (r : Result ℕ Refusal)
              → told r (stored_in x b) new ≡ told_by go old (stored_in (numbers_in n) a)
              → ((e : Refusal) → r ≡ Err e → (x ≡ numbers_in n) × (b ≡ a))
              → lent_heard n r x b new ≡ told_by go old (stored_in (uncut n) a)
          by_form true e (Ok c) h k = h ∙ kept e
          by_form true e (Err c) h k =
              ap {B = Told} (λ (y : lent.Numbers). record { number = refusal_number c; count = 0; sync = sync_of y b; out = new })
              (sym (numbers_same e) ∙ sym (ap as_lent (k c refl).0))
              ∙ h
              ∙ kept e
          by_form false e (Ok c) h k =
              let q : ◌≡◌ {A = ℕ} 0 16 = ap (λ (b : Told). b.number) (h ∙ sym (refuses (numbers_in n) e)) in absurd (omega arith)
          by_form false e (Err c) h k =
              let q = h ∙ sym (refuses (numbers_in n) e) in
              (λ i. record { number = (q i).number; count = 0; sync = sync_of (as_lent (uncut n)) ((k c refl).1 i); out = (q i).out })
              ∙ refuses (uncut n) (sym formed_same ∙ e)

      -- what is said of a PGN
      pub lacks_lent : (p : ℕ) (r : Result (Option Lack) Refusal)
          → ((s : Stored) → Holds helm_limits (numbers_in n) s → s.known ≡ a.known → told_lacks r ≡ lack_of (state_of helm_limits s) p)
          → lent_lacks r ≡ said_by (λ s. sync.lack_of s p) (stored_in (uncut n) a)
      lacks_lent p r h =
          told_same r
          ∙ ap goes (h (stored_in (numbers_in n) a) holds refl)
          ∙ said (numbers_in n)
          ∙ kept (is_well_formed helm_limits (numbers_in n)) refl
        where
          goes : Said → sync.Said
          goes (says x) = sync.says x
          goes (refuses e) = sync.refused (refusal_number e)

          told_same : (r : Result (Option Lack) Refusal) → lent_lacks r ≡ goes (told_lacks r)
          told_same (Ok x) = refl
          told_same (Err e) = refl

          by_tests : (u v : Bool) (s : Session F2List ℕ)
              → goes (lack_of (pick (u && v) (Some s) None) p) ≡ pick (not u) (sync.refused 16) (pick v (sync.says (lacks s.known p)) (sync.refused 16))
          by_tests true true s = refl
          by_tests true false s = refl
          by_tests false true s = refl
          by_tests false false s = refl

          past : (k : ℕ) (b : Bool) → leb k 7 ≡ b → not b ≡ ltb 7 k
          past k true e = sym (le-ltb 7 k (leb-true k 7 e))
          past k false e = sym (lt-ltb 7 k (leb-false k 7 e))

          said : (x : Numbers) → goes (lack_of (state_of helm_limits (stored_in x a)) p) ≡ said_by (λ s. sync.lack_of s p) (stored_in x a)
          said x =
              by_tests (leb x.phase 7) (sync.sound (sync_of (as_lent x) a)) (abs_flat (sync_of (as_lent x) a))
              ∙ ap (λ (b : Bool). pick b (sync.refused 16) (sync.lack_of (sync_of (as_lent x) a) p)) (past x.phase (leb x.phase 7) refl)

          said_none : (x : Numbers) → is_well_formed helm_limits x ≡ false → sync.refused 16 ≡ said_by (λ s. sync.lack_of s p) (stored_in x a)
          said_none x e =
              ap (λ (o : Option (Session F2List ℕ)). goes (lack_of o p)) (state_none helm_limits (stored_in x a) helm_fits (sizes x) e)
              ∙ said x

          kept : (b : Bool) → is_well_formed helm_limits (numbers_in n) ≡ b
              → said_by (λ s. sync.lack_of s p) (stored_in (numbers_in n) a) ≡ said_by (λ s. sync.lack_of s p) (stored_in (uncut n) a)
          kept true e = λ i. pick (ltb 7 (phase_same e i)) (sync.refused 16) (sync.lack_of (sync_of (numbers_same e i) a) p)
          kept false e = sym (said_none (numbers_in n) e) ∙ said_none (uncut n) (sym formed_same ∙ e)

    -- begin
    abbrev took : List ℕ → Numbers → Bool → Bool → Begun
    took want x b c =
        pick b (record { number = 11; sync = sync_of (as_lent x) a })
        (pick c (record { number = 0; sync = sync_of (lent.opened_with (counts_of x) (length want)) (lent.wanting a want) })
        (record { number = 12; sync = sync_of (as_lent x) a }))

    old_same : old_fits (counts_of (numbers_in n)) ≡ old_fits (counts_of (uncut n))
    old_same = λ i.
        word_leb (get_or n 8 0) 192 (omega arith) i && word_leb (get_or n 9 0) 192 (omega arith) i && word_leb (get_or n 10 0) 192 (omega arith) i

    opened_same : (k : ℕ) → old_fits (counts_of (uncut n)) ≡ true → lent.opened_with (counts_of (numbers_in n)) k ≡ lent.opened_with (counts_of (uncut n)) k
    opened_same k e =
        let s : get_or n 8 0 ≤ 192 = grind (arith, nat_tests) in
        let p : get_or n 9 0 ≤ 192 = grind (arith, nat_tests) in
        let q : get_or n 10 0 ≤ 192 = grind (arith, nat_tests) in
        λ i.
        lent.opened_with
        (record (counts_of (uncut n)) {
          saved = word_whole (get_or n 8 0) 192 (omega arith) s i;
          present = word_whole (get_or n 9 0) 192 (omega arith) p i;
          refused = word_whole (get_or n 10 0) 192 (omega arith) q i;
        }) k

    begin_by : (want : List ℕ) (b c : Bool) (r : Result Numbers Refusal)
        → (c ≡ true → old_fits (counts_of (uncut n)) ≡ true)
        → told_opened r (stored_in (numbers_in n) a) want ≡ took want (numbers_in n) b c
        → lent_opened n r want a ≡ took want (uncut n) b c
    begin_by want true c (Ok x) q h = let z : ◌≡◌ {A = ℕ} 0 11 = ap (λ (b : Begun). b.number) h in absurd (omega arith)
    begin_by want true c (Err e) q h =
        ap {B = Begun} (λ (m : ℕ). record { number = m; sync = sync_of (as_lent (uncut n)) a }) (ap (λ (b : Begun). b.number) h)
    begin_by want false true (Ok x) q h =
        h ∙ ap {B = Begun} (λ (y : lent.Numbers). record { number = 0; sync = sync_of y (lent.wanting a want) }) (opened_same (length want) (q refl))
    begin_by want false true (Err e) q h = absurd (not_zero e (ap (λ (b : Begun). b.number) h))
    begin_by want false false (Ok x) q h = let z : ◌≡◌ {A = ℕ} 0 12 = ap (λ (b : Begun). b.number) h in absurd (omega arith)
    begin_by want false false (Err e) q h =
        ap {B = Begun} (λ (m : ℕ). record { number = m; sync = sync_of (as_lent (uncut n)) a }) (ap (λ (b : Begun). b.number) h)

    pub begin_lent : (want : List ℕ) (r : Result Numbers Refusal)
        → ((s : Stored) (pgns : List ℕ) → FitLimits helm_limits → s.numbers ≡ numbers_in n → length pgns ≡ length want → told_opened r s pgns ≡ begun_with helm_limits s pgns)
        → lent_opened n r want a ≡ begun_in (as_lent (uncut n)) want a
    unfolding begun_in
    begin_lent want r h =
        begin_by want (ltb 64 (length want)) (old_fits (counts_of (numbers_in n))) r (λ e. sym old_same ∙ e)
        (h (stored_in (numbers_in n) a) want helm_fits refl refl)
        ∙ ap (took want (uncut n) (ltb 64 (length want))) old_same
