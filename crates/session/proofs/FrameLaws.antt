-- What a message neither looks at nor changes: the parts of Format 2 in every phase but the reading of Format 2, and while it is read what
-- stands in the arrays of fresh, list and saved. So a call over any such parts and arrays tells the call over those that the caller has.
-- Assumes nothing.
use Rattle.std.specs.Prelude.{ℕ, ◌≡◌, refl, Bool, true, false, not, ◌&&◌, List, [], ◌∷◌, ◌++◌, ltb, eqb, length, take, map}
use Rattle.std.proofs.Common.{arith, subst, sym, ap, ◌∙◌}
use Rattle.std.proofs.Math.Option.{Option, none, some}
use Rattle.field.specs.Pick.{pick}
use Rattle.lists.specs.declared.F2List.{F2List}
use Rattle.lists.specs.Format2.{no_parts, pgns_of}
use Rattle.tx_list.specs.Views.{has, only, is_mode, F1, adds, ends, neither, f1_of, F2, wrong, part, neither as neither_f2, f2_of, is_answer, answer_of, Ack, good, bad, nothing, ack_of}
use Rattle.tx_list.specs.Reading.{Verdict, taken, refuse, unless, vet_message, message}
use Rattle.tx_list.specs.Session.{owed}
use Rattle.tx_list.specs.Memory.{Sized, live}
use Rattle.tx_list.specs.Moves.{Moved, stays, waits_from, knows, owing, asks, gets, asks_next, commits, closes, goes_on, marks, answered, committed, activated, in_f1, in_whole, in_f2, heard, full_in, sound_in, judge_message, with_parts}
use Rattle.tx_list.specs.declared.State.{State}
use Rattle.tx_list.specs.declared.State.TheVariants.{AwaitStartup, ReadAt, ReadingF2, Reading as ReadingF1, Enabling, Committing, Activating, Done}
use Rattle.tx_list.proofs.LiveLists.{false_true}
use Rattle.session.specs.Sync.{Sync, kind, put, Told, called}
use Rattle.session.specs.Lent.{Numbers, Arrays, Fits, lent, counted, sync_of, retotal, parts_of, reads_f2, Hand, hand, handed, hand_by, hand_after}
use Rattle.session.specs.LentLaws.{sized, sound_flat}
use Rattle.session.proofs.CallLaws.{by_verdict, message_by}
use Rattle.session.proofs.HeardLaws.{never_full, hears_part_law}

-- The parts of Format 2, in every phase but its reading

-- a step that leaves these parts
abbrev pub moved_with : Moved F2List ℕ → F2List → Moved F2List ℕ
moved_with x f = record { flat = with_parts x.flat f; sent = x.sent; handed = x.handed }

-- what a call told, with these parts
abbrev pub told_with : Told → F2List → Told
told_with r f = record { number = r.number; count = r.count; sync = with_parts r.sync f; out = r.out }

module _ (f : F2List) where
  chosen_with : (b : Bool) (x y : Moved F2List ℕ) → pick b (moved_with x f) (moved_with y f) ≡ moved_with (pick b x y) f
  chosen_with true x y = refl
  chosen_with false x y = refl

  asks_with : (s : Sync) (xs : List ℕ) (t : ℕ) → asks kind (with_parts s f) xs t ≡ moved_with (asks kind s xs t) f
  unfolding asks
  asks_with s [] t = refl
  asks_with s (p ∷ ps) t = refl

  goes_on_with : (s : Sync) (t : ℕ) → goes_on kind (with_parts s f) t ≡ moved_with (goes_on kind s t) f
  unfolding goes_on
  goes_on_with s t =
      ap (pick (ltb 1 s.owed.n) (asks_next kind (with_parts s f) t)) (chosen_with (eqb s.fresh.n 0) (closes kind s t) (commits kind s t))
      ∙ chosen_with (ltb 1 s.owed.n) (asks_next kind s t) (pick (eqb s.fresh.n 0) (closes kind s t) (commits kind s t))

  answered_with : (s : Sync) (t : ℕ) (m : List ℕ) → answered kind (with_parts s f) t m ≡ moved_with (answered kind s t m) f
  unfolding answered
  answered_with s t m = goes_on_with (marks kind s m (answer_of m)) t

  in_f1_with : (v : F1) (s : Sync) (t : ℕ) → in_f1 kind v (with_parts s f) t ≡ moved_with (in_f1 kind v s t) f
  unfolding in_f1
  in_f1_with (adds xs) s t = refl
  in_f1_with ends s t = asks_with (knows kind s (live s.list) false) (owing kind s (live s.list)) t
  in_f1_with neither s t = refl

  committed_with : (v : Ack) (s : Sync) (t : ℕ) → committed kind v (with_parts s f) t ≡ moved_with (committed kind v s t) f
  unfolding committed
  committed_with good s t = refl
  committed_with bad s t = refl
  committed_with nothing s t = refl

  activated_with : (v : Ack) (s : Sync) (t : ℕ) → activated kind v (with_parts s f) t ≡ moved_with (activated kind v s t) f
  unfolding activated
  activated_with good s t = refl
  activated_with bad s t = refl
  activated_with nothing s t = refl

  -- a message neither looks at the parts nor changes them
  pub heard_with : (st : State) (s : Sync) (t : ℕ) (m : List ℕ) → reads_f2 st ≡ false → heard kind st (with_parts s f) t m ≡ moved_with (heard kind st s t m) f
  unfolding heard
  heard_with AwaitStartup s t m e = chosen_with (is_mode m) (waits_from kind s t) (stays s)
  heard_with ReadAt s t m e = refl
  heard_with (ReadingF2 a) s t m e = false_true (sym e)
  heard_with (ReadingF1 a) s t m e = in_f1_with (f1_of m) s t
  heard_with Enabling s t m e =
      ap (λ (x : Moved F2List ℕ). pick (is_answer m) x (stays (with_parts s f))) (answered_with s t m)
      ∙ chosen_with (is_answer m) (answered kind s t m) (stays s)
  heard_with Committing s t m e = committed_with (ack_of kind.strict 0x01 m) s t
  heard_with Activating s t m e = activated_with (ack_of kind.strict 0x4B m) s t
  heard_with Done s t m e = refl

  verdict_with : (v : Verdict) (s : Sync) (x : Moved F2List ℕ) (out : List ℕ) → by_verdict v (with_parts s f) (moved_with x f) out ≡ told_with (by_verdict v s x out) f
  verdict_with taken s x out = refl
  verdict_with (refuse n) s x out = refl

-- 14, by the count of the list read so far
full_with : (st : State) (s : Sync) (f : F2List) (m : List ℕ) → full_in kind st (with_parts s f) m ≡ full_in kind st s m
full_with AwaitStartup s f m = refl
full_with ReadAt s f m = refl
full_with (ReadingF2 a) s f m = refl
full_with (ReadingF1 a) s f m = refl
full_with Enabling s f m = refl
full_with Committing s f m = refl
full_with Activating s f m = refl
full_with Done s f m = refl

-- numbers that say so of whether any part is in hand
abbrev pub with_blank : Numbers → Bool → Numbers
with_blank x b =
    let t = x.totals in
    record { state = x.state; totals = retotal t t.counts t.deadline t.read t.complete b }

-- arrays, but other parts of Format 2
abbrev pub parted : Arrays → F2List → Arrays
parted b f = lent b.wanted b.owed b.fresh b.list b.known b.saved b.present b.refused f

-- in lent memory, whose arrays are b
module _ (x : Numbers) (b : Arrays) where
  abbrev at : F2List → Sync
  at f = sync_of x (parted b f)

  -- the lengths do not speak of the parts
  pub fits_any : (f g : F2List) → Fits (parted b f) → Fits (parted b g)
  fits_any f g z =
      record {
        wanted_64 = z.wanted_64;
        owed_64 = z.owed_64;
        fresh_64 = z.fresh_64;
        list_1024 = z.list_1024;
        known_1344 = z.known_1344;
        saved_256 = z.saved_256;
        present_256 = z.present_256;
        refused_256 = z.refused_256;
      }

  judged_with : (f g : F2List) (t : ℕ) (m : List ℕ) (room : ℕ) → judge_message kind (at f) t m room ≡ judge_message kind (at g) t m room
  judged_with f g t m room =
      (λ i. unless (not ((sym (sound_flat x (parted b f)) ∙ sound_flat x (parted b g)) i)) 16
      (vet_message t m room (full_with x.state (at g) (parts_of x.totals f) m i)))

  -- THE CALL OVER OTHER PARTS: it tells the same, and leaves the parts as they were
  pub called_with : (f g : F2List) (t : ℕ) (m : List ℕ) (room : ℕ) (out : List ℕ) → Fits (parted b f) → reads_f2 x.state ≡ false
      → called (at f) (message t m room) out ≡ told_with (called (at g) (message t m room) out) (parts_of x.totals f)
  called_with f g t m room out z e =
      let j = judge_message kind (at g) t m room in
      sym (message_by (at f) t m room out j (sized x (parted b f) z) (judged_with f g t m room))
      ∙ ap (λ (v : Moved F2List ℕ). by_verdict j (at f) v out) (heard_with (parts_of x.totals f) x.state (at g) t m e)
      ∙ verdict_with (parts_of x.totals f) j (at g) (heard kind x.state (at g) t m) out
      ∙ ap (λ (r : Told). told_with r (parts_of x.totals f)) (message_by (at g) t m room out j (sized x (parted b g) (fits_any f g z)) refl)

  -- so what it told over these parts, and left the numbers z and the arrays d, it tells over all, where the numbers say as before whether
  -- any part is in hand
  pub told_anyway : (z : Numbers) (d : Arrays) (t : ℕ) (m : List ℕ) (room : ℕ) (out out' : List ℕ) {n c : ℕ}
      → reads_f2 x.state ≡ false
      → ◌≡◌ {A = Told} (record { number = n; count = c; sync = sync_of z d; out = out' }) (called (sync_of x b) (message t m room) out)
      → (f : F2List) → Fits (parted b f)
      → ◌≡◌ {A = Told} (record { number = n; count = c; sync = sync_of (with_blank z x.totals.blank) (parted d f); out = out' })
      (called (at f) (message t m room) out)
  told_anyway z d t m room out out' {n} {c} e r f h =
      let kept : x.totals.counts.proprietary ≡ z.totals.counts.proprietary =
      sym (ap (λ (v : Told). v.sync.f2.proprietary.list.n) (r ∙ called_with b.f2 b.f2 t m room out (fits_any f b.f2 h) e)) in
      (λ i. record {
        number = n;
        count = c;
        sync = with_parts (sync_of z d) (counted (sym kept i) (pick x.totals.blank no_parts f));
        out = out';
      })
      ∙ ap (λ (v : Told). told_with v (parts_of x.totals f)) r
      ∙ sym (called_with f b.f2 t m room out h e)

-- The arrays of fresh, list and saved, while Format 2 is read

-- a session with this in those arrays; their counts stay
abbrev pub over : Sync → List ℕ → List ℕ → List ℕ → Sync
over s u l v =
    record {
      state = s.state;
      wanted = s.wanted;
      owed = s.owed;
      fresh = record { items = u; n = s.fresh.n };
      list = record { items = l; n = s.list.n };
      f2 = s.f2;
      is_known = s.is_known;
      complete = s.complete;
      known = s.known;
      saved = record { items = v; n = s.saved.n };
      present = s.present;
      refused = s.refused;
      deadline = s.deadline;
      told = s.told;
      version = s.version;
    }

-- a step that leaves this in them
abbrev pub moved_over : Moved F2List ℕ → List ℕ → List ℕ → List ℕ → Moved F2List ℕ
moved_over x u l v = record { flat = over x.flat u l v; sent = x.sent; handed = x.handed }

-- what a call told, with this in them
abbrev pub told_over : Told → List ℕ → List ℕ → List ℕ → Told
told_over r u l v = record { number = r.number; count = r.count; sync = over r.sync u l v; out = r.out }

-- "absent .. from the old present and refused lists": what is owed does not speak of the saved ones
owed_saved : (w l a b p r : List ℕ)
    → owed (λ (n : ℕ). n) w l (record { saved = a; present = p; refused = r }) ≡ owed (λ (n : ℕ). n) w l (record { saved = b; present = p; refused = r })
unfolding owed
owed_saved [] l a b p r = refl
owed_saved (x ∷ w) l a b p r =
    ap (λ (y : List ℕ). only (not (has x l) && not (has x p) && not (has x (map (λ (n : ℕ). n) r))) x ++ y) (owed_saved w l a b p r)

module _ (u l v : List ℕ) where
  asks_over : (s : Sync) (xs : List ℕ) (t : ℕ) → asks kind (over s u l v) xs t ≡ moved_over (asks kind s xs t) u l v
  unfolding asks
  asks_over s [] t = refl
  asks_over s (p ∷ ps) t = refl

  gets_over : (s : Sync) (xs : List ℕ) (b : Bool) (t : ℕ) → gets kind (over s u l v) xs b t ≡ moved_over (gets kind s xs b t) u l v
  gets_over s xs b t =
      ap (λ (y : List ℕ). asks kind (knows kind (over s u l v) xs b) y t)
      (owed_saved (live s.wanted) xs (take s.saved.n v) (live s.saved) (live s.present) (live s.refused))
      ∙ asks_over (knows kind s xs b) (owing kind s xs) t

  in_whole_over : (y : Option (List ℕ)) (s : Sync) (f : F2List) (t : ℕ) → in_whole kind y (over s u l v) f t ≡ moved_over (in_whole kind y s f t) u l v
  unfolding in_whole
  in_whole_over none s f t = refl
  in_whole_over (some xs) s f t = gets_over s xs true t

  in_f2_over : (y : F2) (s : Sync) (t : ℕ) (m : List ℕ) → in_f2 kind y (over s u l v) t m ≡ moved_over (in_f2 kind y s t m) u l v
  unfolding in_f2
  in_f2_over wrong s t m = refl
  in_f2_over part s t m = in_whole_over (pgns_of (put m s.f2)) s (put m s.f2) t
  in_f2_over neither_f2 s t m = refl

  -- a message neither looks at what stands there nor changes it
  pub heard_over : (st : State) (s : Sync) (t : ℕ) (m : List ℕ) → reads_f2 st ≡ true → heard kind st (over s u l v) t m ≡ moved_over (heard kind st s t m) u l v
  heard_over st s t m e =
      sym (hears_part_law st (over s u l v) t m e)
      ∙ in_f2_over (f2_of m) s t m
      ∙ ap (λ (x : Moved F2List ℕ). moved_over x u l v) (hears_part_law st s t m e)

  verdict_over : (y : Verdict) (s : Sync) (x : Moved F2List ℕ) (out : List ℕ) → by_verdict y (over s u l v) (moved_over x u l v) out ≡ told_over (by_verdict y s x out) u l v
  verdict_over taken s x out = refl
  verdict_over (refuse n) s x out = refl

-- arrays, but others of fresh, list and saved, and other parts
abbrev pub beside : Arrays → List ℕ → List ℕ → List ℕ → F2List → Arrays
beside b fresh list saved f = lent b.wanted b.owed fresh list b.known saved b.present b.refused f

-- in lent memory, whose arrays are b
module _ (x : Numbers) (b : Arrays) (u l v : List ℕ) where
  abbrev others : Arrays
  others = beside b u l v b.f2

  judged_over : (t : ℕ) (m : List ℕ) (room : ℕ) → reads_f2 x.state ≡ true → judge_message kind (sync_of x others) t m room ≡ judge_message kind (sync_of x b) t m room
  judged_over t m room e =
      (λ i. unless (not ((sym (sound_flat x others) ∙ sound_flat x b) i)) 16
      (vet_message t m room ((never_full x.state (sync_of x others) m e ∙ sym (never_full x.state (sync_of x b) m e)) i)))

  -- THE CALL OVER OTHER ARRAYS: it tells the same, and leaves these as they were
  pub called_over : (t : ℕ) (m : List ℕ) (room : ℕ) (out : List ℕ) → Fits others → Fits b → reads_f2 x.state ≡ true
      → called (sync_of x others) (message t m room) out ≡ told_over (called (sync_of x b) (message t m room) out) u l v
  called_over t m room out z y e =
      let s = sync_of x b in
      let j = judge_message kind s t m room in
      sym (message_by (sync_of x others) t m room out j (sized x others z) (judged_over t m room e))
      ∙ ap (λ (a : Moved F2List ℕ). by_verdict j (sync_of x others) a out) (heard_over u l v x.state s t m e)
      ∙ verdict_over u l v j s (heard kind x.state s t m) out
      ∙ ap (λ (r : Told). told_over r u l v) (message_by s t m room out j (sized x b y) refl)

  -- so what it told over these arrays, and left the numbers z and the arrays d, it tells over all
  pub told_beside : (z : Numbers) (d : Arrays) (t : ℕ) (m : List ℕ) (room : ℕ) (out out' : List ℕ) {n c : ℕ}
      → reads_f2 x.state ≡ true
      → Fits b
      → ◌≡◌ {A = Told} (record { number = n; count = c; sync = sync_of z d; out = out' }) (called (sync_of x b) (message t m room) out)
      → Fits others
      → ◌≡◌ {A = Told} (record { number = n; count = c; sync = sync_of z (beside d u l v d.f2); out = out' }) (called (sync_of x others) (message t m room) out)
  told_beside z d t m room out out' {n} {c} e h r g =
      ap (λ (a : Told). told_over a u l v) r ∙ sym (called_over t m room out g h e)

-- What such a message leaves of the parts

-- a part was put in and the list is still read, so that it is not whole yet: it is kept for the next one
abbrev pub keeps : F2 → State → Bool
keeps wrong st = false
keeps part st = reads_f2 st
keeps neither_f2 st = false

-- the numbers of refusals are not 0
abbrev Real : Verdict → Type 0
Real taken = Unit {0}
Real (refuse n) = n ≡ 0 → ⊥

unless_real : (b : Bool) (n : ℕ) (v : Verdict) → (n ≡ 0 → ⊥) → Real v → Real (unless b n v)
unfolding unless
unless_real true n v e h = e
unless_real false n v e h = h

judged_real : (s : Sync) (t : ℕ) (m : List ℕ) (room : ℕ) → Real (judge_message kind s t m room)
unfolding vet_message
judged_real s t m room =
    unless_real (not (sound_in kind s)) 16 _ (λ e. omega (arith, e))
    (unless_real (ltb 18446744073709541615 t) 13 _ (λ e. omega (arith, e))
    (unless_real (ltb 255 (length m)) 6 _ (λ e. omega (arith, e))
    (unless_real (ltb room 32) 7 _ (λ e. omega (arith, e)) (unless_real (full_in kind s.state s m) 14 taken (λ e. omega (arith, e)) tt))))

-- what such a message leaves in hand, by the session that it leaves, where the parts were g, and p with it
record Left (y : F2) (g p : F2List) (h : Hand) (S : Sync) : Type 0 where
  hands : hand_after y p h ≡ pick (keeps y S.state) (record { parts = S.f2; blank = false }) h
  parts : S.f2 ≡ pick (keeps y S.state) S.f2 g

asks_left : (p : F2List) (h : Hand) (s : Sync) (xs : List ℕ) (t : ℕ) → hand_after part p h ≡ h → Left part s.f2 p h (asks kind s xs t).flat
unfolding asks
asks_left p h s [] t e = record { hands = e; parts = refl }
asks_left p h s (x ∷ xs) t e = record { hands = e; parts = refl }

in_whole_left : (y : Option (List ℕ)) (p : F2List) (h : Hand) (s : Sync) (t : ℕ) → reads_f2 s.state ≡ true → pgns_of p ≡ y → Left part s.f2 p h (in_whole kind y s p t).flat
unfolding in_whole hand_after
in_whole_left none p h s t e g =
    let kept : Hand = record { parts = p; blank = false } in
    record {
      hands = ap (λ (y : Option (List ℕ)). hand_by y p h) g ∙ ap (λ (b : Bool). pick {A = Hand} b kept h) (sym e);
      parts = ap (λ (b : Bool). pick {A = F2List} b p s.f2) (sym e);
    }
in_whole_left (some l) p h s t e g =
    asks_left p h (knows kind s l true) (owing kind s l) t (ap (λ (y : Option (List ℕ)). hand_by y p h) g)

in_f2_left : (y : F2) (h : Hand) (s : Sync) (t : ℕ) (m : List ℕ) → reads_f2 s.state ≡ true → Left y s.f2 (put m s.f2) h (in_f2 kind y s t m).flat
unfolding in_f2 hand_after
in_f2_left wrong h s t m e = record { hands = refl; parts = refl }
in_f2_left part h s t m e = in_whole_left (pgns_of (put m s.f2)) (put m s.f2) h s t e refl
in_f2_left neither_f2 h s t m e = record { hands = refl; parts = refl }

heard_left : (h : Hand) (s : Sync) (t : ℕ) (m : List ℕ) → reads_f2 s.state ≡ true → Left (f2_of m) s.f2 (put m s.f2) h (heard kind s.state s t m).flat
heard_left h s t m e =
    subst (λ (x : Moved F2List ℕ). Left (f2_of m) s.f2 (put m s.f2) h x.flat) (hears_part_law s.state s t m e) (in_f2_left (f2_of m) h s t m e)

-- what a call that is taken left in hand
record Hands (y : F2) (p : F2List) (h : Hand) (s : Sync) (r : Told) : Type 0 where
  given : r.number ≡ 0 → Left y s.f2 p h r.sync

verdict_left : (v : Verdict) (y : F2) (p : F2List) (h : Hand) (s : Sync) (x : Moved F2List ℕ) (out : List ℕ) → Real v → Left y s.f2 p h x.flat → Hands y p h s (by_verdict v s x out)
verdict_left taken y p h s x out a e = record { given = λ z. e }
verdict_left (refuse n) y p h s x out a e = record { given = λ z. absurd (a z) }

called_left : (s : Sync) (h : Hand) (t : ℕ) (m : List ℕ) (room : ℕ) (out : List ℕ) → Sized kind s → reads_f2 s.state ≡ true
    → Hands (f2_of m) (put m s.f2) h s (called s (message t m room) out)
called_left s h t m room out z e =
    subst (Hands (f2_of m) (put m s.f2) h s) (message_by s t m room out (judge_message kind s t m room) z refl)
    (verdict_left (judge_message kind s t m room) (f2_of m) (put m s.f2) h s (heard kind s.state s t m) out (judged_real s t m room) (heard_left h s t m e))

-- in lent memory, whose arrays are b: what `part` hands back, where the call left the numbers z and the arrays d
module _ (x z : Numbers) (b d : Arrays) (t : ℕ) (m : List ℕ) (room : ℕ) (out out' : List ℕ) (c : ℕ)
    (e : reads_f2 x.state ≡ true) (fits : Fits b)
    (r : ◌≡◌ {A = Told} (record { number = 0; count = c; sync = sync_of z d; out = out' }) (called (sync_of x b) (message t m room) out)) where
  left : Left (f2_of m) (parts_of x.totals b.f2) (put m (parts_of x.totals b.f2)) (hand x b.f2) (sync_of z d)
  left =
      (subst (Hands (f2_of m) (put m (parts_of x.totals b.f2)) (hand x b.f2) (sync_of x b)) (sym r)
      (called_left (sync_of x b) (hand x b.f2) t m room out (sized x b fits) e)).given
      refl

  -- where it kept a part, the parts that the session holds
  pub hands_kept : keeps (f2_of m) z.state ≡ true → hand (with_blank z false) (parts_of z.totals d.f2) ≡ handed x b.f2 m
  hands_kept y = ap (λ (k : Bool). pick {A = Hand} k (record { parts = parts_of z.totals d.f2; blank = false }) (hand x b.f2)) (sym y) ∙ sym left.hands

  -- after any other message, the parts that came, which the session holds
  module _ (y : keeps (f2_of m) z.state ≡ false) where
    pub hands_back : hand (with_blank z x.totals.blank) b.f2 ≡ handed x b.f2 m
    hands_back = ap (λ (k : Bool). pick {A = Hand} k (record { parts = parts_of z.totals d.f2; blank = false }) (hand x b.f2)) (sym y) ∙ sym left.hands

    pub held_back : sync_of (with_blank z x.totals.blank) (parted d b.f2) ≡ sync_of z d
    held_back =
        let same : parts_of z.totals d.f2 ≡ parts_of x.totals b.f2 =
        left.parts ∙ ap (λ (k : Bool). pick k (parts_of z.totals d.f2) (parts_of x.totals b.f2)) y in
        ap (λ (g : F2List). with_parts (sync_of z d) (counted g.proprietary.list.n (pick x.totals.blank no_parts b.f2))) same
        ∙ ap (with_parts (sync_of z d)) (sym same)
