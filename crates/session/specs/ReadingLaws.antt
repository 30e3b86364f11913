-- Laws of the reading of a list (document 01, module 6): the known list and what is owed once it is read, a message in Format 1, a part
-- in Format 2. Assumes nothing.
use Rattle.std.specs.Prelude as rust
use Rattle.std.specs.Prelude.{ℕ, ◌+◌, ◌-◌, ◌≤◌, ◌<◌, ◌≡◌, refl, Bool, false, drop, get_or}
use Rattle.std.proofs.Common.{arith, ◌∙◌, length-take, length-append}
use Rattle.std.proofs.Math.Path.{sym, ap}
use Rattle.std.proofs.Math.Bool.{true}
use mathlib.Core.List.{List, [], ◌∷◌, ◌++◌}
use Rattle.std.proofs.Math.Option.{Option}
use borrow.Author.Tests.{le-leb, lt-ltb, le-ltb, ltb-true, ltb-false}
use Rattle.std.proofs.Math.Dec.{ltb}
use Rattle.std.proofs.Math.ListN.{length, take}
use Rattle.std.proofs.Math.Seq.{sets, take-append_seam}
use Rattle.std.proofs.lemmas.List.{take-append-le}
use Rattle.field.specs.Pick.{pick}
use Rattle.field.specs.WrittenLaws.{sets_written}
use Rattle.replies.specs.Bem.{data_part}
use Rattle.pgns.specs.Lists.{told, noted, owed_from, owed_in}
use Rattle.tx_list.proofs.Lists.{owed_length}
use Rattle.pgns.specs.PgnsLaws.{owed_saved, fresh, fresh_length, notes_front, notes_after_fill}
use Rattle.views.specs.declared.F1Kind.{F1Kind}
use Rattle.views.specs.declared.F1Kind.TheVariants.{Adds}
use Rattle.views.specs.declared.F2Kind.{F2Kind}
use Rattle.views.specs.Told.{told_f1, told_f2}
use Rattle.views.specs.ViewsLaws.{list_pgns_length}
use Rattle.lists.specs.declared.F2List.{F2List}
use Rattle.lists.specs.declared.error.ListError.{ListError}
use Rattle.lists.specs.Format2 as lists
use Rattle.lists.specs.Format2.{add_supported, add_enabled, pgns_of, formed, told_read, listed}
use Rattle.lists.specs.Format2Laws.{formed_supported, formed_enabled, told_whole, told_partial, told_refused}
use Rattle.lists.proofs.Format2Proofs.{pgns_767, listed_told}
use Rattle.tx_list.specs.Views.{notes, starts, group_count, pgns_at, list_pgns, is_mode, F1, f1_of, added, F2, f2_of}
use Rattle.tx_list.specs.Reading.{enable}
use Rattle.tx_list.specs.Memory.{Buf, live, fill, Flat}
use Rattle.tx_list.specs.Moves.{stays, go_to, with_list, with_owed, with_known, emptied, waits_from, adds_to, owing, knows, asks, gets, puts, in_f1, in_f2, in_whole, heard}
use Rattle.tx_list.specs.declared.State.TheVariants.{AwaitStartup, Enabling, Done}
use Rattle.session.specs.Sync.{Sync, kind, Known, put, over_list, Stepped, step_of}
use Rattle.session.specs.Lent.{Hand, hand_by, hand_after}

-- What is owed

pub asks_none :
    (h : Flat F2List ℕ) (o : List ℕ) (t : ℕ) → length o ≡ 0 → asks kind h o t ≡ record { flat = go_to h Done (t + 10000); sent = []; handed = [] }
unfolding asks
asks_none h [] t e = refl
asks_none h (p ∷ ps) t e = absurd (omega arith)

pub asks_some :
    (h : Flat F2List ℕ) (o : List ℕ) (t : ℕ)
    → 0 < length o
    → asks kind h o t
    ≡ record {
      flat = go_to (with_owed h (fill h.owed o) (emptied h.fresh)) Enabling (t + 10000);
      sent = enable (get_or o 0 0) ∷ [];
      handed = [];
    }
unfolding asks
asks_some h [] t e = absurd (omega arith)
asks_some h (p ∷ ps) t e = refl

-- the count and the array that were written, where they have room
owed_told : (dst : List ℕ) (w : ℕ) (o : List ℕ) {b : Buf ℕ} → b ≡ owed_in dst w o → w ≤ length dst → b ≡ fill (told 0 dst) o
unfolding owed_in
owed_told dst w o e h = e ∙ ap (λ (t : Bool). pick t (fill (told 0 dst) o) (told 0 dst)) (le-leb w (length dst) h)

pub noted_told :
    (l : List ℕ) (n : ℕ) (ps : List ℕ) (m : ℕ) {b : Buf ℕ}
    → b ≡ noted l n ps m
    → n + m ≤ length l
    → b ≡ fill (told n l) (notes (take n l) (take m ps))
unfolding noted
noted_told l n ps m e h =
    e ∙ ap (λ (t : Bool). pick t (fill (told n l) (notes (take n l) (take m ps))) (told n l)) (le-leb (n + m) (length l) h)

sets_none : (dst o : List ℕ) → length o ≡ 0 → sets dst 0 o ≡ dst
sets_none dst [] e = sets_written [] dst (omega arith)
sets_none dst (x ∷ xs) e = absurd (omega arith)

-- what is written at the front is read there
pub front_read : (o dst : List ℕ) → length o ≤ length dst → take (length o) (sets dst 0 o) ≡ o
front_read o dst h = ap (take (length o)) (sets_written o dst h) ∙ take-append_seam o (drop (length o) dst)

sets_front : (o dst : List ℕ) → 0 < length o → length o ≤ length dst → get_or (sets dst 0 o) 0 0 ≡ get_or o 0 0
sets_front [] dst z h = absurd (omega arith)
sets_front (x ∷ xs) dst z h = ap (λ (l : List ℕ). get_or l 0 0) (sets_written (x ∷ xs) dst h)

-- what the code counts as owed: the saved list is not looked at
abbrev pub owed_by : Sync → List ℕ → List ℕ
owed_by s l =
    owed_from (take s.wanted.n s.wanted.items) l (take s.present.n s.present.items)
    (take s.refused.n s.refused.items)

owed_by_law : (s : Sync) (l : List ℕ) → owing kind s l ≡ owed_by s l
owed_by_law s l =
    owed_saved (λ (p : ℕ). p) (take s.wanted.n s.wanted.items) l
    (record {
      saved = take s.saved.n s.saved.items;
      present = take s.present.n s.present.items;
      refused = take s.refused.n s.refused.items;
    })
    []

owed_by_length : (s : Sync) (l : List ℕ) → length (owed_by s l) ≤ s.wanted.n
owed_by_length s l =
    omega (
      arith,
      owed_length (λ (p : ℕ). p) (take s.wanted.n s.wanted.items) l
          (record {
            saved = [];
            present = take s.present.n s.present.items;
            refused = take s.refused.n s.refused.items;
          }),
      length-take s.wanted.n s.wanted.items,
    )

-- the session with another known list
abbrev pub known' : Sync → Known → Flat F2List ℕ
known' s kn = with_known s kn.read kn.complete kn.list

-- what comes of a list that is read, with this known list
abbrev pub asked : Sync → Known → List ℕ → ℕ → Stepped
asked s kn l t = step_of (asks kind (known' s kn) (owing kind s l) t)

-- b: the PGNs owed, as they were written over the old ones
module _ (s : Sync) (kn : Known) (l : List ℕ) (t : ℕ) (b : Buf ℕ) (e : b ≡ owed_in s.owed.items s.wanted.n (owed_by s l))
    (h : s.wanted.n ≤ length s.owed.items) where
  written_owed : b ≡ fill (told 0 s.owed.items) (owed_by s l)
  written_owed = owed_told s.owed.items s.wanted.n (owed_by s l) e h

  asked_owed : step_of (asks kind (known' s kn) (owed_by s l) t) ≡ asked s kn l t
  asked_owed = ap (λ (o : List ℕ). step_of (asks kind (known' s kn) o t)) (sym (owed_by_law s l))

  pub list_none : b.n ≡ 0 → ◌≡◌ {A = Stepped} (record { sent = []; sync = (go_to (known' s kn) Done (t + 10000)) }) (asked s kn l t)
  list_none z =
      ap step_of (sym (asks_none (known' s kn) (owed_by s l) t (sym (ap (λ (x : Buf ℕ). x.n) written_owed) ∙ z))) ∙ asked_owed

  -- and nothing was written
  pub none_written : b.n ≡ 0 → b.items ≡ s.owed.items
  none_written z =
      ap (λ (x : Buf ℕ). x.items) written_owed
      ∙ sets_none s.owed.items (owed_by s l) (sym (ap (λ (x : Buf ℕ). x.n) written_owed) ∙ z)

  pub list_some : 0 < b.n
      → ◌≡◌ {A = Stepped}
      (record {
        sent = enable (get_or b.items 0 0) ∷ [];
        sync = (go_to (with_owed (known' s kn) b (emptied s.fresh)) Enabling (t + 10000));
      })
      (asked s kn l t)
  list_some z =
      let n : b.n ≡ length (owed_by s l) = ap (λ (x : Buf ℕ). x.n) written_owed in
      let m : length (owed_by s l) ≤ s.wanted.n = owed_by_length s l in
      let more : 0 < length (owed_by s l) = omega arith in
      let first : get_or b.items 0 0 ≡ get_or (owed_by s l) 0 0 =
      ap (λ (x : Buf ℕ). get_or x.items 0 0) written_owed
      ∙ sets_front (owed_by s l) s.owed.items more (omega arith) in
      (λ i. record {
        sent = enable (first i) ∷ [];
        sync = (go_to (with_owed (known' s kn) (written_owed i) (emptied s.fresh)) Enabling (t + 10000));
      })
      ∙ ap step_of (sym (asks_some (known' s kn) (owed_by s l) t more))
      ∙ asked_owed

-- The known list

take_sets : (items l xs : List ℕ) → length l + length xs ≤ length items → take (length l) (sets items 0 (l ++ xs)) ≡ l
take_sets items l xs h =
    ap (take (length l)) (sets_written (l ++ xs) items (omega (arith, length-append l xs)))
    ∙ take-append-le (length l) (l ++ xs) (drop (length (l ++ xs)) items) (omega (arith, length-append l xs))
    ∙ take-append_seam l xs

-- the known list: the first n PGNs of an array, then the present ones that are absent
abbrev pub known_as : List ℕ → ℕ → Buf ℕ → Bool → Known
known_as a n present complete =
    record {
      read = true;
      complete = complete;
      list =
          record {
            items = sets a 0 (notes (take n a) (live present));
            n = length (notes (take n a) (live present));
          };
    }

-- a list l, written from the first place on, is what the session then knows and asks by
module _ (s : Sync) (l : List ℕ) (complete : Bool) (t : ℕ) (room : length l + s.present.n ≤ length s.known.items) where
  abbrev items : List ℕ
  items = s.known.items

  abbrev present : List ℕ
  present = live s.present

  short : length present ≤ s.present.n
  short = omega (arith, length-take s.present.n s.present.items)

  front : take (length l) (sets items 0 l) ≡ l
  front = front_read l items (omega arith)

  abbrev kept : Known
  kept = known_as (sets items 0 l) (length l) s.present complete

  over : sets (sets items 0 l) 0 (notes l present) ≡ sets items 0 (notes l present)
  over = notes_after_fill items l present (omega (arith, short))

  knows_all : known' s kept ≡ knows kind s l complete
  knows_all =
      ap
      (λ (x : List ℕ).
      with_known s true complete (record { items = sets (sets items 0 l) 0 (notes x present); n = length (notes x present) }))
      front
      ∙ ap (λ (x : List ℕ). with_known s true complete (record { items = x; n = length (notes l present) })) over

  read_all : take (length l) kept.list.items ≡ l
  read_all =
      ap (λ (x : List ℕ). take (length l) (sets (sets items 0 l) 0 (notes x present))) front
      ∙ ap (take (length l)) (over ∙ ap (sets items 0) (notes_front l present))
      ∙ take_sets items l (fresh l present) (omega (arith, short, fresh_length l present))

  -- from what the calls ensure
  pub got : (a : List ℕ) (n : ℕ) (kn : Known) {r : Stepped}
      → a ≡ sets items 0 l
      → n ≡ length l
      → kn ≡ known_as a n s.present complete
      → r ≡ asked s kn (take n kn.list.items) t
      → r ≡ step_of (gets kind s l complete t)
  got a n kn p q k e =
      let k' : kn ≡ kept = k ∙ (λ i. known_as (p i) (q i) s.present complete) in
      e
      ∙ (λ i. asked s (k' i) (take (q i) (k' i).list.items) t)
      ∙ (λ i. step_of (asks kind (knows_all i) (owing kind s (read_all i)) t))

-- Format 1

-- a test with a difference, as a test with a sum
ltb_shift : (a b cap : ℕ) → a ≤ cap → ltb (cap - a) b ≡ ltb cap (a + b)
ltb_shift a b cap h = go (ltb (cap - a) b) refl
  where
    go : (t : Bool) → ltb (cap - a) b ≡ t → ltb (cap - a) b ≡ ltb cap (a + b)
    go true e = e ∙ sym (lt-ltb cap (a + b) (omega (arith, ltb-true (cap - a) b e)))
    go false e = e ∙ sym (le-ltb cap (a + b) (omega (arith, ltb-false (cap - a) b e)))

module _ (m : List ℕ) {k : F1Kind} (e : told_f1 k (list_pgns m) ≡ f1_of m) where
  f1_is : (v : F1Kind) → k ≡ v → told_f1 v (list_pgns m) ≡ f1_of m
  f1_is v q = ap (λ (x : F1Kind). told_f1 x (list_pgns m)) (sym q) ∙ e

  -- 14, by the kind of message
  pub over_adds : (n count : ℕ) → k ≡ Adds → n ≤ 1024 → count ≡ group_count m → ltb (1024 - n) count ≡ over_list n m
  unfolding added
  over_adds n count q h c =
      ltb_shift n count 1024 h
      ∙ ap (λ (x : ℕ). ltb 1024 (n + x)) (c ∙ sym (list_pgns_length m))
      ∙ ap (λ (x : F1). ltb 1024 (n + length (added x))) (f1_is Adds q)

  pub over_none : (v : F1Kind) (n : ℕ) → added (told_f1 v (list_pgns m)) ≡ [] → k ≡ v → n ≤ 1024 → false ≡ over_list n m
  over_none v n z q h =
      sym (le-ltb 1024 (n + 0) (omega arith))
      ∙ ap (λ (l : List ℕ). ltb 1024 (n + length l)) (sym z)
      ∙ ap (λ (x : F1). ltb 1024 (n + length (added x))) (f1_is v q)

  pub adds_fit : (n : ℕ) → k ≡ Adds → over_list n m ≡ false → n + length (list_pgns m) ≤ 1024
  unfolding added
  adds_fit n q h =
      ltb-false 1024 (n + length (list_pgns m)) (ap (λ (x : F1). ltb 1024 (n + length (added x))) (f1_is Adds q) ∙ h)

  -- what the message does
  pub in_f1_law : (v : F1Kind) (h : Flat F2List ℕ) (t : ℕ) → k ≡ v → step_of (in_f1 kind (told_f1 v (list_pgns m)) h t) ≡ step_of (in_f1 kind (f1_of m) h t)
  in_f1_law v h t q = ap (λ (x : F1). step_of (in_f1 kind x h t)) (f1_is v q)

-- PGNs more: count of them were written after the others
pub adds_told :
    (s : Sync) (m : List ℕ) (t count : ℕ) (a : List ℕ)
    → count ≡ group_count m
    → a ≡ sets s.list.items s.list.n (pgns_at m 13 count)
    → ◌≡◌ {A = Stepped}
    (record { sent = []; sync = (go_to (with_list s (told (s.list.n + count) a)) s.state (t + 10000)) })
    (step_of (adds_to kind s (list_pgns m) t))
unfolding list_pgns
adds_told s m t count a c e =
    let f : a ≡ sets s.list.items s.list.n (list_pgns m) =
    e ∙ ap (λ (k : ℕ). sets s.list.items s.list.n (pgns_at m 13 k)) c in
    let n : count ≡ length (list_pgns m) = c ∙ sym (list_pgns_length m) in
    λ i. record { sent = []; sync = (go_to (with_list s (told (s.list.n + n i) (f i))) s.state (t + 10000)) }

-- The mode

pub mode_by :
    (s : Sync) (m : List ℕ) (t : ℕ) {b : Bool} (v : Bool)
    → b ≡ is_mode m
    → b ≡ v
    → step_of (pick v (waits_from kind s t) (stays s)) ≡ step_of (heard kind AwaitStartup s t m)
unfolding heard
mode_by s m t v e q = ap (λ (x : Bool). step_of (pick x (waits_from kind s t) (stays s))) (sym q ∙ e)

-- Format 2

pub in_f2_law :
    (m : List ℕ) {k : F2Kind} (v : F2Kind) (h : Flat F2List ℕ) (t : ℕ)
    → told_f2 k ≡ f2_of m
    → k ≡ v
    → step_of (in_f2 kind (told_f2 v) h t m) ≡ step_of (in_f2 kind (f2_of m) h t m)
in_f2_law m v h t e q = ap (λ (x : F2). step_of (in_f2 kind x h t m)) (ap told_f2 (sym q) ∙ e)

-- what stays in hand, by what the message is
pub hand_f2 :
    (m : List ℕ) {k : F2Kind} (v : F2Kind) (p : F2List) (h : Hand)
    → told_f2 k ≡ f2_of m
    → k ≡ v
    → hand_after (told_f2 v) p h ≡ hand_after (f2_of m) p h
hand_f2 m v p h e q = ap (λ (x : F2). hand_after x p h) (ap told_f2 (sym q) ∙ e)

-- a list that was read leaves the parts
asks_parts : (h : Flat F2List ℕ) (o : List ℕ) (t : ℕ) → (asks kind h o t).flat.f2 ≡ h.f2
unfolding asks
asks_parts h [] t = refl
asks_parts h (p ∷ ps) t = refl

pub gets_parts : (h : Flat F2List ℕ) (l : List ℕ) (b : Bool) (t : ℕ) → (step_of (gets kind h l b t)).sync.f2 ≡ h.f2
gets_parts h l b t = asks_parts (knows kind h l b) (owing kind h l) t

-- a part goes by the reply byte
pub put_as :
    (m : List ℕ) (p : F2List) {b : Bool} (v : Bool)
    → b ≡ starts 0x40 m
    → b ≡ v
    → pick v (add_supported (data_part m) p) (add_enabled (data_part m) p) ≡ put m p
unfolding put
put_as m p v e q = ap (λ (x : Bool). pick x (add_supported (data_part m) p) (add_enabled (data_part m) p)) (sym q ∙ e)

put_by : (t : Bool) (d : List ℕ) (p : F2List) → formed p ≡ true → formed (pick t (add_supported d p) (add_enabled d p)) ≡ true
put_by true d p e = formed_supported d p e
put_by false d p e = formed_enabled d p e

pub put_formed : (m : List ℕ) (p : F2List) → formed p ≡ true → formed (put m p) ≡ true
unfolding put
put_formed m p e = put_by (starts 0x40 m) (data_part m) p e

-- p: the parts with another one; a: the array that they were read into
module _ (s : Sync) (p : F2List) (t : ℕ) (a : List ℕ) {f : rust.Result (rust.Option ℕ) ListError} (e : told_read f a ≡ listed p s.known.items)
    (z : length s.known.items ≡ 1344) (g : formed p ≡ true) where
  heard_as : (v : rust.Result (rust.Option ℕ) ListError) → f ≡ v → told_read v a ≡ lists.told (pgns_of p) s.known.items
  heard_as v q =
      ap (λ (x : rust.Result (rust.Option ℕ) ListError). told_read x a) (sym q) ∙ e ∙ listed_told p s.known.items g (omega arith)

  -- a whole list of n PGNs: where it stands, how many there can be, and what it does
  pub part_whole : (n : ℕ) → f ≡ rust.Ok (rust.Some n)
      → (a ≡ sets s.known.items 0 (take n a)) × (n ≤ 767) × (step_of (gets kind s (take n a) true t) ≡ step_of (in_whole kind (pgns_of p) s p t))
  unfolding in_whole
  part_whole n q =
      let w = told_whole (pgns_of p) n a s.known.items (heard_as (rust.Ok (rust.Some n)) q) in
      let b : length w.0 ≤ 767 = pgns_767 p w.0 g w.1 in
      let x : a ≡ sets s.known.items 0 w.0 = w.3 ∙ sym (sets_written w.0 s.known.items (omega arith)) in
      let l : take n a ≡ w.0 = (λ i. take (w.2 i) (x i)) ∙ front_read w.0 s.known.items (omega arith) in (
        x ∙ ap (sets s.known.items 0) (sym l),
        omega (arith, w.2),
        ap (λ (y : List ℕ). step_of (gets kind s y true t)) l ∙ ap (λ (o : Option (List ℕ)). step_of (in_whole kind o s p t)) (sym w.1),
      )

  pub part_partial : f ≡ rust.Ok rust.None → (a ≡ s.known.items) × (step_of (puts kind s p t) ≡ step_of (in_whole kind (pgns_of p) s p t))
  unfolding in_whole
  part_partial q =
      let w = told_partial (pgns_of p) a s.known.items (heard_as (rust.Ok rust.None) q) in
      (w.1, ap (λ (o : Option (List ℕ)). step_of (in_whole kind o s p t)) (sym w.0))

  -- what stays in hand: what there was once the list is whole, else the parts with the new one
  pub whole_hand : (n : ℕ) → f ≡ rust.Ok (rust.Some n) → (h : Hand) → h ≡ hand_by (pgns_of p) p h
  whole_hand n q h = ap (λ (o : Option (List ℕ)). hand_by o p h) (sym (told_whole (pgns_of p) n a s.known.items (heard_as (rust.Ok (rust.Some n)) q)).1)

  pub partial_hand : f ≡ rust.Ok rust.None → (h : Hand) → record { parts = p; blank = false } ≡ hand_by (pgns_of p) p h
  partial_hand q h = ap (λ (o : Option (List ℕ)). hand_by o p h) (sym (told_partial (pgns_of p) a s.known.items (heard_as (rust.Ok rust.None) q)).0)

  pub part_refused : (error : ListError) → f ≡ rust.Err error → ⊥
  part_refused error q = told_refused (pgns_of p) error a s.known.items (heard_as (rust.Err error) q)
