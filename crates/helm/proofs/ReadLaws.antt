-- What comes of a list that was read, in the arrays of a session in memory.
use Rattle.std.specs.Prelude.{ℕ, zero, suc, ◌+◌, ◌-◌, ◌*◌, ◌/◌, ◌<◌, ◌≤◌, ◌≡◌, ltb, Bool, true, false, List, [], ◌∷◌, length, take, get_or}
use Rattle.std.proofs.Common.{arith, refl, sym, ap, ◌∙◌, length-take-le, lt-ltb, le-ltb}
use Rattle.std.proofs.lemmas.Bool.{ltb-true, ltb-false}
use Rattle.std.proofs.lemmas.List.Edits.{sets}
use Rattle.numbers.specs.Layout.{one}
use Rattle.numbers.specs.LayoutLaws.{set_one}
use Rattle.views.specs.declared.F1Kind.{F1Kind}
use Rattle.views.specs.declared.F1Kind.TheVariants.{Adds}
use Rattle.views.specs.Told.{told_f1}
use Rattle.views.specs.ViewsLaws.{list_pgns_length}
use Rattle.tx_list.specs.Views.{notes, group_count, list_pgns, F1, f1_of, added}
use Rattle.tx_list.specs.Reading.{enable}
use Rattle.tx_list.specs.Moves.{gets, go_to, with_known, with_owed, emptied}
use Rattle.tx_list.specs.declared.State.{State}
use Rattle.tx_list.specs.declared.State.TheVariants.{Enabling, Done}
use Rattle.pgns.specs.Lists.{told, owed_from, owed_in}
use Rattle.pgns.specs.Turns.{least_le, owed_room}
use Rattle.session.specs.Sync.{Sync, kind, Known, Stepped, step_of}
use Rattle.session.specs.ReadingLaws as laws
use Rattle.session.specs.ReadingLaws.{list_none, list_some, none_written, known_as}
use Rattle.helm.specs.declared.stored.Numbers.{Numbers}
use Rattle.helm.specs.declared.stored.Which.TheVariants.{Known as K, Owed}
use Rattle.helm.specs.Stored.{Stored, with_array, session_at}
use Rattle.helm.specs.Steps.{asked_none, asked_some}

pub group_within : (m : List ℕ) → 4 * group_count m ≤ length m - 13
unfolding group_count
group_within m = omega (arith, least_le (get_or m 12 0) ((length m - 13) / 4))

-- none, or some
pub by_count : {P : Type 0} (n : ℕ) → (n ≡ 0 → P) → (0 < n → P) → P
by_count zero f g = f refl
by_count (suc n) f g = g (omega arith)

-- s: a list of count PGNs at the front of the known array, which was k before; u: the present ones noted; v: what is owed
module _ (st : State) (n : Numbers) (s u v : Stored) (k : List ℕ) (count known owed t : ℕ) (complete : Bool)
    (eu : u ≡ with_array s K (sets s.known 0 (notes (take count s.known) (take n.present s.present))))
    (ek : known ≡ length (notes (take count s.known) (take n.present s.present)))
    (ev : v ≡ with_array u Owed (sets u.owed 0 (owed_from (take n.wanted u.wanted) (take count u.known) (take n.present u.present) (take n.refused u.refused))))
    (eo : owed ≡ length (owed_from (take n.wanted u.wanted) (take count u.known) (take n.present u.present) (take n.refused u.refused)))
    (es : s.known ≡ sets k 0 (take count s.known))
    (within : count ≤ length s.known) (room : count + n.present ≤ length k) (wide : n.wanted ≤ length s.owed) where
  -- the session, and its known list
  abbrev S : Sync
  S = session_at st n (with_array s K k)

  abbrev kn : Known
  kn = record { read = true; complete = complete; list = record { items = u.known; n = known } }

  abbrev after : Numbers
  after = record n { read = 1; complete = one complete; known = known }

  abbrev O : Stored → List ℕ
  O y = owed_from (take n.wanted y.wanted) (take count u.known) (take n.present y.present) (take n.refused y.refused)

  same : O u ≡ O s
  same = ap O eu

  items : v.owed ≡ sets s.owed 0 (O s)
  items = ap (λ (y : Stored). y.owed) ev ∙ (λ i. sets (eu i).owed 0 (same i))

  buffer : told owed v.owed ≡ owed_in s.owed n.wanted (O s)
  buffer = owed_room s.owed (O s) n.wanted wide (eo ∙ ap length same) items

  -- the arrays that were written
  places : v ≡ with_array (with_array s K u.known) Owed v.owed
  places =
      let a = sets u.owed 0 (O u) in
      ev
      ∙ (λ i. with_array (eu i) Owed a)
      ∙ (λ i. with_array (with_array s K (ap (λ (y : Stored). y.known) (sym eu) i)) Owed (ap (λ (y : Stored). y.owed) (sym ev) i))

  asked_all : {r : Stepped} → r ≡ laws.asked S kn (take count u.known) t → r ≡ step_of (gets kind S (take count s.known) complete t)
  asked_all e =
      let q : length (take count s.known) ≡ count = length-take-le count s.known within in
      laws.got S (take count s.known) complete t (omega (arith, q, room)) s.known count kn es (sym q)
      (λ i. record { read = true; complete = complete; list = record { items = (eu i).known; n = ek i } }) e

  pub got_none : owed ≡ 0 → asked_none after t v ≡ step_of (gets kind S (take count s.known) complete t)
  got_none z =
      let w : v.owed ≡ s.owed = none_written S kn (take count u.known) t (told owed v.owed) buffer wide z in
      asked_all
      ((λ i. record { sent = []; sync = session_at Done (record after { due = t + 10000 }) (places i) })
      ∙ (λ i. record { sent = []; sync = session_at Done (record after { due = t + 10000 }) (with_array (with_array s K u.known) Owed (w i)) })
      ∙ ap {B = Stepped} (λ (b : Bool). record { sent = []; sync = go_to (with_known S true b (record { items = u.known; n = known })) Done (t + 10000) }) (set_one complete)
      ∙ list_none S kn (take count u.known) t (told owed v.owed) buffer wide z)

  pub got_some : 0 < owed → asked_some after owed t v ≡ step_of (gets kind S (take count s.known) complete t)
  got_some z =
      asked_all
      ((λ i. record { sent = enable (get_or v.owed 0 0) ∷ []; sync = session_at Enabling (record after { owed = owed; fresh = 0; due = t + 10000 }) (places i) })
      ∙ ap {B = Stepped}
      (λ (b : Bool).
      record {
        sent = enable (get_or v.owed 0 0) ∷ [];
        sync = go_to (with_owed (with_known S true b (record { items = u.known; n = known })) (told owed v.owed) (emptied S.fresh)) Enabling (t + 10000);
      })
      (set_one complete)
      ∙ list_some S kn (take count u.known) t (told owed v.owed) buffer wide z)

-- Format 1

-- a test with a difference, as a test with a sum
ltb_shift : (a b cap : ℕ) → a ≤ cap → ltb (cap - a) b ≡ ltb cap (a + b)
ltb_shift a b cap h = go (ltb (cap - a) b) refl
  where
    go : (t : Bool) → ltb (cap - a) b ≡ t → ltb (cap - a) b ≡ ltb cap (a + b)
    go true e = e ∙ sym (lt-ltb cap (a + b) (omega (arith, ltb-true (cap - a) b e)))
    go false e = e ∙ sym (le-ltb cap (a + b) (omega (arith, ltb-false (cap - a) b e)))

module _ (m : List ℕ) {k : F1Kind} (e : told_f1 k (list_pgns m) ≡ f1_of m) (cap n : ℕ) where
  f1_is : (v : F1Kind) → k ≡ v → told_f1 v (list_pgns m) ≡ f1_of m
  f1_is v q = ap (λ (x : F1Kind). told_f1 x (list_pgns m)) (sym q) ∙ e

  -- the list would pass its limit, by the kind of message
  pub over_adds : (count : ℕ) → k ≡ Adds → n ≤ cap → count ≡ group_count m → ltb (cap - n) count ≡ ltb cap (n + length (added (f1_of m)))
  unfolding added
  over_adds count q h c =
      ltb_shift n count cap h
      ∙ ap (λ (x : ℕ). ltb cap (n + x)) (c ∙ sym (list_pgns_length m))
      ∙ ap (λ (x : F1). ltb cap (n + length (added x))) (f1_is Adds q)

  pub over_none : (v : F1Kind) → added (told_f1 v (list_pgns m)) ≡ [] → k ≡ v → n ≤ cap → false ≡ ltb cap (n + length (added (f1_of m)))
  over_none v z q h =
      sym (le-ltb cap (n + 0) (omega arith))
      ∙ ap (λ (l : List ℕ). ltb cap (n + length l)) (sym z)
      ∙ ap (λ (x : F1). ltb cap (n + length (added x))) (f1_is v q)

  pub adds_fit : k ≡ Adds → ltb cap (n + length (added (f1_of m))) ≡ false → n + length (list_pgns m) ≤ cap
  unfolding added
  adds_fit q h =
      ltb-false cap (n + length (list_pgns m)) (ap (λ (x : F1). ltb cap (n + length (added x))) (f1_is Adds q) ∙ h)
