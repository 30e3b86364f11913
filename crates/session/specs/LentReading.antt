-- The reading of a list in lent memory: what the calls left in the arrays is what module 6 says. Assumes nothing.
use Rattle.std.specs.Prelude.{ℕ, ◌+◌, ◌≤◌, ◌<◌, ◌≡◌, refl, Bool, true, List, [], ◌∷◌, length, take, get_or}
use Rattle.std.proofs.Common.{arith, sym, ap, ◌∙◌, length-take-le}
use Rattle.std.proofs.lemmas.List.Edits.{sets}
use Rattle.std.proofs.Math.Seq.{length-sets}
use Rattle.pgns.specs.Lists.{told, noted, owed_from, owed_in}
use Rattle.lists.specs.declared.F2List.{F2List}
use Rattle.tx_list.specs.Views.{group_count, pgns_at, list_pgns}
use Rattle.tx_list.specs.Reading.{enable}
use Rattle.tx_list.specs.Memory.{Buf}
use Rattle.tx_list.specs.Moves.{adds_to, owing, asks, gets}
use Rattle.tx_list.specs.declared.State.TheVariants.{Enabling, Done}
use Rattle.session.specs.Sync.{Sync, kind, Known, known_in, Stepped, step_of}
use Rattle.session.specs.Lent.{Totals, Numbers, lent, sync_of, recount, counting, known_totals, awaiting}
use Rattle.session.specs.ReadingLaws as laws
use Rattle.session.specs.ReadingLaws.{adds_told, list_none, none_written, list_some, noted_told, known_as, front_read}

-- the list read so far has so many
abbrev pub listing : Totals → ℕ → Totals
listing t n = let c = t.counts in counting t (recount c c.owed c.fresh n c.proprietary c.known)

-- so many are owed, none is fresh
abbrev pub owes : Totals → ℕ → Totals
owes t n = let c = t.counts in counting t (recount c n 0 c.list c.proprietary c.known)

-- PGNs more of a list in Format 1
pub adds_in :
    (x : Numbers) (m : List ℕ) (t count : ℕ) (old new : List ℕ) {y : Numbers}
    → count ≡ group_count m
    → new ≡ sets old x.totals.counts.list (pgns_at m 13 count)
    → y ≡ awaiting (listing x.totals (x.totals.counts.list + count)) x.state t
    → (w o u k s p q : List ℕ) (f : F2List)
    → ◌≡◌ {A = Stepped} (record { sent = []; sync = sync_of y (lent w o u new k s p q f) })
    (step_of (adds_to kind (sync_of x (lent w o u old k s p q f)) (list_pgns m) t))
adds_in x m t count old new c e g w o u k s p q f =
    ap {B = Stepped} (λ (z : Numbers). record { sent = []; sync = sync_of z (lent w o u new k s p q f) }) g
    ∙ adds_told (sync_of x (lent w o u old k s p q f)) m t count new c e

-- the PGNs owed, written from O to O'
module _ (x : Numbers) (n t : ℕ) (W O O' K P Q : List ℕ) (count : ℕ)
    (e : told count O' ≡ owed_in O x.totals.counts.wanted (owed_from (take x.totals.counts.wanted W) (take n K) (take x.totals.counts.present P) (take x.totals.counts.refused Q)))
    (h : x.totals.counts.wanted ≤ length O) where
  abbrev Asks : List ℕ → List ℕ → List ℕ → F2List → Stepped
  Asks u l s f = step_of (asks kind (sync_of x (lent W O u l K s P Q f)) (owing kind (sync_of x (lent W O u l K s P Q f)) (take n K)) t)

  pub none_in : {y : Numbers} → count ≡ 0 → y ≡ awaiting x.totals Done t
      → (u l s : List ℕ) (f : F2List) → ◌≡◌ {A = Stepped} (record { sent = []; sync = sync_of y (lent W O' u l K s P Q f) }) (Asks u l s f)
  none_in z g u l s f =
      let sy = sync_of x (lent W O u l K s P Q f) in
      let i : O' ≡ O = none_written sy (known_in sy) (take n K) t (told count O') e h z in
      (λ j. record { sent = []; sync = sync_of (g j) (lent W (i j) u l K s P Q f) })
      ∙ list_none sy (known_in sy) (take n K) t (told count O') e h z

  pub some_in : {y : Numbers} → 0 < count → y ≡ awaiting (owes x.totals count) Enabling t
      → (u l s : List ℕ) (f : F2List)
      → ◌≡◌ {A = Stepped} (record { sent = enable (get_or O' 0 0) ∷ []; sync = sync_of y (lent W O' u l K s P Q f) }) (Asks u l s f)
  some_in z g u l s f =
      let sy = sync_of x (lent W O u l K s P Q f) in
      ap {B = Stepped} (λ (v : Numbers). record { sent = enable (get_or O' 0 0) ∷ []; sync = sync_of v (lent W O' u l K s P Q f) }) g
      ∙ list_some sy (known_in sy) (take n K) t (told count O') e h z

-- a list of n PGNs at the front of A, the known array, then known with the present ones: K
module _ (x : Numbers) (n t : ℕ) (whole : Bool) (W O O' A K P Q : List ℕ) {y : Totals}
    (yt : y ≡ known_totals x.totals whole (noted A n P x.totals.counts.present).n) (kx : K ≡ (noted A n P x.totals.counts.present).items)
    (room : n + x.totals.counts.present ≤ 1344) where
  abbrev Noted : Buf ℕ
  Noted = noted A n P x.totals.counts.present

  abbrev knows : Buf ℕ → Known
  knows b = record { read = true; complete = whole; list = record { items = b.items; n = b.n } }

  module _ (u l k s : List ℕ) (f : F2List) (z : length k ≡ 1344) (a : A ≡ sets k 0 (take n A)) where
    abbrev sy : Sync
    sy = sync_of x (lent W O u l k s P Q f)

    long : length A ≡ 1344
    long = ap length a ∙ length-sets k 0 (take n A) ∙ z

    counted : n ≡ length (take n A)
    counted = sym (length-take-le n A (omega (arith, long, room)))

    is_known : knows Noted ≡ known_as A n sy.present whole
    is_known = ap knows (noted_told A n P x.totals.counts.present refl (omega (arith, long, room)))

    pub got_in : {r : Stepped}
        → r ≡ step_of (asks kind (sync_of (record { state = x.state; totals = y }) (lent W O u l K s P Q f)) (owing kind (sync_of (record { state = x.state; totals = y }) (lent W O u l K s P Q f)) (take n K)) t)
        → r ≡ step_of (gets kind (sync_of x (lent W O u l k s P Q f)) (take n A) whole t)
    got_in e =
        laws.got sy (take n A) whole t (omega (arith, counted, z, room)) A n (knows Noted) a counted is_known
        (e
        ∙ (λ i.
        step_of
        (asks kind (sync_of (record { state = x.state; totals = yt i }) (lent W O u l (kx i) s P Q f))
        (owing kind (sync_of (record { state = x.state; totals = yt i }) (lent W O u l (kx i) s P Q f)) (take n (kx i))) t)))

-- the list in Format 1 has ended: it was copied to the front of the known array
pub ended : (n : ℕ) (L k A : List ℕ) → n ≤ length L → n ≤ length k → A ≡ sets k 0 (take n L) → (take n A ≡ take n L) × (A ≡ sets k 0 (take n A))
ended n L k A h g a =
    let m : length (take n L) ≡ n = length-take-le n L h in
    let q : take n A ≡ take n L = (λ i. take (sym m i) (a i)) ∙ front_read (take n L) k (omega (arith, m)) in
    (q, a ∙ ap (sets k 0) (sym q))
