-- A list that the parts of Format 2 give.
use Rattle.std.specs.Prelude as rust
use Rattle.std.specs.Prelude.{ℕ, ◌≤◌, ◌≡◌, true, List, length, take}
use Rattle.std.proofs.Common.{arith, sym, ap, ◌∙◌, le-leb, leb-true}
use Rattle.std.proofs.Math.Option.{none, some}
use Rattle.lists.specs.declared.F2List.{F2List}
use Rattle.lists.specs.declared.error.ListError.{ListError}
use Rattle.lists.specs.Format2 as lists
use Rattle.lists.specs.Format2.{pgns_of, formed, told_read, listed}
use Rattle.lists.specs.Format2Laws.{told_whole, told_partial, told_refused}
use Rattle.lists.proofs.Format2Proofs.{pgns_767, listed_told}
use Rattle.field.specs.WrittenLaws.{sets_written}
use Rattle.std.proofs.lemmas.List.Edits.{sets}
use Rattle.session.specs.Sync.{put}
use Rattle.session.specs.ReadingLaws.{put_formed, front_read}
use Rattle.helm.specs.declared.stored.Numbers.{Numbers}
use Rattle.helm.specs.Stored.{parts_of}
use Rattle.helm.specs.Steps.{Listed}

pub parts_formed : (n : Numbers) (f : F2List) (m : List ℕ) → n.proprietary ≤ 512 → formed (put m (parts_of n f)) ≡ true
unfolding formed
parts_formed n f m h = put_formed m (parts_of n f) (le-leb n.proprietary 512 h)

pub formed_count : (p : F2List) → formed p ≡ true → p.proprietary.list.n ≤ 512
unfolding formed
formed_count p e = leb-true p.proprietary.list.n 512 e

module _ (p : F2List) (a z : List ℕ) {f : rust.Result (rust.Option ℕ) ListError} (e : told_read f a ≡ listed p z) (h : 767 ≤ length z) (g : formed p ≡ true) where
  heard_as : (v : rust.Result (rust.Option ℕ) ListError) → f ≡ v → told_read v a ≡ lists.told (pgns_of p) z
  heard_as v q = ap (λ (x : rust.Result (rust.Option ℕ) ListError). told_read x a) (sym q) ∙ e ∙ listed_told p z g h

  pub part_whole : (n : ℕ) → f ≡ rust.Ok (rust.Some n) → Listed p n a
  part_whole n q =
      let w = told_whole (pgns_of p) n a z (heard_as (rust.Ok (rust.Some n)) q) in
      let b : length w.0 ≤ 767 = pgns_767 p w.0 g w.1 in
      let x : a ≡ sets z 0 w.0 = w.3 ∙ sym (sets_written w.0 z (omega arith)) in
      let l : take n a ≡ w.0 = (λ i. take (w.2 i) (x i)) ∙ front_read w.0 z (omega arith) in
      record { gives = w.1 ∙ ap some (sym l); count = w.2 ∙ ap length (sym l); most = omega (arith, w.2) }

  pub part_partial : f ≡ rust.Ok rust.None → pgns_of p ≡ none
  part_partial q = (told_partial (pgns_of p) a z (heard_as (rust.Ok rust.None) q)).0

  pub part_refused : (r : ListError) → f ≡ rust.Err r → ⊥
  part_refused r q = told_refused (pgns_of p) r a z (heard_as (rust.Err r) q)
