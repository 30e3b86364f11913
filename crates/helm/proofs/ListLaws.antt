-- Lists in arrays: what std's words say in the model's; what is noted and what is owed, where there is room for it (pgns/specs/Lists).
use Rattle.std.specs.Prelude.{ℕ, ◌+◌, ◌≤◌, ◌≡◌, ◌||◌, List, [], ◌∷◌, length, take, eqb, nat_eq}
use Rattle.std.specs.List.{list_any}
use Rattle.std.proofs.Common.{arith, refl, ap, ap₂}
use Rattle.std.proofs.lemmas.List.Edits.{sets}
use Rattle.pgns.specs.Lists.{told, noted, owed_in}
use Rattle.pgns.specs.PgnsLaws.{noted_said, owed_said}
use Rattle.tx_list.specs.Views.{has, notes}

eqb_sym : (x y : ℕ) → eqb x y ≡ eqb y x
eqb_sym x y = grind arith

pub has_any : (p : ℕ) (xs : List ℕ) → list_any (λ y. nat_eq y p) xs ≡ has p xs
unfolding has
has_any p [] = refl
has_any p (x ∷ xs) = ap₂ ◌||◌ (eqb_sym x p) (has_any p xs)

pub noted_all : {r : ℕ} (l ps : List ℕ) (n m : ℕ) → n + m ≤ length l → r ≡ (noted l n ps m).n
    → (r ≡ length (notes (take n l) (take m ps))) × ((noted l n ps m).items ≡ sets l 0 (notes (take n l) (take m ps)))
noted_all l ps n m h e = noted_said l ps n m h (ap (λ (k : ℕ). told k (noted l n ps m).items) e)

pub owed_all : {r : ℕ} (l o : List ℕ) (w : ℕ) → w ≤ length l → r ≡ (owed_in l w o).n → (r ≡ length o) × ((owed_in l w o).items ≡ sets l 0 o)
owed_all l o w h e = owed_said l o w h (ap (λ (k : ℕ). told k (owed_in l w o).items) e)
