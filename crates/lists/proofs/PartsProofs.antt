-- Laws of lists in parts, for any kind of entry: a loop of tests goes through the places. They rest on `every`, which a must-fail edit
-- changes (the loop of stores: specs/PartsLaws.antt). Assumes nothing.
use Prim.Native.Nat.{ℕ, ◌+◌, ◌*◌, ◌<◌, ◌≤◌}
use Rattle.std.proofs.Common.{◌∙◌, drop_of_length-le, drop-cons, get_or-take, length-take-le}
use Rattle.std.proofs.Math.Numerals.{add-one}
use native.Mathlib.Omega.{arith}
use Rattle.std.specs.Prelude.{◌≡◌, Bool, true, false, ◌&&◌, get_or, take, drop, replicate}
use Rattle.std.proofs.Math.Path.{refl, ap, ap₂}
use Rattle.std.specs.List.{list_all, FoldsTo}
use mathlib.Core.List.{List, [], ◌∷◌}
use Rattle.std.proofs.Math.ListN.{length, length-take}
use Rattle.lists.specs.Parts.{Parts, entries_read, every, whole}
use Rattle.lists.specs.PartsLaws.{below_places}

module _ {E : Type 0} where
  -- Going through the places

  pub every_next : (f : E → Bool) (l : List E) (n k : ℕ) (d : E) → k < n → n ≤ length l → f (get_or l k d) ≡ true
      → every f (drop k (take n l)) ≡ every f (drop (k + 1) (take n l))
  unfolding every
  every_next f l n k d h g e =
      let t : k < length (take n l) = rw (length-take-le n l g) h in
      ap (every f) (drop-cons (take n l) k d t) ∙ rw (get_or-take n l k d h, e, add-one k)

  pub every_false : (f : E → Bool) (l : List E) (n k : ℕ) (d : E) → k < n → n ≤ length l → f (get_or l k d) ≡ false
      → every f (drop k (take n l)) ≡ false
  unfolding every
  every_false f l n k d h g e =
      let t : k < length (take n l) = rw (length-take-le n l g) h in
      ap (every f) (drop-cons (take n l) k d t) ∙ rw (get_or-take n l k d h, e)

  pub every_end : (f : E → Bool) (l : List E) (n : ℕ) → every f (drop n (take n l)) ≡ true
  unfolding every
  every_end f l n = ap (every f) (drop_of_length-le (take n l) {i = n} (simp length-take (omega arith)))

  pub whole_unsized : (f : E → Bool) (p : Parts E) → p.sized ≡ false → false ≡ whole f p
  unfolding whole
  whole_unsized f p s = rw s

  pub whole_sized : (f : E → Bool) (p : Parts E) (b : Bool) → p.sized ≡ true → length p.places ≡ 255
      → every f (take p.size p.places) ≡ b → b ≡ whole f p
  unfolding whole
  whole_sized f p b s h e = rw (s, below_places p h, e)

  -- A chain of tests

  pub every_all : (f : E → Bool) (l : List E) → list_all f l ≡ every f l
  unfolding every
  every_all f [] = refl
  every_all f (x ∷ l) = ap (λ b. f x && b) (every_all f l)

  -- Blanks written one by one

  pub filled_with : {P : Type 0} (R : P → E → P → Type 0) (b : E) → ((p : P) (x : E) (q : P) → R p x q → x ≡ b) → (xs : List E) (p q : P) → FoldsTo R p xs q
      → xs ≡ replicate (length xs) b
  filled_with R b h [] p q r = refl
  filled_with R b h (x ∷ xs) p q r = ap₂ {C = List E} (λ y ys. y ∷ ys) (h p x r.0 r.1) (filled_with R b h xs r.0 q r.2)

-- the last entry that is read lies wholly in the reply
pub entries_within : (d : List ℕ) (at i : ℕ) → at + 3 ≤ length d → i < entries_read d at → at + 3 + 4 * i + 4 ≤ length d
unfolding entries_read
entries_within d at i h g = omega arith
