-- What std's methods on slices give, in the words of the contracts: a PGN looked up, a part copied, a list moved down. Assumes nothing.
use Rattle.std.specs.Prelude.{ℕ, ◌+◌, ◌-◌, ◌≤◌, ◌<◌, ◌≡◌, refl, Bool, true, false, ◌||◌, List, ◌++◌, leb, length, take, drop, min}
use Rattle.std.proofs.Common.{arith, ap, ap₂, sym, ◌∙◌, take_all, length-take-le, length-drop, take-append-drop, append_assoc, leb-true, leb-false}
use Rattle.std.specs.List.{copy_within}
use Rattle.std.proofs.lemmas.List.Edits.{sets, sets-eq, paste_all}
use Rattle.std.proofs.lemmas.Slice.{put_mid-paste, between_is}
use Rattle.std.proofs.Math.Seq.{length-sets}
use borrow.Rule.Slice.PartMut.{put_mid}
use Rattle.field.specs.WrittenLaws.{sets_append, sets_written}
use Rattle.field.specs.Fields.{field}
use Rattle.field.proofs.FieldProofs.{field_past}
use Rattle.tx_list.proofs.LiveLists.{has_append}
use Rattle.tx_list.specs.Views.{has, pgns_at}
use Rattle.pgns.specs.Turns.{sets_past}

-- a PGN is in the first 64 or in the rest
pub block_has : (p : ℕ) (l : List ℕ) → has p l ≡ has p (take 64 l) || has p (drop 64 l)
block_has p l = ap (has p) (sym (take-append-drop 64 l)) ∙ has_append p (take 64 l) (drop 64 l)

-- what does not fit is dropped
pub sets_fitting : (l xs : List ℕ) (k : ℕ) → k ≤ length l → sets l k (take (length l - k) xs) ≡ sets l k xs
sets_fitting l xs k h =
    go (leb (length xs) (length l - k)) refl
  where
    go : (t : Bool) → leb (length xs) (length l - k) ≡ t → sets l k (take (length l - k) xs) ≡ sets l k xs
    go true e = ap (sets l k) (take_all (length l - k) xs (leb-true (length xs) (length l - k) e))
    go false e =
        let n = length l - k in
        let m : n ≤ length xs = omega (arith, leb-false (length xs) (length l - k) e) in
        let w : length (take n xs) ≡ n = length-take-le n xs m in
        let s : length (sets l k (take n xs)) ≡ length l = length-sets l k (take n xs) in
        sym (sets_past (drop n xs) (sets l k (take n xs)) (k + length (take n xs)) (omega arith))
        ∙ sym (sets_append (take n xs) (drop n xs) l k)
        ∙ ap (sets l k) (take-append-drop n xs)

-- a part that was copied
pub sets_part : (l xs new : List ℕ) (k n : ℕ) → k + length xs ≤ length l → n ≡ length xs → new ≡ xs → put_mid k n l new ≡ sets l k xs
sets_part l xs new k n h e f =
    put_mid-paste k n l new xs (length xs) f (sym e) refl
    ∙ paste_all l k xs (length xs) refl
    ∙ sym (append_assoc (take k l) xs (drop (k + length xs) l))
    ∙ sym (sets-eq xs l k h)

-- one place down
pub moved_down : (l : List ℕ) (e : ℕ) → 1 ≤ e → e ≤ length l → copy_within l 1 e 0 ≡ sets l 0 (drop 1 (take e l))
moved_down l e h g =
    let xs = drop 1 (take e l) in
    let n : length xs ≡ e - 1 = length-drop 1 (take e l) ∙ ap (λ (j : ℕ). j - 1) (length-take-le e l g) in
    let z : 0 + (e - 1) ≡ length xs = omega (arith, n) in
    ap₂ (λ (a : List ℕ) (j : ℕ). a ++ drop j l) (between_is l 1 e) z ∙ sym (sets_written xs l (omega arith))

-- a place that would pass the largest number is past the end too
pub field_capped : (m : List ℕ) (j k : ℕ) → k ≡ min j 18446744073709551615 → length m ≤ 18446744073709551615 → field m k 4 ≡ field m j 4
field_capped m j k e h = go (leb j 18446744073709551615) refl
  where
    go : (t : Bool) → leb j 18446744073709551615 ≡ t → field m k 4 ≡ field m j 4
    go true t = let n : k ≡ j = omega (arith, leb-true j 18446744073709551615 t) in ap (λ (i : ℕ). field m i 4) n
    go false t =
        let n : 18446744073709551615 < j = omega (arith, leb-false j 18446744073709551615 t) in
        field_past m k 4 (omega arith) ∙ sym (field_past m j 4 (omega arith))

-- at the end there is no PGN left, or no place
pub each_end : (l m : List ℕ) (k at n end j : ℕ) → end ≡ min (min (at + n) 18446744073709551615) (length l) → end ≤ k → length l ≤ 18446744073709551615
    → sets l k (pgns_at m j (n - (k - at))) ≡ l
unfolding pgns_at
each_end l m k at n end j e h g = go (leb (length l) k) refl
  where
    go : (t : Bool) → leb (length l) k ≡ t → sets l k (pgns_at m j (n - (k - at))) ≡ l
    go true t = sets_past (pgns_at m j (n - (k - at))) l k (leb-true (length l) k t)
    go false t =
        let below : k < length l = omega (arith, leb-false (length l) k t) in
        let z : n - (k - at) ≡ 0 = omega arith in
        ap (λ (i : ℕ). sets l k (pgns_at m j i)) z
