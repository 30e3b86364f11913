-- Cutting and trimming in std's words, as iterators answer them. Assumes nothing.
use Rattle.std.proofs.Common.{ℕ, suc, ◌+◌, ◌-◌, ◌≡◌, refl, Bool, true, false, not, cond, ◌&&◌, ◌||◌, List, [], ◌∷◌, ◌++◌, length, take, reverse, ltb, eqb, arith, sym, ap, ◌∙◌, one-add, Option, Some, None}
use borrow.Author.Tests.{ltb-false}
use Rattle.std.proofs.lemmas.List.Sums.{prefix_len-le-length}
use Rattle.std.proofs.lemmas.List.{reverse-append, reverse-reverse, take-append-le, length-append, take_all}
use Rattle.std.specs.Option.{unwrap_or}
use Rattle.std.specs.List.{position, position_or_len, list_all}
use Rattle.field.specs.Pick.{pick}
use Rattle.texts.specs.Texts.{is_white, cut, all_plain, leading, trim_right}
use Rattle.texts.specs.TrimLaws.{trim_white, trim_kept}

-- whether b ends a text
abbrev pub ends : ℕ → Bool
ends b = eqb b 0x00 || eqb b 0xFF

-- whether b stops a trim
abbrev pub stays : ℕ → Bool
stays b = not (is_white b)

-- the place that a search finds, or the length
pub found_or_len : (p : ℕ → Bool) (s : List ℕ) (r : Option ℕ) (n : ℕ) → r ≡ position p s → n ≡ length s → unwrap_or r n ≡ position_or_len p s
found_or_len p s r n e h = rw (e, h) (go (ltb (position_or_len p s) (length s)) refl)
  where
    go : (t : Bool) → ltb (position_or_len p s) (length s) ≡ t → unwrap_or (cond t (Some (position_or_len p s)) None) (length s) ≡ position_or_len p s
    go true e = refl
    go false e = omega (arith, ltb-false (position_or_len p s) (length s) e, prefix_len-le-length (λ x. not (p x)) s)

take_step : (t : Bool) (b n : ℕ) (bs l : List ℕ) → l ≡ take n bs → pick t [] (b ∷ l) ≡ take (cond (not t) (1 + n) 0) (b ∷ bs)
take_step true b n bs l e = refl
take_step false b n bs l e = rw one-add (ap (λ (x : List ℕ). b ∷ x) e)

pub cut_first : (s : List ℕ) → take (position_or_len ends s) s ≡ cut s
unfolding cut
cut_first [] = refl
cut_first (b ∷ bs) = sym (take_step (ends b) b (position_or_len ends bs) bs (cut bs) (sym (cut_first bs)))

pub plain_all : (s : List ℕ) → list_all (λ b. ltb b 0x80) s ≡ all_plain s
unfolding all_plain
plain_all [] = refl
plain_all (b ∷ bs) = ap (λ (t : Bool). ltb b 0x80 && t) (plain_all bs)

lead_step : (t : Bool) (m n : ℕ) → m ≡ n → cond (not (not t)) (1 + m) 0 ≡ pick t (suc n) 0
lead_step true m n e = omega arith
lead_step false m n e = refl

pub leading_first : (s : List ℕ) → position_or_len stays s ≡ leading s
unfolding leading
leading_first [] = refl
leading_first (b ∷ bs) = lead_step (is_white b) (position_or_len stays bs) (leading bs) (leading_first bs)

-- from the end, which is where the list turned round begins
turned : (w : ℕ) (r : List ℕ) → reverse (w ∷ r) ≡ reverse r ++ (w ∷ [])
turned w r = reverse-append (w ∷ []) r

one_more : (l : List ℕ) (w n : ℕ) (t : Bool) → is_white w ≡ t → take (length l - n) l ≡ trim_right l
    → take (length (l ++ (w ∷ [])) - cond (not (not t)) (1 + n) 0) (l ++ (w ∷ [])) ≡ trim_right (l ++ (w ∷ []))
one_more l w n true e h =
    let k = length l - n in
    let z : length (l ++ (w ∷ [])) - (1 + n) ≡ k = omega (arith, length-append l (w ∷ [])) in
    ap (λ (i : ℕ). take i (l ++ (w ∷ []))) z ∙ take-append-le k l (w ∷ []) (omega arith) ∙ h ∙ sym (trim_white l w e)
one_more l w n false e h = take_all _ (l ++ (w ∷ [])) (omega arith) ∙ sym (trim_kept l w e)

last_turned : (r : List ℕ) → take (length (reverse r) - position_or_len stays r) (reverse r) ≡ trim_right (reverse r)
unfolding trim_right
last_turned [] = refl
last_turned (w ∷ r) = rw (turned w r) (one_more (reverse r) w (position_or_len stays r) (is_white w) refl (last_turned r))

pub last_first : (s : List ℕ) → take (length s - position_or_len stays (reverse s)) s ≡ trim_right s
last_first s = rw (reverse-reverse s) at (last_turned (reverse s))
