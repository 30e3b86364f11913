-- What `skip` goes by: std's search for a DLE, and what the bytes before it do to an idle decoder. Assumes nothing.
use Rattle.std.specs.Prelude.{◌≡◌, ℕ, suc, ◌+◌, ◌<◌, ◌≤◌, Bool, true, false, not, cond, List, [], ◌∷◌, length, eqb, ltb, ◌≢◌, position, Some, None, slice_index, refl}
use Rattle.std.specs.List.{position_or_len}
use Rattle.std.specs.Option.{unwrap_or}
use Rattle.std.proofs.Common.{arith, ap, sym, ◌∙◌, ltb-false, eq-eqb, eqb-true}
use Rattle.field.specs.Pick.{pick}
use Rattle.framing.specs.declared.decode.Phase.TheVariants.{Idle}
use Rattle.framing.specs.Unstuff.{state}
use Rattle.framing.specs.Scan.{to_dle}
use Rattle.framing.specs.Feed.{shift}
use Rattle.framing.specs.From.{from, Skips}
use Rattle.framing.specs.FromLaws.{idle_on}
use Rattle.framing.proofs.RunLaws.{from_more}

more : (t : Bool) (m n : ℕ) → m ≡ n → pick t 0 (suc n) ≡ cond (not t) (1 + m) 0
more true m n e = refl
more false m n e = omega arith

first : (s : List ℕ) → to_dle s ≡ position_or_len (λ b. eqb b 0x10) s
unfolding to_dle
first [] = refl
first (b ∷ s) = more (eqb b 0x10) (position_or_len (λ b. eqb b 0x10) s) (to_dle s) (sym (first s))

found_place : (n m : ℕ) → n ≤ m → unwrap_or (cond (ltb n m) (Some n) None) m ≡ n
found_place n m h = go (ltb n m) refl
  where
    go : (t : Bool) → ltb n m ≡ t → unwrap_or (cond t (Some n) None) m ≡ n
    go true e = refl
    go false e = omega (arith, ltb-false n m e)

-- no more bytes stand before a DLE than there are
one_more : (t : Bool) (n k : ℕ) → n ≤ k → pick t 0 (suc n) ≤ suc k
one_more true n k h = omega arith
one_more false n k h = omega arith

most : (s : List ℕ) → to_dle s ≤ length s
unfolding to_dle
most [] = omega arith
most (b ∷ s) = one_more (eqb b 0x10) (to_dle s) (length s) (most s)

-- the place that std's search finds, or the length
searched : (s : List ℕ) → unwrap_or (position (λ b. eqb b 0x10) s) (length s) ≡ to_dle s
searched s =
    let e = first s in
    found_place (position_or_len (λ b. eqb b 0x10) s) (length s) (omega (arith, e, most s)) ∙ sym e

-- a byte that is no DLE
other : (b : ℕ) → eqb b 0x10 ≡ false → (b ≢ 0x10)
other b f e = let y : eqb b 0x10 ≡ true = eq-eqb b 0x10 e in let z : ◌≡◌ {A = ℕ} 0 1 = cc in absurd (omega arith)

-- at the place there is a DLE
found : (s : List ℕ) → to_dle s < length s → slice_index s (to_dle s) ≡ 0x10
unfolding to_dle
found [] h = absurd (omega arith)
found (b ∷ s) h = go (eqb b 0x10) refl (found s) h
  where
    go : (t : Bool) → eqb b 0x10 ≡ t → (to_dle s < length s → slice_index s (to_dle s) ≡ 0x10)
        → pick t 0 (suc (to_dle s)) < suc (length s) → slice_index (b ∷ s) (pick t 0 (suc (to_dle s))) ≡ 0x10
    go true e f h = eqb-true b 0x10 e
    go false e f h = f (omega arith)

-- idle, the bytes before it change nothing
module _ (n : ℕ) (buf : List ℕ) (small : n ≤ 1024) (room : 1024 ≤ length buf) where
  passed : (s : List ℕ) → from (state Idle n buf) 0 s ≡ from (state Idle n buf) (to_dle s) s
  unfolding to_dle
  passed [] = refl
  passed (b ∷ s) = go (eqb b 0x10) refl (passed s)
    where
      go : (t : Bool) → eqb b 0x10 ≡ t → from (state Idle n buf) 0 s ≡ from (state Idle n buf) (to_dle s) s
          → from (state Idle n buf) 0 (b ∷ s) ≡ from (state Idle n buf) (pick t 0 (suc (to_dle s))) (b ∷ s)
      go true e f = refl
      go false e f =
          let l : 0 < length (b ∷ s) = omega arith in
          let k : 1 + to_dle s ≡ suc (to_dle s) = omega arith in
          idle_on n buf (b ∷ s) 0 small room l (other b e)
          ∙ from_more (state Idle n buf) (b ∷ s) 1 0
          ∙ ap (shift 1) f
          ∙ sym (from_more (state Idle n buf) (b ∷ s) 1 (to_dle s))
          ∙ ap (λ (j : ℕ). from (state Idle n buf) j (b ∷ s)) k

pub skips_found : (s : List ℕ) (j : ℕ) → j ≡ unwrap_or (position (λ b. eqb b 0x10) s) (length s) → Skips s 0 j
skips_found s j e =
    let d : j ≡ to_dle s = e ∙ searched s in
    record {
      exact = omega (arith, d);
      on = omega arith;
      inside = omega (arith, d, most s);
      same = λ n buf small room. passed n buf small room s ∙ ap (λ (k : ℕ). from (state Idle n buf) k s) (sym d);
      found = λ h. ap (slice_index s) d ∙ found s (omega (arith, d));
    }
