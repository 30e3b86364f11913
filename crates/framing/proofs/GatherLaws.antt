-- What the loop of `gather` goes by: the bytes that are not left were collected, in the definition of the loop and in that of feeding.
-- Assumes nothing.
use Rattle.std.specs.Prelude.{◌≡◌, ℕ, ◌+◌, ◌-◌, ◌<◌, ◌≤◌, List, length, take, drop, ◌≢◌, slice_index, slice_set, refl}
use Rattle.std.proofs.Common.{arith, ap, sym, ◌∙◌, length-drop, length-set, take_all}
use Rattle.std.proofs.lemmas.List.{drop-drop, get_or-drop}
use Rattle.framing.specs.declared.decode.Phase.TheVariants.{InFrame}
use Rattle.framing.specs.Unstuff.{state}
use Rattle.framing.specs.Scan.{Gathered, gathered_from}
use Rattle.framing.specs.ScanLaws.{gathered_end, gathered_full, gathered_on, gathered_lone, gathered_escape, gathered_pair}
use Rattle.framing.specs.From.{from, Collects}
use Rattle.framing.specs.FromLaws.{frame_on, frame_pair}

-- the bytes after the first one, as a slice pattern gives them
abbrev pub tail : List ℕ → List ℕ
tail s = take (length s - 1) (drop 1 s)

-- where the rest of the bytes stands
abbrev pub place : List ℕ → List ℕ → ℕ
place bytes left = length bytes - length left

-- the bytes before `left` are collected
pub record Went (n₀ : ℕ) (buf₀ bytes : List ℕ) (n : ℕ) (buf left : List ℕ) : Type 0 where
  pub inside : length left ≤ length bytes
  pub rest : left ≡ drop (place bytes left) bytes
  pub small : n ≤ 1024
  pub room : 1024 ≤ length buf
  pub same : from (state InFrame n₀ buf₀) 0 bytes ≡ from (state InFrame n buf) (place bytes left) bytes
  pub exact : gathered_from n₀ buf₀ 0 bytes ≡ gathered_from n buf (place bytes left) bytes

tail_drop : (s : List ℕ) → tail s ≡ drop 1 s
tail_drop s = take_all (length s - 1) (drop 1 s) (omega (arith, length-drop 1 s))

tail_length : (s : List ℕ) → length (tail s) ≡ length s - 1
tail_length s = ap length (tail_drop s) ∙ length-drop 1 s

-- the first byte of what is left, and what stands after it
front : (bytes left : List ℕ) (i : ℕ) → left ≡ drop i bytes → slice_index bytes i ≡ slice_index left 0
front bytes left i e = let z : i + 0 ≡ i = omega arith in sym (ap (λ (l : List ℕ). slice_index l 0) e ∙ get_or-drop i bytes 0 0 ∙ ap (λ (k : ℕ). slice_index bytes k) z)

after : (bytes left : List ℕ) (i : ℕ) → left ≡ drop i bytes → tail left ≡ drop (i + 1) bytes
after bytes left i e = tail_drop left ∙ ap (drop 1) e ∙ drop-drop 1 i bytes

pub went_start : (n : ℕ) (buf bytes : List ℕ) → n ≤ 1024 → 1024 ≤ length buf → Went n buf bytes n buf bytes
went_start n buf bytes small room =
    let e : place bytes bytes ≡ 0 = omega arith in
    record {
      inside = omega arith;
      rest = ap (λ (k : ℕ). drop k bytes) (sym e);
      small = small;
      room = room;
      same = ap (λ (k : ℕ). from (state InFrame n buf) k bytes) (sym e);
      exact = ap (λ (k : ℕ). gathered_from n buf k bytes) (sym e);
    }

module _ (n₀ : ℕ) (buf₀ bytes : List ℕ) (n : ℕ) (buf left : List ℕ) (w : Went n₀ buf₀ bytes n buf left) where
  abbrev i : ℕ
  i = place bytes left

  room_after : (b : ℕ) → 1024 ≤ length (slice_set buf n b)
  room_after b = omega (arith, w.room, length-set {A = ℕ})

  -- a byte other than DLE is collected
  pub went_on : 0 < length left → n < 1024 → (slice_index left 0 ≢ 0x10) → Went n₀ buf₀ bytes (n + 1) (slice_set buf n (slice_index left 0)) (tail left)
  went_on h k d =
      let e : place bytes (tail left) ≡ i + 1 = omega (arith, tail_length left, w.inside) in
      let l : i < length bytes = omega (arith, w.inside) in
      let f = front bytes left i w.rest in
      let d' : (slice_index bytes i ≢ 0x10) = λ x. d (sym f ∙ x) in
      let b = slice_index left 0 in
      record {
        inside = omega (arith, tail_length left, w.inside);
        rest = after bytes left i w.rest ∙ ap (λ (j : ℕ). drop j bytes) (sym e);
        small = omega arith;
        room = room_after b;
        same =
            w.same
            ∙ frame_on n buf bytes i w.small w.room l k d'
            ∙ ap (λ (x : ℕ). from (state InFrame (n + 1) (slice_set buf n x)) (i + 1) bytes) f
            ∙ ap (λ (j : ℕ). from (state InFrame (n + 1) (slice_set buf n b)) j bytes) (sym e);
        exact =
            w.exact
            ∙ gathered_on n buf i bytes l k d'
            ∙ ap (λ (x : ℕ). gathered_from (n + 1) (slice_set buf n x) (i + 1) bytes) f
            ∙ ap (λ (j : ℕ). gathered_from (n + 1) (slice_set buf n b) j bytes) (sym e);
      }

  -- a doubled DLE
  pub went_pair : 0 < length left → n < 1024 → slice_index left 0 ≡ 0x10 → 0 < length (tail left) → slice_index (tail left) 0 ≡ 0x10
      → Went n₀ buf₀ bytes (n + 1) (slice_set buf n 0x10) (tail (tail left))
  went_pair h k d m c =
      let t = tail_length left in
      let e : place bytes (tail (tail left)) ≡ i + 1 + 1 = omega (arith, tail_length (tail left), t, w.inside) in
      let l : i + 1 < length bytes = omega (arith, t, w.inside) in
      let a = after bytes left i w.rest in
      let d' : slice_index bytes i ≡ 0x10 = front bytes left i w.rest ∙ d in
      let c' : slice_index bytes (i + 1) ≡ 0x10 = front bytes (tail left) (i + 1) a ∙ c in
      record {
        inside = omega (arith, tail_length (tail left), t, w.inside);
        rest = after bytes (tail left) (i + 1) a ∙ ap (λ (j : ℕ). drop j bytes) (sym e);
        small = omega arith;
        room = room_after 0x10;
        same =
            w.same
            ∙ frame_pair n buf bytes i k w.room l d' c'
            ∙ ap (λ (x : ℕ). from (state InFrame (n + 1) (slice_set buf n x)) (i + 1 + 1) bytes) d'
            ∙ ap (λ (j : ℕ). from (state InFrame (n + 1) (slice_set buf n 0x10)) j bytes) (sym e);
        exact =
            w.exact
            ∙ gathered_pair n buf i bytes l k d' c'
            ∙ ap (λ (x : ℕ). gathered_from (n + 1) (slice_set buf n x) (i + 1 + 1) bytes) d'
            ∙ ap (λ (j : ℕ). gathered_from (n + 1) (slice_set buf n 0x10) j bytes) (sym e);
      }

  -- where it ends: no byte is left, there is no room, or a DLE stands there that is not doubled
  at_end : (g : Gathered) → gathered_from n buf i bytes ≡ g → g ≡ record { count = n; buffer = buf; place = i }
      → (i < length bytes → (slice_index bytes i ≢ 0x10) → 1024 ≤ n) → Collects n₀ buf₀ bytes 0 buf n i
  at_end g e f full =
      record {
        exact = sym (w.exact ∙ e ∙ f);
        on = omega arith;
        inside = omega arith;
        small = w.small;
        same = w.same;
        full = full;
      }

  pub went_end : length left < 1 → Collects n₀ buf₀ bytes 0 buf n i
  went_end h = at_end _ (gathered_end n buf i bytes (omega (arith, w.inside))) refl (λ l d. absurd (omega (arith, w.inside)))

  pub went_full : 0 < length left → 1024 ≤ n → Collects n₀ buf₀ bytes 0 buf n i
  went_full h k = at_end _ (gathered_full n buf i bytes (omega (arith, w.inside)) k) refl (λ l d. k)

  pub went_lone : 0 < length left → n < 1024 → slice_index left 0 ≡ 0x10 → length (tail left) < 1 → Collects n₀ buf₀ bytes 0 buf n i
  went_lone h k d m =
      let d' : slice_index bytes i ≡ 0x10 = front bytes left i w.rest ∙ d in
      at_end _ (gathered_lone n buf i bytes (omega (arith, w.inside)) (omega (arith, tail_length left, w.inside)) k d') refl (λ l x. absurd (x d'))

  pub went_escape : 0 < length left → n < 1024 → slice_index left 0 ≡ 0x10 → 0 < length (tail left) → (slice_index (tail left) 0 ≢ 0x10)
      → Collects n₀ buf₀ bytes 0 buf n i
  went_escape h k d m c =
      let d' : slice_index bytes i ≡ 0x10 = front bytes left i w.rest ∙ d in
      let f = front bytes (tail left) (i + 1) (after bytes left i w.rest) in
      at_end _ (gathered_escape n buf i bytes (omega (arith, tail_length left, w.inside)) k d' (λ x. c (sym f ∙ x))) refl (λ l x. absurd (x d'))
