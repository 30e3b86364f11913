-- Laws of text that is written piece by piece. Assumes nothing.
use Rattle.std.specs.Prelude.{◌≡◌, ℕ, ◌+◌, ◌-◌, ◌≤◌, ◌<◌, List, [], ◌∷◌, ◌++◌, length, take, drop, set, refl}
use Rattle.std.proofs.Common.{arith, ap, sym, ◌∙◌, append_assoc, append-nil, length-append, length-drop, length-take-le, take_all, drop-drop}
use Rattle.std.proofs.lemmas.List.Edits.{sets}
use Rattle.std.proofs.lemmas.List.{take-append-drop, drop_all}
use Rattle.std.proofs.Math.Seq.{take-append_seam, drop-append_seam}
use borrow.Rule.Slice.PartMut.{put_mid}
use Rattle.field.specs.Written.{written}
use Rattle.field.specs.WrittenLaws.{sets_then, sets_written}
use Rattle.report.specs.declared.text.Text.{Text}
use Rattle.report.specs.Writing.{Writing, writing, added}

-- a piece that stands right behind the text
behind : (len : ℕ) (out s new : List ℕ) → len ≤ length out → new ≡ take len out ++ (s ++ drop (length s) (drop len out))
    → record { text = take (len + length s) new; rest = drop (len + length s) new } ≡ added (record { text = take len out; rest = drop len out }) s
unfolding added
behind len out s new h p =
    let text = take len out ++ s in
    let rest = drop (length s) (drop len out) in
    let t : length (take len out) ≡ len = length-take-le len out h in
    let n : len + length s ≡ length text = rw (length-append, t) refl in
    let e : new ≡ text ++ rest = p ∙ sym (append_assoc (take len out) s rest) in
    let f : take (len + length s) new ≡ text = rw (e, n) (take-append_seam text rest) in
    let g : drop (len + length s) new ≡ rest = rw (e, n) (drop-append_seam text rest) in
    λ i. record { text = f i; rest = g i }

-- a piece written to the start of the rest, which was lent
pub pushed_rest : (len : ℕ) (out s new : List ℕ) {n : ℕ} → len + length s ≤ length out → new ≡ written s (take (length out - len) (drop len out)) → n ≡ length s
    → record { text = take (len + n) (put_mid len (length out - len) out new); rest = drop (len + n) (put_mid len (length out - len) out new) }
    ≡ added (record { text = take len out; rest = drop len out }) s
pushed_rest len out s new {n} h p q =
    let d : length (drop len out) ≡ length out - len = length-drop len out in
    let t : take (length out - len) (drop len out) ≡ drop len out = take_all (length out - len) (drop len out) (omega arith) in
    let r : drop (length out - len) (drop len out) ≡ [] = drop_all (length out - len) (drop len out) (omega arith) in
    rw q (behind len out s (put_mid len (length out - len) out new) (omega arith) (rw (p, t, r, append-nil) refl))

-- a digit behind those that were written
pub digit_more : (xs out mid : List ℕ) (d n : ℕ) → mid ≡ written xs out → n ≡ length xs → n < length out → set mid n d ≡ written (xs ++ (d ∷ [])) out
digit_more xs out mid d n p q h =
    let e : mid ≡ sets out 0 xs = p ∙ sym (sets_written xs out (omega arith)) in
    sym (sets_then xs (d ∷ []) out mid 0 n e (omega arith)) ∙ sets_written (xs ++ (d ∷ [])) out (rw length-append (omega arith))

-- two pieces, one after the other
pub added_then : (w : Writing) (xs ys : List ℕ) → added (added w xs) ys ≡ added w (xs ++ ys)
unfolding added
added_then w xs ys =
    let e : drop (length ys) (drop (length xs) w.rest) ≡ drop (length (xs ++ ys)) w.rest =
    drop-drop (length ys) (length xs) w.rest ∙ ap (λ (k : ℕ). drop k w.rest) (sym (length-append xs ys)) in
    λ i. record { text = append_assoc w.text xs ys i; rest = e i }

-- the whole slice, where its text began as an empty one
pub ended : (t : Text) (old xs : List ℕ) → writing t ≡ added (record { text = []; rest = old }) xs → t.out.now ≡ written xs old
unfolding added
ended t old xs e = sym (take-append-drop t.len t.out.now) ∙ ap (λ (w : Writing). w.text ++ w.rest) e

pub ended_length : (t : Text) (old xs : List ℕ) → writing t ≡ added (record { text = []; rest = old }) xs → t.len ≤ length t.out.now → t.len ≡ length xs
unfolding added
ended_length t old xs e h = sym (length-take-le t.len t.out.now h) ∙ ap (λ (w : Writing). length w.text) e
