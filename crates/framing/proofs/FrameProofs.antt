-- Laws of the wire format: stuffed bytes, and the length of a frame. They rest on `stuffed`, which a must-fail edit changes (counts of
-- DLE, sums, checksums and the body: specs/FrameLaws.antt). Assumes nothing.
use Rattle.std.specs.Prelude.{◌≡◌, ℕ, suc, ◌+◌, ◌*◌, ◌<◌, ◌≤◌, Bool, true, false, List, [], ◌∷◌, ◌++◌, length, take, drop, ◌==◌, ◌≢◌, slice_index, refl}
use Rattle.std.proofs.Common.{add-one, arith, ap, sym, ◌∙◌, append_assoc, append-nil, eq-eqb, ne_eqb, length-append, take-append-drop, take-suc}
use Rattle.field.specs.Pick.{pick}
use Rattle.framing.specs.Frame.{stuffed, stuff, dles, covered, checksum, body, framed, frame, wire}

pub stuffed_dle : (b : ℕ) → b ≡ 0x10 → stuffed b ≡ b ∷ b ∷ []
unfolding stuffed
stuffed_dle b e = simp (eq-eqb b 0x10 e)

pub stuffed_other : (b : ℕ) → (b ≢ 0x10) → stuffed b ≡ b ∷ []
unfolding stuffed
stuffed_other b e = simp (ne_eqb b 0x10 e)

-- a byte takes one or two bytes on the wire
pub stuffed_bounds : (b : ℕ) → (1 ≤ length (stuffed b)) × (length (stuffed b) ≤ 2)
unfolding stuffed
stuffed_bounds b = go (b == 0x10)
  where
    go : (t : Bool) → (1 ≤ length (pick t (b ∷ b ∷ []) (b ∷ []))) × (length (pick t (b ∷ b ∷ []) (b ∷ [])) ≤ 2)
    go true = omega arith
    go false = omega arith

pub stuff_append : (xs ys : List ℕ) → stuff (xs ++ ys) ≡ stuff xs ++ stuff ys
unfolding stuff
stuff_append [] ys = refl
stuff_append (x ∷ xs) ys = ap (λ (l : List ℕ). stuffed x ++ l) (stuff_append xs ys) ∙ sym (append_assoc (stuffed x) (stuff xs) (stuff ys))

pub stuff_one : (b : ℕ) → stuff (b ∷ []) ≡ stuffed b
unfolding stuff
stuff_one b = append-nil (stuffed b)

-- the wire bytes of one byte more
pub stuff_take : (s : List ℕ) (i : ℕ) → i < length s → stuff (take (i + 1) s) ≡ stuff (take i s) ++ stuffed (slice_index s i)
stuff_take s i h = rw (add-one, take-suc s i 0, stuff_append, stuff_one)

pub stuff_length : (s : List ℕ) → length (stuff s) ≤ 2 * length s
unfolding stuff
stuff_length [] = omega arith
stuff_length (x ∷ xs) = simp length-append (omega (arith, stuffed_bounds x, stuff_length xs))

-- each DLE takes one byte more
pub stuff_dles : (s : List ℕ) → length (stuff s) ≡ length s + dles s
unfolding stuff dles stuffed
stuff_dles [] = refl
stuff_dles (x ∷ xs) = simp length-append (go (x == 0x10) (stuff_dles xs))
  where
    go : (t : Bool) → length (stuff xs) ≡ length xs + dles xs
        → length (pick t (x ∷ x ∷ []) (x ∷ [])) + length (stuff xs) ≡ suc (length xs) + (pick t 1 0 + dles xs)
    go true e = omega arith
    go false e = omega arith

-- the frame of a message, by its parts
pub frame_wire : (cmd : ℕ) (payload : List ℕ) → frame cmd payload ≡ wire cmd (length payload) payload (checksum (covered cmd payload))
unfolding frame framed body wire covered stuff
frame_wire cmd payload = simp (stuff_append, append_assoc, append-nil)

-- a frame is four bytes, the body's bytes, and one more for each DLE of the body
pub frame_length : (cmd : ℕ) (payload : List ℕ) → length (frame cmd payload) ≡ 4 + length (body cmd payload) + dles (body cmd payload)
unfolding frame framed
frame_length cmd payload = simp length-append (omega (arith, stuff_dles (body cmd payload)))

-- the wire bytes of a first part are no more than those of the whole
pub stuff_part : (s : List ℕ) (i : ℕ) → length (stuff (take i s)) ≤ length (stuff s)
stuff_part s i =
    let e : length (stuff (take i s)) + length (stuff (drop i s)) ≡ length (stuff s) = rw (← length-append, ← stuff_append, take-append-drop) in
    omega arith

pub stuff_room : (s : List ℕ) (i : ℕ) → i < length s → length (stuff (take i s)) + length (stuffed (slice_index s i)) ≤ length (stuff s)
stuff_room s i h = omega (arith, rw (stuff_take, length-append) at (stuff_part s (i + 1)))

-- the length of a frame by its parts
pub wire_length : (cmd len : ℕ) (payload : List ℕ) (check : ℕ)
    → length (wire cmd len payload check) ≡ 4 + length (stuffed cmd) + length (stuffed len) + length (stuff payload) + length (stuffed check)
unfolding wire
wire_length cmd len payload check = simp length-append (omega arith)

-- the same by the DLEs of the parts
pub wire_dles : (cmd len : ℕ) (payload : List ℕ) (check : ℕ)
    → length (wire cmd len payload check) ≡ 7 + length payload + dles payload + (dles (cmd ∷ []) + dles (len ∷ []) + dles (check ∷ []))
wire_dles cmd len payload check =
    omega (arith, wire_length cmd len payload check, one cmd, one len, one check, stuff_dles payload)
  where
    one : (b : ℕ) → length (stuffed b) ≡ 1 + dles (b ∷ [])
    one b = ap length (sym (stuff_one b)) ∙ stuff_dles (b ∷ [])

-- no frame is longer than this
pub wire_most : (cmd len : ℕ) (payload : List ℕ) (check : ℕ) → length (wire cmd len payload check) ≤ 2 * length payload + 10
wire_most cmd len payload check =
    omega (arith, wire_length cmd len payload check, stuffed_bounds cmd, stuffed_bounds len, stuffed_bounds check, stuff_length payload)

-- no frame is shorter than this
pub wire_least : (cmd len : ℕ) (payload : List ℕ) (check : ℕ) → length payload + 7 ≤ length (wire cmd len payload check)
wire_least cmd len payload check =
    omega (arith, wire_length cmd len payload check, stuffed_bounds cmd, stuffed_bounds len, stuffed_bounds check, stuff_dles payload)
