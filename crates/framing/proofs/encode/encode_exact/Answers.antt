-- `framing::encode::encode_exact` meets its contract. Assumes nothing.
use Rattle.std.proofs.Common.{◌≡◌, ℕ, ◌+◌, ◌-◌, ◌≤◌, ◌<◌, List, ◌++◌, length, length-append, sym, ap, ◌∙◌, arith}
use Rattle.field.specs.Puts.{Puts}
use Rattle.field.specs.Tests.{le_said, lt_said}
use Rattle.framing.specs.Frame.{frame, checked, wire, checksum, covered}
use Rattle.framing.proofs.FrameProofs.{frame_wire, wire_least}
use Rattle.framing.specs.Encode.{wrote}
use Rattle.framing.proofs.EncodeProofs.{encoded_by, encoded_6, encoded_7}
use Rattle.framing.proofs.encode.encode_exact.Goals as goal

-- a payload in two parts, and its length as the code adds it up
module _ (cmd len : ℕ) (head rest : List ℕ) where
  -- what is written by its parts is the frame
  whole : len ≡ length head + length rest → frame cmd (head ++ rest) ≡ checked cmd len (head ++ rest)
  whole e =
      frame_wire cmd (head ++ rest)
      ∙ ap (λ (n : ℕ). wire cmd n (head ++ rest) (checksum (covered cmd (head ++ rest)))) (length-append head rest ∙ sym e)

  -- the frame is longer than what is taken from its length
  least : (out o : List ℕ) (n : ℕ) → Puts out 0 (checked cmd len (head ++ rest)) o n → length head + length rest + 7 ≤ n
  least out o n p = omega (arith, length-append head rest, wire_least cmd len (head ++ rest) (checksum (covered cmd (head ++ rest))), p.after)

pub returns-in_default : goal.returns-in_default
returns-in_default c =
    let n : 256 ≤ length c.args.head.now + length c.args.rest.now = omega (arith, c.in_default.ensures) in
    sym (encoded_6 _ _ _ (omega (arith, n, length-append c.args.head.now c.args.rest.now)))

pub returns-then-not-fits : goal.returns-then-not-fits
returns-then-not-fits c =
    let cmd = c.args.cmd in
    let head = c.args.head.now in
    let rest = c.args.rest.now in
    let w = whole cmd c.in-Ok.len head rest c.in-Ok.ensures.1 in
    let f : length c.args.out.now < length (checked cmd c.in-Ok.len (head ++ rest)) = lt_said _ _ c.fits.ensures c.if-not-fits.true in
    sym (encoded_7 _ _ _ (omega (arith, c.in-Ok.ensures.0, length-append head rest)) (omega (arith, ap length w, f)))

pub overflow_sub-result : goal.overflow_sub-result
overflow_sub-result c = omega (arith, least c.args.cmd c.in-Ok.len c.args.head.now c.args.rest.now _ _ _ c.write-count.ensures)

pub overflow_sub-result-2 : goal.overflow_sub-result-2
overflow_sub-result-2 c = omega (arith, least c.args.cmd c.in-Ok.len c.args.head.now c.args.rest.now _ _ _ c.write-count.ensures)

pub returns : goal.returns
returns c =
    let cmd = c.args.cmd in
    let head = c.args.head.now in
    let rest = c.args.rest.now in
    let w = whole cmd c.in-Ok.len head rest c.in-Ok.ensures.1 in
    let f : length (checked cmd c.in-Ok.len (head ++ rest)) ≤ length c.args.out.now = le_said _ _ c.fits.ensures c.if-not-fits.false in
    ap (λ (n : ℕ). wrote c.write-count.result (c.write-count.result - n - 7) c.write-count.new.out) (sym (length-append head rest))
    ∙ encoded_by cmd (head ++ rest) c.args.out.now _ (omega (arith, c.in-Ok.ensures.0, length-append head rest)) (omega (arith, ap length w, f)) w c.write-count.ensures
