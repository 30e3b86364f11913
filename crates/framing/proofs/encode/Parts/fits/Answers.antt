-- `framing::encode::Parts::fits` meets its contract: no frame is longer than 2 * n + 10. Assumes nothing.
use Rattle.std.proofs.Common.{◌≤◌, ◌++◌, length, le-leb, sym, arith}
use Rattle.framing.specs.Frame.{checked, checksum, covered}
use Rattle.framing.proofs.FrameProofs.{wire_most}
use Rattle.framing.proofs.encode.Parts.fits.Goals as goal

pub returns-then-from-room : goal.returns-then-from-room
returns-then-from-room c =
    let p = c.args.self.now in
    let payload = p.head.now ++ p.rest.now in
    let h : length (checked p.cmd p.len payload) ≤ c.args.room =
    omega (arith, wire_most p.cmd p.len payload (checksum (covered p.cmd payload)), c.from.ensures, p.len_value) in
    sym (le-leb _ _ h)
