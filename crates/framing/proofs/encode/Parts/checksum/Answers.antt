-- `framing::encode::Parts::checksum` meets its contract. Assumes nothing.
use Rattle.std.proofs.Common.{refl, ◌++◌}
use Rattle.framing.specs.FrameLaws.{closes, checksum_wrapped, sum_parts}
use Rattle.framing.proofs.encode.Parts.checksum.Goals as goal

pub returns : goal.returns
returns c =
    checksum_wrapped c.args.self.now.cmd (c.args.self.now.head.now ++ c.args.self.now.rest.now)
    (rw (← c.args.self.now.len_value) refl)
    (sum_parts c.args.self.now.head.now c.args.self.now.rest.now c.checksum_of.ensures c.checksum_of-2.ensures refl)
    refl
    (closes _ _ c.closing_byte.ensures).0
    (closes _ _ c.closing_byte.ensures).1
