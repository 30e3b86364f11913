-- `framing::encode::Parts::wire_len` meets its contract. Assumes nothing.
use Rattle.std.proofs.Common.{◌++◌, length-append, arith}
use Rattle.framing.specs.FrameLaws.{dles_append}
use Rattle.framing.proofs.FrameProofs.{wire_dles}
use Rattle.framing.proofs.encode.Parts.wire_len.Goals as goal

pub returns : goal.returns
returns c =
    omega (
      arith,
      wire_dles c.args.self.now.cmd c.args.self.now.len (c.args.self.now.head.now ++ c.args.self.now.rest.now) c.args.check,
      dles_append c.args.self.now.head.now c.args.self.now.rest.now,
      length-append c.args.self.now.head.now c.args.self.now.rest.now,
    )
