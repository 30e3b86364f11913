use Rattle.std.proofs.Common.{arith}
use Rattle.scripts.specs.Line.{in_word}
use Rattle.scripts.specs.PartLaws.{lead_le}
use Rattle.scripts.proofs.words.split_word.Goals as goal

pub split_at-requires : goal.split_at-requires
split_at-requires c = omega (arith, c.word_len.ensures, lead_le in_word c.args.s.now)
