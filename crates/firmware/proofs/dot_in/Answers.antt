use Rattle.std.proofs.Common.{rules}
use Rattle.std.proofs.lemmas.Iterator.{YieldsList-from_slice}
use Rattle.std.proofs.lemmas.Iterator.Search.{position_from_yields_List}
use borrow.Author.Tests.{tests}
use Rattle.firmware.proofs.StdWords.{is_dot, dot_found}
use Rattle.firmware.proofs.dot_in.Goals as goal

pub returns : goal.returns
returns c =
    let w = c.args.w.now in
    dot_found w c.position.result (position_from_yields_List is_dot _ _ c.position.result c.position.ensures.ran (YieldsList-from_slice w c.iter.ensures.rest) (λ x b q k. search (rules, tests)))
