use Rattle.std.proofs.Common.{rules, refl, ◌∙◌}
use Rattle.std.proofs.lemmas.Iterator.{YieldsList-from_slice}
use Rattle.std.proofs.lemmas.Iterator.Search.{position_from_yields_List}
use borrow.Author.Tests.{tests}
use Rattle.texts.specs.TrimLaws.{rest_is}
use Rattle.texts.proofs.StdWords.{stays, found_or_len, leading_first}
use Rattle.texts.proofs.trim_start.Goals as goal

pub returns : goal.returns
returns c =
    let s = c.args.s.now in
    let e = position_from_yields_List stays _ _ c.position-white.result c.position-white.ensures.ran (YieldsList-from_slice s c.iter.ensures.rest) (λ x b q k. search (rules, tests)) in
    rest_is s _ (c.unwrap_or.ensures ∙ found_or_len stays s _ _ e refl ∙ leading_first s)
