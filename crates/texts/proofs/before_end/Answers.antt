use Rattle.std.proofs.Common.{rules, refl, ap, ◌∙◌, take, ℕ}
use Rattle.std.proofs.lemmas.Iterator.{YieldsList-from_slice}
use Rattle.std.proofs.lemmas.Iterator.Search.{position_from_yields_List}
use borrow.Author.Tests.{tests}
use Rattle.texts.proofs.StdWords.{ends, found_or_len, cut_first}
use Rattle.texts.proofs.before_end.Goals as goal

pub returns : goal.returns
returns c =
    let d = c.args.d.now in
    let e = position_from_yields_List ends _ _ c.position-end.result c.position-end.ensures.ran (YieldsList-from_slice d c.iter.ensures.rest) (λ x b q k. search (rules, tests)) in
    ap (λ (n : ℕ). take n d) (c.unwrap_or.ensures ∙ found_or_len ends d _ _ e refl) ∙ cut_first d
