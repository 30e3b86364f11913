use Rattle.std.proofs.Common.{rules, sym, ap, ◌∙◌, take, ◌-◌, length, reverse, ℕ}
use Rattle.std.proofs.lemmas.Iterator.Adapters.{YieldsList-from_rev_slice}
use Rattle.std.proofs.lemmas.Iterator.Search.{position_from_yields_List}
use Rattle.std.proofs.lemmas.List.{length-reverse}
use borrow.Author.Tests.{tests}
use Rattle.texts.proofs.StdWords.{stays, found_or_len, last_first}
use Rattle.texts.proofs.trim_end.Goals as goal

pub returns : goal.returns
returns c =
    let s = c.args.s.now in
    let e = position_from_yields_List stays _ _ c.position-white.result c.position-white.ensures.ran (YieldsList-from_rev_slice s (search rules)) (λ x b q k. search (rules, tests)) in
    ap (λ (n : ℕ). take (length s - n) s) (c.unwrap_or.ensures ∙ found_or_len stays (reverse s) _ _ e (sym (length-reverse s))) ∙ last_first s
