use Rattle.std.proofs.Common.{rules, ◌≡◌, length, ap, ◌∙◌, drop}
use Rattle.std.specs.Prelude.{position}
use Rattle.std.proofs.Common.{tests}
use Rattle.std.proofs.lemmas.Iterator.{YieldsList-from_slice}
use Rattle.std.proofs.lemmas.Iterator.Search.{position_from_yields_List}
use Rattle.std.specs.Option.{unwrap_or}
use Rattle.scripts.specs.Line.{is_blank, in_word}
use Rattle.scripts.specs.PartLaws.{run_end, twice_not, from_place}
use Rattle.scripts.proofs.words.after_blanks.Goals as goal

pub returns : goal.returns
returns c =
    let s = c.args.s.now in
    let e : c.position.result ≡ position in_word s = position_from_yields_List in_word _ _ c.position.result c.position.ensures.ran (YieldsList-from_slice s (cc)) (λ x b q k. search (rules, tests)) in
    from_place s c.unwrap_or-n.result
    ∙ ap (λ n. drop n s) (c.unwrap_or-n.ensures ∙ ap (λ p. unwrap_or p (length s)) e ∙ run_end in_word is_blank (λ b. twice_not (is_blank b)) s)
