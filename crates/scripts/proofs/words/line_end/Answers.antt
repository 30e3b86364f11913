use Rattle.std.proofs.Common.{rules, ◌≡◌, length, refl, ap, ◌∙◌}
use Rattle.std.specs.Prelude.{position, eqb}
use Rattle.std.proofs.Common.{tests}
use Rattle.std.proofs.lemmas.Iterator.{YieldsList-from_slice}
use Rattle.std.proofs.lemmas.Iterator.Search.{position_from_yields_List}
use Rattle.std.specs.Option.{unwrap_or}
use Rattle.scripts.specs.Line.{in_line}
use Rattle.scripts.specs.PartLaws.{run_end}
use Rattle.scripts.proofs.words.line_end.Goals as goal

pub returns : goal.returns
returns c =
    let s = c.args.s.now in
    let e : c.position.result ≡ position (λ b. eqb b 10) s = position_from_yields_List (λ b. eqb b 10) _ _ c.position.result c.position.ensures.ran (YieldsList-from_slice s (cc)) (λ x b q k. search (rules, tests)) in
    c.unwrap_or.ensures ∙ ap (λ p. unwrap_or p (length s)) e ∙ run_end (λ b. eqb b 10) in_line (λ b. refl) s
