-- `lists::whole::below` meets its contract. Assumes nothing.
use Rattle.std.proofs.Common.{ℕ, length, arith, rules, sym, ap, ◌≡◌, ◌∙◌, take, take_all}
use Rattle.lists.proofs.whole.below.Goals as goal

pub returns-clause-value : goal.returns-clause-value
returns-clause-value g c =
    let l = c.args.places.now in
    let e : length l ≡ 255 = search rules in
    ap (λ (n : ℕ). take n l) c.from.ensures ∙ ap (take c.args.size) (sym (take_all 255 l (omega (arith, e))))
