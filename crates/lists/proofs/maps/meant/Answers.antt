-- `lists::maps::meant` meets its contract. Assumes nothing.
use Rattle.std.proofs.Common.{◌∙◌, ap, length, take, min, arith, ◌≡◌}
use Rattle.std.proofs.lemmas.List.{take_min}
use Rattle.lists.proofs.maps.meant.Goals as goal

pub returns-clause-value : goal.returns-clause-value
returns-clause-value c =
    let s = c.args.map.now in
    let e : c.min.result ≡ min 32 (length s) = omega (arith, c.min.ensures) in
    ap (λ n. take n s) e ∙ take_min 32 s
