-- `pgns::append` meets its contract. Assumes nothing.
use Rattle.std.proofs.Common.{◌≡◌, ◌≤◌, ◌+◌, ◌-◌, arith, ap, sym, ◌∙◌, length, take, length-take}
use Rattle.std.proofs.lemmas.List.Edits.{sets}
use Rattle.pgns.specs.Turns.{sets_past}
use Rattle.pgns.proofs.Chains.{sets_part, sets_fitting}
use Rattle.pgns.proofs.append.Goals as goal

pub returns-then-dst-at : goal.returns-then-dst-at
returns-then-dst-at c = sym (sets_past (take c.args.n c.args.src.now) c.args.dst.now c.args.at c.if-dst-at.true)

pub returns : goal.returns
returns c =
    let a = c.args in
    let d = a.dst.now in
    let room = length d - a.at in
    let src = take a.n a.src.now in
    let fitting : c.first-fitting.result.now ≡ take room src =
    c.first-fitting.ensures ∙ ap (take room) c.first.ensures in
    let few : length c.first-fitting.result.now ≤ room = omega (arith, ap length fitting, length-take room src) in
    let m : a.at + length c.first-fitting.result.now - a.at ≡ length c.first-fitting.result.now = omega arith in
    sets_part d c.first-fitting.result.now c.copy_from_slice.new.self a.at _ (omega (arith, few, c.if-dst-at.false)) m c.copy_from_slice.ensures.after
    ∙ ap (sets d a.at) fitting
    ∙ sets_fitting d src a.at (omega (arith, c.if-dst-at.false))
