-- `lists::whole::is_whole` meets its contract. Assumes nothing.
use Rattle.std.proofs.Common.{rules, tests, ◌≡◌, ◌∙◌, take}
use Rattle.std.proofs.lemmas.Iterator.Search.{all_from_yields_List}
use Rattle.std.proofs.lemmas.Iterator.{YieldsList-from_slice}
use Rattle.std.specs.List.{list_all}
use Rattle.lists.specs.Parts.{Parts, whole}
use Rattle.lists.proofs.PartsProofs.{every_all, whole_unsized}
use Rattle.lists.proofs.whole.is_whole.Goals as goal

pub returns-then-sized : goal.returns-then-sized
unfolding whole
returns-then-sized g c =
    let filled = g.E.Entry.filled in
    let places = take c.args.size (take 255 c.args.places.now) in
    let all : c.all.result ≡ list_all filled places =
    all_from_yields_List filled _ _ c.all.result c.all.ensures.ran (YieldsList-from_slice places (c.iter.ensures.rest ∙ c.below.ensures.value)) (λ x b q k. search (rules, tests)) in
    rw c.if-sized.true (all ∙ every_all filled places)

pub returns-else-sized : goal.returns-else-sized
returns-else-sized g c =
    let p : Parts g.row.E.Denot = record { sized = c.args.sized; size = c.args.size; places = c.args.places.now } in
    c.if-sized.false ∙ whole_unsized g.E.Entry.filled p c.if-sized.false
