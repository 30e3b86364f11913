-- `lists::parts::resize` meets its contract. Assumes nothing.
use Rattle.std.proofs.Common.{rules, tests, length, ◌≡◌, ap, ◌∙◌, replicate, true, false, ◌&&◌, ◌==◌}
use Rattle.lists.specs.Parts.{Parts}
use Rattle.lists.specs.PartsLaws.{resized_same, resized_new}
use Rattle.lists.proofs.PartsProofs.{filled_with}
use Rattle.lists.proofs.parts.resize.Goals as goal
use Rattle.lists.proofs.parts.resize.Goals.{else-sized-via-then-sized+else-size-told, else-sized-via-else-sized}

pub returns-then-size-told : goal.returns-then-size-told
returns-then-size-told g c =
    let p : Parts g.row.E.Denot = record { sized = c.args.sized.now; size = c.args.size.now; places = c.args.places.now } in
    let both : (c.args.sized.now && c.args.size.now == c.args.told) ≡ true = search (rules, tests) in
    resized_same g.E.Entry.blank c.args.told p both

pub returns : goal.returns
returns g c =
    let p : Parts g.row.E.Denot = record { sized = c.args.sized.now; size = c.args.size.now; places = c.args.places.now } in
    let blank = g.E.Entry.blank in
    let l : length c.args.places.now ≡ 255 = search rules in
    let e : c.fill_with.new.self ≡ replicate 255 blank =
    filled_with _ blank (λ p x q r. search (rules, tests)) c.fill_with.new.self _ _ c.fill_with.ensures.ran.1 ∙ ap (λ n. replicate n blank) (c.fill_with.ensures.len ∙ l) in
    let other : (c.args.sized.now && c.args.size.now == c.args.told) ≡ false =
    elim c.else-sized.branch [ else-sized-via-then-sized+else-size-told w ↦ search (rules, tests) | else-sized-via-else-sized w ↦ search (rules, tests) ] in
    rw e (resized_new blank c.args.told p other)
