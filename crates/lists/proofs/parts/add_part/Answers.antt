-- `lists::parts::add_part` meets its contract. Assumes nothing.
use Rattle.std.proofs.Common.{arith, ◌≡◌, ◌+◌, get_or, set, refl, ap, ap₂, ◌∙◌}
use lib.Seq.{sets}
use Rattle.lists.specs.Parts.{Parts, entries_from}
use Rattle.lists.specs.PartsLaws.{place_next, part_filled}
use Rattle.lists.proofs.parts.add_part.Goals as goal

pub loop-i-init : goal.loop-i-init
unfolding entries_from
loop-i-init g c = refl

pub loop-i-preserved : goal.loop-i-preserved
loop-i-preserved g c =
    ap₂ (λ l x. set l (c.from-first.result + c.loop-i.i) x) c.loop-i.invariant c.read.ensures
    ∙ place_next (g.E.Entry.entry_at c.args.reply.now) c.resize.new.places c.from-first.result (c.args.at + 3) c.loop-i.i

pub returns : goal.returns
returns g c =
    let d = c.args.reply.now in
    let at = c.args.at in
    let entry_at = g.E.Entry.entry_at d in
    let p : Parts g.row.E.Denot = record { sized = c.args.sized.now; size = c.args.size.now; places = c.args.places.now } in
    let q : Parts g.row.E.Denot = record { sized = c.resize.new.sized; size = c.resize.new.size; places = c.resize.new.places } in
    let n : c.loop-i.i ≡ c.entries_read-i-end.result = omega arith in
    let e : c.loop-i.places ≡ sets c.resize.new.places (get_or d (at + 1) 0) (entries_from entry_at (at + 3) c.entries_read-i-end.result) =
    c.loop-i.invariant ∙ ap₂ (λ first k. sets c.resize.new.places first (entries_from entry_at (at + 3) k)) c.from-first.ensures n in
    ap (λ l. record { sized = c.resize.new.sized; size = c.resize.new.size; places = l }) e
    ∙ part_filled g.E.Entry.blank entry_at d at c.entries_read-i-end.result p q c.entries_read-i-end.ensures c.resize.ensures
