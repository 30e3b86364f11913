use Rattle.std.proofs.Common.{◌≤◌, ◌+◌, ℕ, arith, ap, ◌∙◌, length}
use Rattle.helm.specs.Steps.{asked_none, asked_some}
use Rattle.helm.proofs.ReadLaws.{got_none, got_some, by_count}
use Rattle.helm.proofs.reading.got.Goals as goal

pub returns-clause-left : goal.returns-clause-left
returns-clause-left g c = λ st k z q.
    let s = g.M.Arrays.stored c.args.memory.now in
    let u = g.M.Arrays.stored c.note_present-known.new.memory in
    let v = g.M.Arrays.stored c.owe-owed.new.memory in
    let n = c.args.tested.numbers in
    let f = λ (x : ℕ). record n { read = 1; complete = x; known = c.note_present-known.result } in
    let within : c.args.count ≤ length s.known = omega (arith, c.sized.ensures.known, c.requires) in
    let room : c.args.count + n.present ≤ length k = omega (arith, z, c.requires, c.args.tested.within.present) in
    let wide : n.wanted ≤ length s.owed = omega (arith, c.sized.ensures.owed, c.args.tested.within.wanted) in
    by_count c.owe-owed.result
    (λ e.
    c.ask.ensures.none e
    ∙ ap (λ (x : ℕ). asked_none (f x) c.args.at.ms v) c.flag.ensures
    ∙ got_none st n s u v k c.args.count c.note_present-known.result c.owe-owed.result c.args.at.ms c.args.complete c.note_present-known.ensures.known c.note_present-known.ensures.value c.owe-owed.ensures.owed c.owe-owed.ensures.value q within room wide e)
    (λ e.
    c.ask.ensures.some e
    ∙ ap (λ (x : ℕ). asked_some (f x) c.owe-owed.result c.args.at.ms v) c.flag.ensures
    ∙ got_some st n s u v k c.args.count c.note_present-known.result c.owe-owed.result c.args.at.ms c.args.complete c.note_present-known.ensures.known c.note_present-known.ensures.value c.owe-owed.ensures.owed c.owe-owed.ensures.value q within room wide e)
