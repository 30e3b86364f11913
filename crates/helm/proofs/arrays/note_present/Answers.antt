use Rattle.std.proofs.Common.{◌≤◌, ◌+◌, arith, ap, ◌∙◌, take, length, length-take-le}
use Rattle.tx_list.proofs.Lists.{notes_length}
use Rattle.helm.specs.declared.stored.Which.TheVariants.{Known}
use Rattle.helm.specs.Stored.{with_array}
use Rattle.helm.proofs.ListLaws.{noted_all}
use Rattle.helm.proofs.arrays.note_present.Goals as goal

pub returns-clause-most : goal.returns-clause-most
returns-clause-most g c =
    let s = g.M.Arrays.stored c.args.memory.now in
    let n = c.args.count in
    let m = c.args.present in
    let h : n + m ≤ length s.known = omega (arith, c.sized.ensures.known, c.requires.room) in
    omega
    (arith, (noted_all s.known s.present n m h c.note_present.ensures.value).0, c.requires.room, notes_length (take n s.known) (take m s.present), length-take-le n s.known (omega (arith, h)), length-take-le m s.present (omega (arith, c.sized.ensures.present, c.requires.within)))

pub returns-clause-value : goal.returns-clause-value
returns-clause-value g c =
    let s = g.M.Arrays.stored c.args.memory.now in
    (noted_all s.known s.present c.args.count c.args.present (omega (arith, c.sized.ensures.known, c.requires.room)) c.note_present.ensures.value).0

pub returns-clause-known : goal.returns-clause-known
returns-clause-known g c =
    let s = g.M.Arrays.stored c.args.memory.now in
    c.note_present.ensures.known
    ∙ ap (with_array s Known) (noted_all s.known s.present c.args.count c.args.present (omega (arith, c.sized.ensures.known, c.requires.room)) c.note_present.ensures.value).1
