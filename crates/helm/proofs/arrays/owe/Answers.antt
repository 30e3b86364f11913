use Rattle.std.proofs.Common.{arith, ap, ◌∙◌, ℕ, [], take, length-take-le}
use Rattle.tx_list.proofs.Lists.{owed_length}
use Rattle.helm.specs.declared.stored.Which.TheVariants.{Owed}
use Rattle.helm.specs.Stored.{with_array}
use Rattle.helm.specs.Arrays.{owed_by}
use Rattle.helm.proofs.ListLaws.{owed_all}
use Rattle.helm.proofs.arrays.owe.Goals as goal

pub returns-clause-most : goal.returns-clause-most
returns-clause-most g c =
    let s = g.M.Arrays.stored c.args.memory.now in
    let w = c.args.wanted in
    let o = owed_by w c.args.list c.args.present c.args.refused s in
    let e = owed_all s.owed o w (omega (arith, c.sized.ensures.owed, c.requires)) c.owe.ensures.value in
    omega
    (arith, e.0, length-take-le w s.wanted (omega (arith, c.sized.ensures.wanted, c.requires)), owed_length (λ (x : ℕ). x) (take w s.wanted) (take c.args.list s.known) (record { saved = []; present = take c.args.present s.present; refused = take c.args.refused s.refused }))

pub returns-clause-value : goal.returns-clause-value
returns-clause-value g c =
    let s = g.M.Arrays.stored c.args.memory.now in
    (owed_all s.owed (owed_by c.args.wanted c.args.list c.args.present c.args.refused s) c.args.wanted (omega (arith, c.sized.ensures.owed, c.requires)) c.owe.ensures.value).0

pub returns-clause-owed : goal.returns-clause-owed
returns-clause-owed g c =
    let s = g.M.Arrays.stored c.args.memory.now in
    c.owe.ensures.owed
    ∙ ap (with_array s Owed) (owed_all s.owed (owed_by c.args.wanted c.args.list c.args.present c.args.refused s) c.args.wanted (omega (arith, c.sized.ensures.owed, c.requires)) c.owe.ensures.value).1
