use Rattle.std.proofs.Common.{arith, ap, ◌∙◌, false}
use Rattle.tx_list.specs.Moves.{gets}
use Rattle.session.specs.Sync.{kind, step_of}
use Rattle.session.specs.LentReading.{ended}
use Rattle.helm.specs.declared.stored.Which.TheVariants.{Known}
use Rattle.helm.specs.Stored.{Stored, with_array, session_at}
use Rattle.helm.proofs.reading.end.Goals as goal

pub returns-clause-left : goal.returns-clause-left
returns-clause-left g c =
    let s = g.M.Arrays.stored c.args.memory.now in
    let u = g.M.Arrays.stored c.know_list.new.self in
    let n = c.args.tested.numbers in
    let z = c.sized.ensures in
    let d = ended n.list s.list s.known u.known (omega (arith, z.list, c.args.tested.within.list)) (omega (arith, z.known, c.args.tested.within.list, g.met.M.Arrays.limits_fit.known)) (ap (λ (y : Stored). y.known) c.know_list.ensures) in
    λ st.
    c.got.ensures.left st s.known z.known d.1
    ∙ (λ i. step_of (gets kind (session_at st n (with_array (c.know_list.ensures i) Known s.known)) (d.0 i) false c.args.at.ms))
