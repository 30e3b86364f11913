use Rattle.std.proofs.Common.{◌≡◌, ◌≤◌, ◌&&◌, true, not, arith, leb, le-leb, sym, ◌∙◌, ap}
use Rattle.std.proofs.lemmas.Grind.{common_steps}
use Rattle.numbers.specs.Layout.{due_in}
use Rattle.helm.specs.declared.stored.Numbers.{Numbers}
use Rattle.helm.specs.Stored.{is_well_formed}
use Rattle.helm.specs.Calls.{idle_at}
use Rattle.helm.proofs.CallLaws.{idle_quiet}
use Rattle.helm.proofs.stored.Numbers.is_idle.Goals as goal

pub returns-clause-quiet : goal.returns-clause-quiet
returns-clause-quiet c p s out z =
    let n = c.args.self in
    let f : is_well_formed c.args.limits n ≡ true = sym (c.is_session.ensures z.fit) ∙ c.if-not-is_session.false in
    let g : c.args.time ≤ 18446744073709541615 = grind (arith, common_steps) in
    let h : leb c.args.time 18446744073709541615 ≡ true = le-leb c.args.time 18446744073709541615 g in
    let d : due_in n.phase n.due c.args.time ≡ c.is_due.result = ap (due_in n.phase n.due) (sym c.in-Some.ensures.value) ∙ sym c.is_due.ensures in
    let v : idle_at c.args.limits n c.args.time c.args.room ≡ (leb 32 c.args.room && not c.is_due.result) = λ i. f i && (h i && (leb 32 c.args.room && not (d i))) in
    idle_quiet c.args.limits s z.fit z.sizes out c.args.time c.args.room (ap (λ (n : Numbers). idle_at c.args.limits n c.args.time c.args.room) z.numbers ∙ v ∙ p)
