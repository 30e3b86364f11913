use Rattle.std.proofs.Common.{◌≡◌, true, sym, ◌∙◌, length}
use Rattle.helm.specs.Stored.{rests_on, with_parts}
use Rattle.helm.proofs.CallLaws.{tick_rests}
use Rattle.helm.proofs.HandLaws.{sizes_parted}
use Rattle.helm.proofs.sessions.Session.tick.Goals as goal

pub returns-then-rests-clause-left : goal.returns-then-rests-clause-left
returns-then-rests-clause-left g c =
    let l = g.Self.Arrays.limits in
    let s = g.Self.Arrays.stored c.args.self.now in
    let o = c.args.out.now in
    let e : rests_on l s.numbers c.args.time (length o) ≡ true =
    (λ i. rests_on (sym c.limits.ensures i) (sym c.numbers.ensures i) c.args.time (length o)) ∙ sym c.rests.ensures ∙ c.if-rests.true in
    tick_rests l s g.met.Self.Arrays.limits_fit c.sized.ensures o c.args.time (length o) e

pub returns-then-rests-clause-any_parts : goal.returns-then-rests-clause-any_parts
returns-then-rests-clause-any_parts g c = λ f.
    let l = g.Self.Arrays.limits in
    let s = g.Self.Arrays.stored c.args.self.now in
    let o = c.args.out.now in
    let e : rests_on l s.numbers c.args.time (length o) ≡ true =
    (λ i. rests_on (sym c.limits.ensures i) (sym c.numbers.ensures i) c.args.time (length o)) ∙ sym c.rests.ensures ∙ c.if-rests.true in
    tick_rests l (with_parts s f) g.met.Self.Arrays.limits_fit (sizes_parted f c.sized.ensures) o c.args.time (length o) e
