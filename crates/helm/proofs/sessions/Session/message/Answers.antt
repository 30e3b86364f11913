use Rattle.std.proofs.Common.{◌≡◌, true, sym, ◌∙◌, length}
use Rattle.helm.specs.Stored.{ignores_on}
use Rattle.helm.proofs.CallLaws.{message_ignored}
use Rattle.helm.proofs.HandLaws.{hand_ignored}
use Rattle.helm.proofs.sessions.Session.message.Goals as goal

pub returns-then-skips-clause-left : goal.returns-then-skips-clause-left
returns-then-skips-clause-left g c =
    let l = g.Self.Arrays.limits in
    let s = g.Self.Arrays.stored c.args.self.now in
    let o = c.args.out.now in
    let m = c.args.payload.now in
    let e : ignores_on l s.numbers c.args.time m (length o) ≡ true =
    (λ i. ignores_on (sym c.limits.ensures i) (sym c.numbers.ensures i) c.args.time m (length o)) ∙ sym c.skips.ensures ∙ c.if-skips.true in
    message_ignored l s g.met.Self.Arrays.limits_fit c.sized.ensures o c.args.time m (length o) e

pub returns-then-skips-clause-hand : goal.returns-then-skips-clause-hand
returns-then-skips-clause-hand g c =
    let s = g.Self.Arrays.stored c.args.self.now in
    let o = c.args.out.now in
    let m = c.args.payload.now in
    hand_ignored g.Self.Arrays.limits s c.args.time m (length o)
    ((λ i. ignores_on (sym c.limits.ensures i) (sym c.numbers.ensures i) c.args.time m (length o)) ∙ sym c.skips.ensures ∙ c.if-skips.true)
