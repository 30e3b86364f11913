use Rattle.std.proofs.Common.{◌≡◌, not, arith, sym, ap, ◌∙◌}
use Rattle.std.proofs.lemmas.Grind.{common_steps}
use Rattle.helm.specs.declared.stored.Numbers.{Numbers}
use Rattle.helm.specs.Stored.{is_well_formed}
use Rattle.helm.specs.Calls.{ignored_at}
use Rattle.helm.proofs.CallLaws.{ignored_quiet}
use Rattle.helm.proofs.stored.Numbers.ignores.Goals as goal

pub returns-then-room-ge-OUTPUT_ROOM-clause-quiet : goal.returns-then-room-ge-OUTPUT_ROOM-clause-quiet
returns-then-room-ge-OUTPUT_ROOM-clause-quiet c p s out z =
    let l = c.args.limits in
    let n = c.args.self in
    let m = c.args.payload.now in
    let f : c.is_session.result ≡ is_well_formed l n = c.is_session.ensures z.fit in
    let v : not c.minds.result ≡ ignored_at l n c.args.time m c.args.room = grind (arith, common_steps) in
    ignored_quiet l s z.fit z.sizes out c.args.time m c.args.room
    (ap (λ (n : Numbers). ignored_at l n c.args.time m c.args.room) z.numbers ∙ sym v ∙ p)
