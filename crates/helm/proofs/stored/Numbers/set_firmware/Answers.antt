use Rattle.std.proofs.Common.{sym, ap, ◌∙◌, true}
use Rattle.session.specs.Sync.{Sync, Begun}
use Rattle.tx_list.specs.Moves.{with_firmware}
use Rattle.helm.specs.declared.stored.Numbers.{Numbers}
use Rattle.helm.specs.Stored.{session_of}
use Rattle.helm.proofs.CallLaws.{formed_by, firmware_unformed, firmware_judged}
use Rattle.helm.proofs.stored.Numbers.set_firmware.Goals as goal

pub returns-then-not-is_session-clause-left : goal.returns-then-not-is_session-clause-left
returns-then-not-is_session-clause-left c = λ s z.
    firmware_unformed c.args.limits s z.fit z.sizes c.args.version (formed_by z c.is_session.ensures c.if-not-is_session.true)

pub returns-clause-left : goal.returns-clause-left
returns-clause-left c = λ s z.
    ap {B = Begun} (λ (x : Sync). record { number = 0; sync = x })
    (c.plain.ensures.held s ∙ c.with_firmware.ensures s ∙ ap (λ (n : Numbers). with_firmware (session_of n s) true c.args.version) (sym z.numbers))
    ∙ firmware_judged c.args.limits s z.fit z.sizes c.args.version (formed_by z c.is_session.ensures c.if-not-is_session.false)
