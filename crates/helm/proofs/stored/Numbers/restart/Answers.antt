use Rattle.std.proofs.Common.{sym, ap, ◌∙◌}
use Rattle.bounds.specs.Bounds.{old_fits}
use Rattle.session.specs.Sync.{Sync, Begun}
use Rattle.tx_list.specs.Moves.{starts_over}
use Rattle.helm.specs.declared.stored.Numbers.{Numbers}
use Rattle.helm.specs.Stored.{kind_of, counts_of, session_of}
use Rattle.helm.proofs.CallLaws.{formed_by, restart_unformed, restart_over, restart_judged}
use Rattle.helm.proofs.stored.Numbers.restart.Goals as goal

pub returns-then-not-is_session-clause-left : goal.returns-then-not-is_session-clause-left
returns-then-not-is_session-clause-left c = λ s z. restart_unformed c.args.limits s z.fit z.sizes (formed_by z c.is_session.ensures c.if-not-is_session.true)

pub returns-then-not-has_old_record-clause-left : goal.returns-then-not-has_old_record-clause-left
returns-then-not-has_old_record-clause-left c = λ s z.
    restart_over c.args.limits s z.fit z.sizes (formed_by z c.is_session.ensures c.if-not-is_session.false)
    (ap (λ (n : Numbers). old_fits (counts_of n)) z.numbers ∙ sym c.has_old_record.ensures ∙ c.if-not-has_old_record.true)

pub returns-clause-left : goal.returns-clause-left
returns-clause-left c = λ s z.
    ap {B = Begun} (λ (x : Sync). record { number = 0; sync = x })
    (c.plain.ensures.held s ∙ c.started_over.ensures c.args.limits s ∙ ap (λ (n : Numbers). starts_over (kind_of c.args.limits) (session_of n s)) (sym z.numbers))
    ∙ restart_judged c.args.limits s z.fit z.sizes (formed_by z c.is_session.ensures c.if-not-is_session.false)
    (ap (λ (n : Numbers). old_fits (counts_of n)) z.numbers ∙ sym c.has_old_record.ensures ∙ c.if-not-has_old_record.false)
