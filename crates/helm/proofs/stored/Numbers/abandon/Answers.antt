use Rattle.std.proofs.Common.{sym, ap, ◌∙◌}
use Rattle.session.specs.Sync.{Sync, Begun, Stepped}
use Rattle.tx_list.specs.Moves.{gives_up}
use Rattle.helm.specs.declared.stored.Numbers.{Numbers}
use Rattle.helm.specs.Stored.{kind_of, session_in, session_at}
use Rattle.helm.proofs.CallLaws.{formed_by, abandon_unformed, abandon_judged}
use Rattle.helm.proofs.stored.Numbers.abandon.Goals as goal

pub returns-then-not-is_session-clause-left : goal.returns-then-not-is_session-clause-left
returns-then-not-is_session-clause-left c = λ s z. abandon_unformed c.args.limits s z.fit z.sizes (formed_by z c.is_session.ensures c.if-not-is_session.true)

pub returns-clause-left : goal.returns-clause-left
returns-clause-left c = λ s z.
    ap {B = Begun} (λ (x : Sync). record { number = 0; sync = x })
    (c.left.ensures.left s
    ∙ ap (λ (q : Stepped). q.sync) (c.give_up.ensures c.args.limits (session_in s).state s)
    ∙ ap (λ (n : Numbers). (gives_up (kind_of c.args.limits) (session_at (session_in s).state n s)).flat) (sym z.numbers))
    ∙ abandon_judged c.args.limits s z.fit z.sizes (formed_by z c.is_session.ensures c.if-not-is_session.false)
