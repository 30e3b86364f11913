use Rattle.std.proofs.Common.{refl, sym, ap, ◌∙◌}
use Rattle.std.specs.Prelude.{Bool, Result, Ok, eqb}
use Rattle.helm.specs.declared.words.Refusal.{Refusal}
use Rattle.helm.specs.declared.stored.Numbers.{Numbers}
use Rattle.helm.specs.Stored.{session_in}
use Rattle.helm.specs.Calls.{done_of}
use Rattle.helm.proofs.CallLaws.{formed_by, formed_phase, state_none, state_some, done_by}
use Rattle.helm.proofs.stored.Numbers.is_done.Goals as goal

pub returns-then-not-is_session : goal.returns-then-not-is_session
returns-then-not-is_session c = λ s z.
    ap done_of (state_none c.args.limits s z.fit z.sizes (formed_by z c.is_session.ensures c.if-not-is_session.true))

pub returns : goal.returns
returns c = λ s z.
    let e = formed_by z c.is_session.ensures c.if-not-is_session.false in
    ap {B = Result Bool Refusal} (λ (b : Bool). Ok b)
    (ap (λ (n : Numbers). eqb n.phase 7) (sym z.numbers) ∙ done_by (session_in s) s.numbers refl (formed_phase c.args.limits s z.fit z.sizes e))
    ∙ ap done_of (state_some c.args.limits s z.fit z.sizes e)
