-- `next` of a script meets its contract. Assumes nothing.
use Rattle.std.proofs.Common.{◌+◌, ◌≡◌, ◌<◌, arith, refl, ◌∙◌, length, inl, inr}
use Rattle.transcript.specs.Script.{call_size}
use Rattle.transcript.specs.ScriptLaws.{front_none, front_short, front_whole}
use Rattle.transcript.proofs.script.ScriptIterator.next.Goals as goal

pub returns-then-op-eq0-clause-steps : goal.returns-then-op-eq0-clause-steps
returns-then-op-eq0-clause-steps c = (front_none _ _ c.byte_at-op.ensures c.if-op-eq0.true, refl)

pub returns-in_err-body-clause-steps : goal.returns-in_err-body-clause-steps
returns-in_err-body-clause-steps c =
    let s = c.args.self.now.bytes.now in
    let q : length s < 3 + c.from-size.result = elim c.in_err-body.ensures.lookup.0 [ inl h ↦ absurd (omega arith) | inr h ↦ h ] in
    rw c.from_residual.ensures
    (front_short s _ c.from-size.result c.byte_at-op.ensures c.if-op-eq0.false (c.from-size.ensures ∙ c.u16_at.ensures) q, refl)

pub returns-clause-steps : goal.returns-clause-steps
returns-clause-steps c =
    let s = c.args.self.now.bytes.now in
    let e : call_size s 0 ≡ 3 + c.from-size.result =
    front_whole s _ _ c.byte_at-op.ensures c.if-op-eq0.false (c.from-size.ensures ∙ c.u16_at.ensures) c.in_ok-body.ensures.lookup.0.1 in
    record { whole = rw e (omega arith); op = c.byte_at-op.ensures; body = rw (e, c.new.ensures) c.in_ok-body.ensures.lookup.0.2; after = rw e c.rest-self.ensures }
