use Rattle.std.proofs.Common.{◌<◌, ◌≤◌, arith, sym, ap, ◌∙◌, length}
use Rattle.std.proofs.lemmas.Grind.{common_steps}
use Rattle.tx_list.specs.Reading.{taken, refuse}
use Rattle.tx_list.specs.Moves.{ticked}
use Rattle.session.specs.Sync.{Stepped, step_of, wrote_step}
use Rattle.session.proofs.CallLaws.{tick_far, tick_small, tick_taken}
use Rattle.helm.specs.Stored.{kind_of, session_of}
use Rattle.helm.proofs.CallLaws.{formed_by, tick_unformed, tick_judged}
use Rattle.helm.proofs.stored.Numbers.tick.Goals as goal

pub returns-then-not-is_session-clause-left : goal.returns-then-not-is_session-clause-left
returns-then-not-is_session-clause-left c = λ s z.
    let o = c.args.out.now in
    tick_unformed c.args.limits s z.fit z.sizes o c.args.time (length o) (formed_by z c.is_session.ensures c.if-not-is_session.true)

pub returns-in_default-clause-left : goal.returns-in_default-clause-left
returns-in_default-clause-left c = λ s z.
    let o = c.args.out.now in
    let h : 18446744073709541615 < c.args.time = grind (arith, common_steps) in
    tick_judged c.args.limits s z.fit z.sizes o c.args.time (length o) (refuse 13) (formed_by z c.is_session.ensures c.if-not-is_session.false)
    (tick_far c.args.time (length o) h)

pub returns-then-out-lt-OUTPUT_ROOM-clause-left : goal.returns-then-out-lt-OUTPUT_ROOM-clause-left
returns-then-out-lt-OUTPUT_ROOM-clause-left c = λ s z.
    let o = c.args.out.now in
    let h : c.args.time ≤ 18446744073709541615 = grind (arith, common_steps) in
    tick_judged c.args.limits s z.fit z.sizes o c.args.time (length o) (refuse 7) (formed_by z c.is_session.ensures c.if-not-is_session.false)
    (tick_small c.args.time (length o) h (omega arith))

pub returns-clause-left : goal.returns-clause-left
returns-clause-left c = λ s z.
    let o = c.args.out.now in
    let h : c.args.time ≤ 18446744073709541615 = grind (arith, common_steps) in
    (λ i. record { number = 0; count = c.write_sent-count.ensures.0 i; sync = c.left.ensures.left s i; out = c.write_sent-count.ensures.1 i })
    ∙ ap (λ (x : Stepped). wrote_step x o) (c.ticked-step.ensures s)
    ∙ (λ i. wrote_step (step_of (ticked (kind_of c.args.limits) (session_of (sym z.numbers i) s) (c.in-Some.ensures.value i))) o)
    ∙ tick_judged c.args.limits s z.fit z.sizes o c.args.time (length o) taken (formed_by z c.is_session.ensures c.if-not-is_session.false)
    (tick_taken c.args.time (length o) h (omega arith))
