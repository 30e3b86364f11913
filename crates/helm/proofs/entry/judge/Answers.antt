use Rattle.std.proofs.Common.{◌≡◌, ◌<◌, ◌≤◌, true, false, arith, sym, ap, ◌∙◌}
use Rattle.std.proofs.lemmas.Grind.{common_steps}
use Rattle.bounds.specs.declared.Limits.{Limits}
use Rattle.numbers.specs.Layout.{state_of as state_by}
use Rattle.tx_list.specs.Reading.{taken, refuse}
use Rattle.tx_list.specs.Moves.{full_in, heard}
use Rattle.session.specs.Sync.{step_of, wrote_step}
use Rattle.session.proofs.CallLaws.{message_far, message_long, message_small, message_full, message_taken}
use Rattle.helm.specs.declared.stored.Numbers.{Numbers}
use Rattle.helm.specs.Stored.{kind_of, is_well_formed, session_in, session_of}
use Rattle.helm.specs.Steps.{minded}
use Rattle.helm.proofs.HeardLaws.{within}
use Rattle.helm.proofs.CallLaws.{message_unformed, message_judged, message_quiet}
use Rattle.helm.proofs.entry.judge.Goals as goal

pub is_full-requires : goal.is_full-requires
is_full-requires g c =
    let l = g.M.Arrays.limits in
    let s = g.M.Arrays.stored c.args.memory.now in
    let m = c.args.payload.now in
    let e : is_well_formed l s.numbers ≡ true = sym c.is_session.ensures ∙ c.if-not-is_session.false in
    let n : c.numbers-numbers.result ≡ s.numbers = c.numbers-numbers.ensures in
    let w = (within l s.numbers e).list in
    omega (arith, w, ap (λ (x : Numbers). x.list) n, ap (λ (x : Limits). x.list) c.limits.ensures)

pub returns-then-not-is_session : goal.returns-then-not-is_session
returns-then-not-is_session g c =
    let l = g.M.Arrays.limits in
    let s = g.M.Arrays.stored c.args.memory.now in
    let m = c.args.payload.now in
    let e : is_well_formed l s.numbers ≡ false = sym c.is_session.ensures ∙ c.if-not-is_session.true in
    λ o. message_unformed l s g.met.M.Arrays.limits_fit c.sized.ensures o c.args.time m c.args.room e

pub returns-in_default : goal.returns-in_default
returns-in_default g c =
    let l = g.M.Arrays.limits in
    let s = g.M.Arrays.stored c.args.memory.now in
    let m = c.args.payload.now in
    let e : is_well_formed l s.numbers ≡ true = sym c.is_session.ensures ∙ c.if-not-is_session.false in
    let h : 18446744073709541615 < c.args.time = grind (arith, common_steps) in
    λ o. message_judged l s g.met.M.Arrays.limits_fit c.sized.ensures o c.args.time m c.args.room (refuse 13) e (message_far c.args.time m c.args.room (full_in (kind_of l) (session_in s).state (session_in s) m) h)

pub returns-then-payload-gt-MESSAGE_LIMIT : goal.returns-then-payload-gt-MESSAGE_LIMIT
returns-then-payload-gt-MESSAGE_LIMIT g c =
    let l = g.M.Arrays.limits in
    let s = g.M.Arrays.stored c.args.memory.now in
    let m = c.args.payload.now in
    let e : is_well_formed l s.numbers ≡ true = sym c.is_session.ensures ∙ c.if-not-is_session.false in
    let h : c.args.time ≤ 18446744073709541615 = grind (arith, common_steps) in
    λ o. message_judged l s g.met.M.Arrays.limits_fit c.sized.ensures o c.args.time m c.args.room (refuse 6) e (message_long c.args.time m c.args.room (full_in (kind_of l) (session_in s).state (session_in s) m) h c.if-payload-gt-MESSAGE_LIMIT.true)

pub returns-then-room-lt-OUTPUT_ROOM : goal.returns-then-room-lt-OUTPUT_ROOM
returns-then-room-lt-OUTPUT_ROOM g c =
    let l = g.M.Arrays.limits in
    let s = g.M.Arrays.stored c.args.memory.now in
    let m = c.args.payload.now in
    let e : is_well_formed l s.numbers ≡ true = sym c.is_session.ensures ∙ c.if-not-is_session.false in
    let h : c.args.time ≤ 18446744073709541615 = grind (arith, common_steps) in
    λ o. message_judged l s g.met.M.Arrays.limits_fit c.sized.ensures o c.args.time m c.args.room (refuse 7) e (message_small c.args.time m c.args.room (full_in (kind_of l) (session_in s).state (session_in s) m) h c.if-payload-gt-MESSAGE_LIMIT.false c.if-room-lt-OUTPUT_ROOM.true)

pub returns-then-not-minds : goal.returns-then-not-minds
returns-then-not-minds g c =
    let l = g.M.Arrays.limits in
    let s = g.M.Arrays.stored c.args.memory.now in
    let m = c.args.payload.now in
    let e : is_well_formed l s.numbers ≡ true = sym c.is_session.ensures ∙ c.if-not-is_session.false in
    let h : c.args.time ≤ 18446744073709541615 = grind (arith, common_steps) in
    let n : c.numbers-numbers.result ≡ s.numbers = c.numbers-numbers.ensures in
    let d : minded s.numbers m ≡ false = sym (ap (λ (x : Numbers). minded x m) n) ∙ sym c.minds.ensures ∙ c.if-not-minds.true in
    record {
      formed = e;
      minds = d;
      call = λ o. message_quiet l s g.met.M.Arrays.limits_fit c.sized.ensures o c.args.time m c.args.room e h c.if-payload-gt-MESSAGE_LIMIT.false c.if-room-lt-OUTPUT_ROOM.false d;
    }

pub returns-then-is_full : goal.returns-then-is_full
returns-then-is_full g c =
    let l = g.M.Arrays.limits in
    let s = g.M.Arrays.stored c.args.memory.now in
    let m = c.args.payload.now in
    let e : is_well_formed l s.numbers ≡ true = sym c.is_session.ensures ∙ c.if-not-is_session.false in
    let h : c.args.time ≤ 18446744073709541615 = grind (arith, common_steps) in
    let n : c.numbers-numbers.result ≡ s.numbers = c.numbers-numbers.ensures in
    let q : (full_in (kind_of l) (session_in s).state (session_in s) m) ≡ true =
    sym (c.is_full.ensures s ∙ (λ i. full_in (kind_of (c.limits.ensures i)) (state_by (n i).phase (n i).attempt) (session_of (n i) s) m)) ∙ c.if-is_full.true in
    λ o. message_judged l s g.met.M.Arrays.limits_fit c.sized.ensures o c.args.time m c.args.room (refuse 14) e (message_full c.args.time m c.args.room (full_in (kind_of l) (session_in s).state (session_in s) m) h c.if-payload-gt-MESSAGE_LIMIT.false c.if-room-lt-OUTPUT_ROOM.false q)

pub returns : goal.returns
returns g c =
    let l = g.M.Arrays.limits in
    let s = g.M.Arrays.stored c.args.memory.now in
    let m = c.args.payload.now in
    let e : is_well_formed l s.numbers ≡ true = sym c.is_session.ensures ∙ c.if-not-is_session.false in
    let h : c.args.time ≤ 18446744073709541615 = grind (arith, common_steps) in
    let n : c.numbers-numbers.result ≡ s.numbers = c.numbers-numbers.ensures in
    let a : c.in-Some.at.ms ≡ c.args.time = c.in-Some.ensures.value in
    let q : (full_in (kind_of l) (session_in s).state (session_in s) m) ≡ false =
    sym (c.is_full.ensures s ∙ (λ i. full_in (kind_of (c.limits.ensures i)) (state_by (n i).phase (n i).attempt) (session_of (n i) s) m)) ∙ c.if-is_full.false in
    record {
      formed = e;
      minds = sym (ap (λ (x : Numbers). minded x m) n) ∙ sym c.minds.ensures ∙ c.if-not-minds.false;
      list = q;
      fits = c.if-room-lt-OUTPUT_ROOM.false;
      call = λ o.
          (λ i. wrote_step (step_of (heard (kind_of l) (session_in s).state (session_in s) (a i) m)) o)
          ∙ message_judged l s g.met.M.Arrays.limits_fit c.sized.ensures o c.args.time m c.args.room taken e (message_taken c.args.time m c.args.room (full_in (kind_of l) (session_in s).state (session_in s) m) h c.if-payload-gt-MESSAGE_LIMIT.false c.if-room-lt-OUTPUT_ROOM.false q);
    }
