-- `framing::decode::Admitted::take` meets its contract: the phase decides, and then the byte. Assumes nothing.
use Rattle.std.proofs.Common.{◌≡◌, ℕ, ◌≤◌, List, length, sym, ap, ◌∙◌, arith}
use Rattle.std.specs.Prelude.{Option, Ok}
use Rattle.framing.specs.DecodeLaws.{step_taken, idle_dle, idle_other, frame_dle, frame_other, outside_dle, outside_stx, outside_etx, outside_other, inside_dle, inside_stx, inside_etx, inside_other}
use Rattle.framing.specs.Unstuff.{state, to}
use Rattle.framing.specs.Decode.{Outcome, quiet, Step, step, by_phase, told_pushed}
use Rattle.framing.specs.declared.decode.Decoder.{Decoder}
use Rattle.framing.specs.declared.decode.Event.{Event}
use Rattle.framing.specs.declared.decode.Phase.{Phase}
use Rattle.framing.specs.declared.decode.Phase.TheVariants.{Idle}
use Rattle.framing.proofs.decode.Admitted.take.Goals as goal

-- the phase decides
decides : {p q : Phase} (n b : ℕ) (buf : List ℕ) {t : Step} → n ≤ 1024 → 1024 ≤ length buf → p ≡ q → by_phase q n buf b ≡ t → t ≡ step (state p n buf) b
decides {p} {q} n b buf {t} small room e f = sym (step_taken _ _ _ _ small room ∙ ap (λ (r : Phase). by_phase r n buf b) e ∙ f)

-- what is told of a decoder and an answer that are known
told : {d d' : Decoder} {r r' : Option Event} (buf : List ℕ) {t : Step} → d ≡ d' → r ≡ r' → told_pushed d' (Ok r') buf ≡ t → told_pushed d (Ok r) buf ≡ t
told {d} {d'} {r} {r'} buf {t} e f g = ap (λ (x : Decoder). told_pushed x (Ok r) buf) e ∙ ap (λ (x : Option Event). told_pushed d' (Ok x) buf) f ∙ g

pub returns-in-16-clause-told : goal.returns-in-16-clause-told
returns-in-16-clause-told c = decides _ _ _ c.args.self.now.small c.args.self.now.room c.in-Idle.is (idle_dle _ _ _ c.in-16.is)

pub returns-in_default-clause-told : goal.returns-in_default-clause-told
returns-in_default-clause-told c =
    ap (λ (p : Phase). to p c.args.self.now.decoder.count c.args.self.now.buf.now quiet) c.in-Idle.is
    ∙ decides _ _ _ c.args.self.now.small c.args.self.now.room c.in-Idle.is (idle_other _ _ _ (λ e. omega arith))

pub returns-in-16-b-clause-told : goal.returns-in-16-b-clause-told
returns-in-16-b-clause-told c = decides _ _ _ c.args.self.now.small c.args.self.now.room c.in-InFrame.is (frame_dle _ _ _ c.in-16-b.is)

pub returns-in_default-b-clause-told : goal.returns-in_default-b-clause-told
returns-in_default-b-clause-told c = c.collect.ensures.told ∙ decides _ _ _ c.args.self.now.small c.args.self.now.room c.in-InFrame.is (frame_other _ _ _ (λ e. omega arith))

pub returns-in-16-b-2-clause-told : goal.returns-in-16-b-2-clause-told
returns-in-16-b-2-clause-told c = decides _ _ _ c.args.self.now.small c.args.self.now.room c.in-EscapeOutside.is (outside_dle _ _ _ c.in-16-b-2.is)

pub returns-in-2-clause-told : goal.returns-in-2-clause-told
returns-in-2-clause-told c =
    told _ c.open.ensures.state c.open.ensures.quiet (decides _ _ _ c.args.self.now.small c.args.self.now.room c.in-EscapeOutside.is (outside_stx _ _ _ c.in-2.is))

pub returns-in-3-clause-told : goal.returns-in-3-clause-told
returns-in-3-clause-told c =
    told _ c.end.ensures.state c.end.ensures.told
    (ap (λ (o : Outcome). to Idle 0 c.args.self.now.buf.now o) c.ended-event.ensures
    ∙ decides _ _ _ c.args.self.now.small c.args.self.now.room c.in-EscapeOutside.is (outside_etx _ _ _ c.in-3.is))

pub returns-in_default-b-2-clause-told : goal.returns-in_default-b-2-clause-told
returns-in_default-b-2-clause-told c =
    ap (λ (x : Decoder). to x.phase x.count c.args.self.now.buf.now quiet) c.new-self.ensures
    ∙ decides _ _ _ c.args.self.now.small c.args.self.now.room c.in-EscapeOutside.is (outside_other _ _ _ (λ e. omega arith) (λ e. omega arith) (λ e. omega arith))

pub returns-in-16-b-3-clause-told : goal.returns-in-16-b-3-clause-told
returns-in-16-b-3-clause-told c = c.collect-in-16-b-3.ensures.told ∙ decides _ _ _ c.args.self.now.small c.args.self.now.room c.in-EscapeInside.is (inside_dle _ _ _ c.in-16-b-3.is)

pub returns-in-2-b-clause-told : goal.returns-in-2-b-clause-told
returns-in-2-b-clause-told c =
    told _ c.open-in-2-b.ensures.state c.open-in-2-b.ensures.quiet (decides _ _ _ c.args.self.now.small c.args.self.now.room c.in-EscapeInside.is (inside_stx _ _ _ c.in-2-b.is))

pub returns-in-3-b-clause-told : goal.returns-in-3-b-clause-told
returns-in-3-b-clause-told c =
    told _ c.end-in-3-b.ensures.state c.end-in-3-b.ensures.told
    (ap (λ (o : Outcome). to Idle 0 c.args.self.now.buf.now o) c.ended-event-in-3-b.ensures
    ∙ decides _ _ _ c.args.self.now.small c.args.self.now.room c.in-EscapeInside.is (inside_etx _ _ _ c.in-3-b.is))

pub returns-in_default-b-3-clause-told : goal.returns-in_default-b-3-clause-told
returns-in_default-b-3-clause-told c =
    told _ c.end-in_default-b-3.ensures.state c.end-in_default-b-3.ensures.told
    (decides _ _ _ c.args.self.now.small c.args.self.now.room c.in-EscapeInside.is (inside_other _ _ _ (λ e. omega arith) (λ e. omega arith) (λ e. omega arith)))
