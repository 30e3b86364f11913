use Rattle.std.proofs.Common.{ap, ◌∙◌}
use Rattle.numbers.specs.Layout.{state_of}
use Rattle.session.specs.Sync.{wrote_step}
use Rattle.session.specs.Lent.{reads_f2}
use Rattle.helm.specs.declared.stored.Numbers.{Numbers}
use Rattle.helm.specs.Steps.{minded, overfills, heard_by}
use Rattle.helm.specs.Hands.{hand_in}
use Rattle.helm.proofs.entry.hear_outside.Goals as goal

pub heard_outside-step-requires : goal.heard_outside-step-requires
heard_outside-step-requires g c =
    let l = g.M.Arrays.limits in
    let s = g.M.Arrays.stored c.args.memory.now in
    let m = c.args.payload.now in
    record {
      outside = ap (λ (n : Numbers). reads_f2 (state_of n.phase n.attempt)) c.of-tested.ensures ∙ c.requires.outside;
      minds = ap (λ (n : Numbers). minded n m) c.of-tested.ensures ∙ c.requires.minds;
      room = ap (λ (n : Numbers). overfills l n s m) c.of-tested.ensures ∙ c.requires.list;
    }

pub returns-clause-left : goal.returns-clause-left
returns-clause-left g c =
    let l = g.M.Arrays.limits in
    let s = g.M.Arrays.stored c.args.memory.now in
    c.finish.ensures.left
    ∙ ap (λ x. wrote_step x c.args.out.now) (c.heard_outside-step.ensures.left ∙ ap (λ (n : Numbers). heard_by l n s c.args.at.ms c.args.payload.now) c.of-tested.ensures)

pub returns-clause-hand : goal.returns-clause-hand
returns-clause-hand g c =
    let s = g.M.Arrays.stored c.args.memory.now in
    c.finish.ensures.hand
    ∙ c.heard_outside-step.ensures.hand
    ∙ ap (λ (n : Numbers). hand_in n s) c.of-tested.ensures
