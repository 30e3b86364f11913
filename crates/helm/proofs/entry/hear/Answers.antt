use Rattle.std.proofs.Common.{ap, ◌∙◌}
use Rattle.session.specs.Sync.{wrote_step}
use Rattle.helm.specs.declared.stored.Numbers.{Numbers}
use Rattle.helm.specs.Steps.{minded, overfills, heard_by}
use Rattle.helm.specs.Hands.{hand_after_message}
use Rattle.helm.proofs.entry.hear.Goals as goal

pub heard-step-requires : goal.heard-step-requires
heard-step-requires g c =
    let l = g.M.Arrays.limits in
    let s = g.M.Arrays.stored c.args.memory.now in
    let m = c.args.payload.now in
    record {
      minds = ap (λ (n : Numbers). minded n m) c.of-tested.ensures ∙ c.requires.minds;
      room = ap (λ (n : Numbers). overfills l n s m) c.of-tested.ensures ∙ c.requires.list;
    }

pub returns-clause-left : goal.returns-clause-left
returns-clause-left g c =
    let l = g.M.Arrays.limits in
    let s = g.M.Arrays.stored c.args.memory.now in
    c.finish.ensures.left
    ∙ ap (λ x. wrote_step x c.args.out.now) (c.heard-step.ensures.left ∙ ap (λ (n : Numbers). heard_by l n s c.args.at.ms c.args.payload.now) c.of-tested.ensures)

pub returns-clause-hand : goal.returns-clause-hand
returns-clause-hand g c =
    let s = g.M.Arrays.stored c.args.memory.now in
    c.finish.ensures.hand
    ∙ c.heard-step.ensures.hand
    ∙ ap (λ (n : Numbers). hand_after_message n s c.args.payload.now) c.of-tested.ensures
