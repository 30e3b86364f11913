use Rattle.std.proofs.Common.{ap, ◌∙◌}
use Rattle.views.specs.declared.F2Kind.TheVariants.{Wrong, Part, Neither}
use Rattle.tx_list.specs.Moves.{in_f2}
use Rattle.tx_list.specs.declared.State.TheVariants.{ReadingF2}
use Rattle.session.specs.Sync.{Stepped, put}
use Rattle.session.specs.Lent.{hand_after}
use Rattle.session.specs.ReadingLaws.{in_f2_law, hand_f2}
use Rattle.helm.specs.declared.steps.Step.{Step}
use Rattle.helm.specs.Machines.{helm_limits}
use Rattle.helm.specs.Stored.{parts_of, session_at}
use Rattle.helm.specs.Steps.{told_step}
use Rattle.helm.specs.Hands.{hand_in}
use Rattle.helm.proofs.HandLaws.{hand_told}
use Rattle.helm.proofs.parts.on_f2.Goals as goal

pub returns-in-Wrong-clause-left : goal.returns-in-Wrong-clause-left
unfolding in_f2
returns-in-Wrong-clause-left g c =
    let s = g.M.Arrays.stored c.args.memory.now in
    c.start_f1.ensures helm_limits (ReadingF2 c.args.attempt) s
    ∙ in_f2_law c.args.payload.now Wrong (session_at (ReadingF2 c.args.attempt) c.args.tested.numbers s) c.args.at.ms c.f2_kind.ensures c.in-Wrong.is

pub returns-in-Part-clause-left : goal.returns-in-Part-clause-left
unfolding in_f2
returns-in-Part-clause-left g c =
    let s = g.M.Arrays.stored c.args.memory.now in
    c.on_part.ensures.left
    ∙ in_f2_law c.args.payload.now Part (session_at (ReadingF2 c.args.attempt) c.args.tested.numbers s) c.args.at.ms c.f2_kind.ensures c.in-Part.is

pub returns-in-Neither-clause-left : goal.returns-in-Neither-clause-left
unfolding in_f2
returns-in-Neither-clause-left g c =
    let s = g.M.Arrays.stored c.args.memory.now in
    ap (λ (r : Step). told_step r s) c.stay.ensures
    ∙ in_f2_law c.args.payload.now Neither (session_at (ReadingF2 c.args.attempt) c.args.tested.numbers s) c.args.at.ms c.f2_kind.ensures c.in-Neither.is

pub returns-in-Wrong-clause-hand : goal.returns-in-Wrong-clause-hand
unfolding hand_after
returns-in-Wrong-clause-hand g c =
    let s = g.M.Arrays.stored c.args.memory.now in
    let n = c.args.tested.numbers in
    let m = c.args.payload.now in
    hand_told c.start_f1.result.numbers n s (λ t. ap (λ (x : Stepped). x.sync.f2) (c.start_f1.ensures helm_limits (ReadingF2 c.args.attempt) t))
    ∙ hand_f2 m Wrong (put m (parts_of n s.parts)) (hand_in n s) c.f2_kind.ensures c.in-Wrong.is

pub returns-in-Part-clause-hand : goal.returns-in-Part-clause-hand
unfolding hand_after
returns-in-Part-clause-hand g c =
    let s = g.M.Arrays.stored c.args.memory.now in
    let n = c.args.tested.numbers in
    let m = c.args.payload.now in
    c.on_part.ensures.hand ∙ hand_f2 m Part (put m (parts_of n s.parts)) (hand_in n s) c.f2_kind.ensures c.in-Part.is

pub returns-in-Neither-clause-hand : goal.returns-in-Neither-clause-hand
unfolding hand_after
returns-in-Neither-clause-hand g c =
    let s = g.M.Arrays.stored c.args.memory.now in
    let n = c.args.tested.numbers in
    let m = c.args.payload.now in
    ap (λ (r : Step). hand_in r.numbers s) c.stay.ensures
    ∙ hand_f2 m Neither (put m (parts_of n s.parts)) (hand_in n s) c.f2_kind.ensures c.in-Neither.is
