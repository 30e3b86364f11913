use Rattle.std.proofs.Common.{◌≡◌, sym, ap, ◌∙◌}
use Rattle.numbers.specs.Layout.{state_of}
use Rattle.tx_list.specs.declared.State.{State}
use Rattle.tx_list.specs.declared.State.TheVariants.{AwaitStartup, Reading, Enabling, Activating}
use Rattle.tx_list.specs.Moves.{full_in, committed}
use Rattle.tx_list.proofs.LiveLists.{false_true}
use Rattle.session.specs.Sync.{Stepped}
use Rattle.session.specs.Lent.{reads_f2}
use Rattle.helm.specs.declared.steps.Step.{Step}
use Rattle.helm.specs.Stored.{kind_of, session_of}
use Rattle.helm.specs.Steps.{told_step}
use Rattle.helm.specs.Hands.{hand_in}
use Rattle.helm.proofs.HeardLaws.{heard_mode, heard_too_soon, heard_f1, heard_enabled, heard_committed, heard_activated, heard_done}
use Rattle.helm.proofs.HandLaws.{hand_told}
use Rattle.helm.proofs.entry.heard_outside.Goals as goal

pub on_f1-requires : goal.on_f1-requires
on_f1-requires g c =
    let s = g.M.Arrays.stored c.args.memory.now in
    let n = c.args.tested.numbers in
    let e : state_of n.phase n.attempt ≡ Reading c.in-Reading.attempt = sym c.state-state.ensures ∙ c.in-Reading.is in
    ap (λ (st : State). full_in (kind_of g.M.Arrays.limits) st (session_of n s) c.args.payload.now) (sym e) ∙ c.requires.room

pub returns-in-AwaitStartup-clause-left : goal.returns-in-AwaitStartup-clause-left
returns-in-AwaitStartup-clause-left g c =
    let s = g.M.Arrays.stored c.args.memory.now in
    heard_mode g.M.Arrays.limits s c.args.tested.numbers c.args.at.ms c.args.payload.now (sym c.state-state.ensures ∙ c.in-AwaitStartup.is) c.requires.minds (c.on_mode.ensures AwaitStartup s)

pub returns-in-ReadAt-clause-left : goal.returns-in-ReadAt-clause-left
returns-in-ReadAt-clause-left g c =
    let s = g.M.Arrays.stored c.args.memory.now in
    heard_too_soon g.M.Arrays.limits s c.args.tested.numbers c.args.at.ms c.args.payload.now (sym c.state-state.ensures ∙ c.in-ReadAt.is) c.requires.minds

pub returns-in-Reading-clause-left : goal.returns-in-Reading-clause-left
returns-in-Reading-clause-left g c =
    let s = g.M.Arrays.stored c.args.memory.now in
    heard_f1 g.M.Arrays.limits s c.args.tested.numbers c.args.at.ms c.args.payload.now (sym c.state-state.ensures ∙ c.in-Reading.is) c.on_f1.ensures.left

pub returns-in-Enabling-clause-left : goal.returns-in-Enabling-clause-left
returns-in-Enabling-clause-left g c =
    let s = g.M.Arrays.stored c.args.memory.now in
    heard_enabled g.M.Arrays.limits s c.args.tested.numbers c.args.at.ms c.args.payload.now (sym c.state-state.ensures ∙ c.in-Enabling.is) c.requires.minds (c.on_answer.ensures.left Enabling)

pub returns-in-Committing-clause-left : goal.returns-in-Committing-clause-left
unfolding committed
returns-in-Committing-clause-left g c =
    let s = g.M.Arrays.stored c.args.memory.now in
    heard_committed g.M.Arrays.limits s c.args.tested.numbers c.args.at.ms c.args.payload.now (sym c.state-state.ensures ∙ c.in-Committing.is) c.requires.minds (ap (λ (r : Step). told_step r s) c.awaiting.ensures)

pub returns-in-Activating-clause-left : goal.returns-in-Activating-clause-left
returns-in-Activating-clause-left g c =
    let s = g.M.Arrays.stored c.args.memory.now in
    heard_activated g.M.Arrays.limits s c.args.tested.numbers c.args.at.ms c.args.payload.now (sym c.state-state.ensures ∙ c.in-Activating.is) c.requires.minds (c.save.ensures.left Activating)

pub returns-in-Done-clause-left : goal.returns-in-Done-clause-left
returns-in-Done-clause-left g c =
    let s = g.M.Arrays.stored c.args.memory.now in
    heard_done g.M.Arrays.limits s c.args.tested.numbers c.args.at.ms c.args.payload.now (sym c.state-state.ensures ∙ c.in-Done.is) c.requires.minds

-- not here
pub returns-in-ReadingF2-clause-left : goal.returns-in-ReadingF2-clause-left
returns-in-ReadingF2-clause-left g c =
    absurd (false_true (sym c.requires.outside ∙ ap reads_f2 (sym c.state-state.ensures ∙ c.in-ReadingF2.is)))

pub returns-in-AwaitStartup-clause-hand : goal.returns-in-AwaitStartup-clause-hand
returns-in-AwaitStartup-clause-hand g c =
    let s = g.M.Arrays.stored c.args.memory.now in
    hand_told c.on_mode.result.numbers c.args.tested.numbers s (λ t. ap (λ (x : Stepped). x.sync.f2) (c.on_mode.ensures AwaitStartup t))

pub returns-in-ReadAt-clause-hand : goal.returns-in-ReadAt-clause-hand
returns-in-ReadAt-clause-hand g c =
    let s = g.M.Arrays.stored c.args.memory.now in
    ap (λ (r : Step). hand_in r.numbers s) c.stay.ensures

pub returns-in-ReadingF2-clause-hand : goal.returns-in-ReadingF2-clause-hand
returns-in-ReadingF2-clause-hand g c =
    let s = g.M.Arrays.stored c.args.memory.now in
    ap (λ (r : Step). hand_in r.numbers s) c.stay-in-ReadingF2.ensures

pub returns-in-Committing-clause-hand : goal.returns-in-Committing-clause-hand
returns-in-Committing-clause-hand g c =
    let s = g.M.Arrays.stored c.args.memory.now in
    ap (λ (r : Step). hand_in r.numbers s) c.awaiting.ensures

pub returns-in-Done-clause-hand : goal.returns-in-Done-clause-hand
returns-in-Done-clause-hand g c =
    let s = g.M.Arrays.stored c.args.memory.now in
    ap (λ (r : Step). hand_in r.numbers s) c.stay-in-Done.ensures
