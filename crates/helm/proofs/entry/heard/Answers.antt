use Rattle.std.proofs.Common.{◌≡◌, arith, sym, ap, ◌∙◌}
use Rattle.numbers.specs.Layout.{state_of}
use Rattle.tx_list.specs.declared.State.TheVariants.{ReadingF2}
use Rattle.session.specs.Lent.{reads_f2}
use Rattle.helm.proofs.HeardLaws.{reads_two, heard_f2}
use Rattle.helm.proofs.HandLaws.{elsewhere, hand_elsewhere, hand_reading}
use Rattle.helm.proofs.entry.heard.Goals as goal

pub on_f2-requires : goal.on_f2-requires
on_f2-requires g c =
    let n = c.args.tested.numbers in
    let e : state_of n.phase n.attempt ≡ ReadingF2 c.in-ReadingF2.attempt = sym c.state-state.ensures ∙ c.in-ReadingF2.is in
    omega (arith, g.met.M.Arrays.limits_fit.whole (reads_two g.M.Arrays.limits n c.args.tested.formed e), g.met.M.Arrays.limits_fit.known)

pub heard_outside-requires : goal.heard_outside-requires
heard_outside-requires g c =
    record {
      outside = ap reads_f2 (sym c.state-state.ensures) ∙ elsewhere c.state-state.result c.in_default.not-ReadingF2;
      minds = c.requires.minds;
      room = c.requires.room;
    }

pub returns-in-ReadingF2-clause-left : goal.returns-in-ReadingF2-clause-left
returns-in-ReadingF2-clause-left g c =
    let s = g.M.Arrays.stored c.args.memory.now in
    heard_f2 g.M.Arrays.limits s c.args.tested.numbers c.args.at.ms c.args.payload.now (sym c.state-state.ensures ∙ c.in-ReadingF2.is) c.on_f2.ensures.left

pub returns-in-ReadingF2-clause-hand : goal.returns-in-ReadingF2-clause-hand
returns-in-ReadingF2-clause-hand g c =
    let s = g.M.Arrays.stored c.args.memory.now in
    c.on_f2.ensures.hand ∙ hand_reading c.args.tested.numbers s c.args.payload.now (sym c.state-state.ensures ∙ c.in-ReadingF2.is)

pub returns-in_default-clause-hand : goal.returns-in_default-clause-hand
returns-in_default-clause-hand g c =
    let s = g.M.Arrays.stored c.args.memory.now in
    c.heard_outside.ensures.hand
    ∙ hand_elsewhere c.args.tested.numbers s c.args.payload.now (sym c.state-state.ensures) (elsewhere c.state-state.result c.in_default.not-ReadingF2)
