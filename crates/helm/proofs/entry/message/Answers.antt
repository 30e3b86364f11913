use Rattle.helm.proofs.CallLaws.{found_quiet, formed_low}
use Rattle.helm.proofs.HandLaws.{hand_quiet}
use Rattle.helm.proofs.entry.message.Goals as goal

pub returns-in_default-clause-phase : goal.returns-in_default-clause-phase
returns-in_default-clause-phase g c =
    let s = g.M.Arrays.stored c.args.memory.now in
    formed_low g.M.Arrays.limits s.numbers (found_quiet c.in_ok-at.ensures c.in_default.is).formed

pub returns-in_default-clause-hand : goal.returns-in_default-clause-hand
returns-in_default-clause-hand g c =
    let s = g.M.Arrays.stored c.args.memory.now in
    hand_quiet s.numbers s c.args.payload.now (found_quiet c.in_ok-at.ensures c.in_default.is).minds
