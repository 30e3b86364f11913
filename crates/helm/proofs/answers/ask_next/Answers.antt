use Rattle.std.proofs.Common.{◌≡◌, ◌+◌, ◌-◌, arith, ap, ◌∙◌, [], ◌∷◌, take, drop, get_or, length}
use Rattle.tx_list.specs.Reading.{enable}
use Rattle.tx_list.specs.declared.State.TheVariants.{Enabling}
use Rattle.session.specs.AnswersLaws.{count_shifted}
use Rattle.helm.specs.declared.steps.Step.{Step}
use Rattle.helm.specs.Stored.{session_at}
use Rattle.helm.specs.Steps.{told_step}
use Rattle.helm.proofs.answers.ask_next.Goals as goal

pub returns-clause-left : goal.returns-clause-left
returns-clause-left g c =
    let s = g.M.Arrays.stored c.args.memory.now in
    let n = c.args.old in
    let k : n.owed - 1 ≡ length (drop 1 (take n.owed s.owed)) = count_shifted s.owed n.owed (omega (arith, c.sized.ensures.owed, c.requires.within)) in
    λ st.
    ap (λ (r : Step). told_step r (g.M.Arrays.stored c.shift_owed.new.self)) c.awaiting.ensures
    ∙ (λ i.
    record {
      sent = enable (get_or (c.array.ensures.array i) 1 0) ∷ [];
      sync = session_at Enabling (record n { owed = k i; due = c.args.at.ms + 10000 }) (c.shift_owed.ensures i);
    })
