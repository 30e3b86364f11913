use Rattle.std.proofs.Common.{ap, ◌∙◌}
use Rattle.views.specs.declared.F1Kind.TheVariants.{Adds, Ends, Neither}
use Rattle.tx_list.specs.Moves.{in_f1}
use Rattle.tx_list.specs.declared.State.TheVariants.{Reading}
use Rattle.session.specs.ReadingLaws.{in_f1_law}
use Rattle.helm.specs.declared.steps.Step.{Step}
use Rattle.helm.specs.declared.stored.Which.TheVariants.{List as L}
use Rattle.helm.specs.Stored.{capacity_of, session_at}
use Rattle.helm.specs.Steps.{told_step}
use Rattle.helm.proofs.ReadLaws.{adds_fit}
use Rattle.helm.proofs.reading.on_f1.Goals as goal

pub add-requires : goal.add-requires
add-requires g c = adds_fit c.args.payload.now c.f1_kind.ensures (capacity_of g.M.Arrays.limits L) c.args.tested.numbers.list c.in-Adds.is c.requires

pub returns-in-Adds-clause-left : goal.returns-in-Adds-clause-left
unfolding in_f1
returns-in-Adds-clause-left g c =
    c.add.ensures.left ∙ in_f1_law c.args.payload.now c.f1_kind.ensures Adds (session_at (Reading c.args.attempt) c.args.tested.numbers (g.M.Arrays.stored c.args.memory.now)) c.args.at.ms c.in-Adds.is

pub returns-in-Ends-clause-left : goal.returns-in-Ends-clause-left
unfolding in_f1
returns-in-Ends-clause-left g c =
    c.end.ensures.left (Reading c.args.attempt) ∙ in_f1_law c.args.payload.now c.f1_kind.ensures Ends (session_at (Reading c.args.attempt) c.args.tested.numbers (g.M.Arrays.stored c.args.memory.now)) c.args.at.ms c.in-Ends.is

pub returns-in-Neither-clause-left : goal.returns-in-Neither-clause-left
unfolding in_f1
returns-in-Neither-clause-left g c =
    ap (λ (r : Step). told_step r (g.M.Arrays.stored c.args.memory.now)) c.stay.ensures
    ∙ in_f1_law c.args.payload.now c.f1_kind.ensures Neither (session_at (Reading c.args.attempt) c.args.tested.numbers (g.M.Arrays.stored c.args.memory.now)) c.args.at.ms c.in-Neither.is
