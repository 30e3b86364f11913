use Rattle.std.proofs.Common.{refl}
use Rattle.views.specs.declared.F1Kind.TheVariants.{Ends, Neither}
use Rattle.tx_list.specs.Views.{added}
use Rattle.helm.proofs.ReadLaws.{over_adds, over_none}
use Rattle.helm.proofs.reading.passes.Goals as goal

pub returns-in-Adds : goal.returns-in-Adds
returns-in-Adds c =
    over_adds c.args.payload.now c.f1_kind.ensures c.args.limit c.args.count c.group_count.result c.in-Adds.is c.requires c.group_count.ensures

pub returns-in-Ends : goal.returns-in-Ends
unfolding added
returns-in-Ends c = over_none c.args.payload.now c.f1_kind.ensures c.args.limit c.args.count Ends refl c.in-Ends.is c.requires

pub returns-in-Neither : goal.returns-in-Neither
unfolding added
returns-in-Neither c = over_none c.args.payload.now c.f1_kind.ensures c.args.limit c.args.count Neither refl c.in-Neither.is c.requires
