use Rattle.tx_list.proofs.LiveKept.{live_kept}
use Rattle.helm.specs.Stored.{kind_of}
use Rattle.helm.specs.Calls.{store_of}
use Rattle.helm.proofs.RunLaws.{lawful, faithful}
use Rattle.helm.proofs.laws.start_up.Goals as goal

pub returns : goal.returns
returns c = λ l f. live_kept (kind_of l) (store_of l) (lawful l f) (faithful l)
