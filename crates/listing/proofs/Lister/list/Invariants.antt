-- What falls with each turn.
use Rattle.std.proofs.Common.{length}
use Rattle.listing.proofs.Lister.list.Given as goal

abbrev pub decreases-loop-left : goal.decreases-loop-left
decreases-loop-left g l = length l.left
