-- Laws of what a session says of a PGN. Assumes nothing.
use Rattle.std.specs.Prelude.{ℕ, ◌≡◌, Bool}
use Rattle.std.proofs.Common.{sym}
use Rattle.tx_list.specs.Views.{has}
use Rattle.tx_list.specs.Session.{lacks, lacks_by}
use Rattle.tx_list.specs.Memory.{live}
use Rattle.session.specs.Sync.{Known, known_of, says}

-- what is said of a PGN, by the tests
pub lacks_by_law :
    (k : Known) (p : ℕ) {b h w : Bool}
    → k.read ≡ b
    → has p (live k.list) ≡ h
    → k.complete ≡ w
    → says (lacks_by b h w) ≡ says (lacks (known_of k) p)
unfolding lacks
lacks_by_law k p e f g = λ i. says (lacks_by (sym e i) (sym f i) (sym g i))
