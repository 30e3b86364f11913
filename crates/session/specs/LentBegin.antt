-- Begin in lent memory: the session held is the one that module 6 begins with. Assumes nothing.
use Rattle.std.specs.Prelude.{ℕ, ◌≤◌, ◌≡◌, List, length, take}
use Rattle.std.proofs.lemmas.List.Edits.{sets}
use Rattle.tx_list.specs.Session.{begins, unknown}
use Rattle.tx_list.specs.Memory.{abs_flat}
use Rattle.session.specs.Sync.{kind, learned_in, record_of}
use Rattle.session.specs.Lent.{Numbers, Arrays, sync_of, opened_with, wanting}
use Rattle.session.specs.ReadingLaws.{front_read}

pub begins_in : (x : Numbers) (want : List ℕ) (a : Arrays) → length want ≤ length a.wanted
    → abs_flat (sync_of (opened_with x.totals.counts (length want)) (wanting a want)) ≡ begins kind want (record_of (learned_in (sync_of x a)))
unfolding begins unknown
begins_in x want a h =
    let e : take (length want) (sets a.wanted 0 want) ≡ want = front_read want a.wanted h in
    rw e
