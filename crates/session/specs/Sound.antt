-- A session's counts and limits. Assumes nothing.
use Rattle.std.specs.Prelude.{true}
use Rattle.bounds.specs.declared.Limits.{Limits}
use Rattle.bounds.specs.declared.Counts.{Counts}
use Rattle.session.specs.Sync.{Sync}

-- "capacity (.. wanted, owed, fresh 64; list 1,024 ..)"
abbrev pub helm : Limits
helm = record { wanted = 64; list = 1024; known = 1344; two = true }

-- the counts of a session in arrays
abbrev pub counts_of : Sync → Counts
counts_of h =
    record {
      wanted = h.wanted.n;
      owed = h.owed.n;
      fresh = h.fresh.n;
      list = h.list.n;
      proprietary = h.f2.proprietary.list.n;
      known = h.known.n;
      saved = h.saved.n;
      present = h.present.n;
      refused = h.refused.n;
    }
