-- A machine's kind of session is lawful, and its store a faithful one.
use Rattle.std.specs.Prelude.{ℕ, ◌≤◌}
use Rattle.std.proofs.Common.{arith, refl}
use Rattle.bounds.specs.declared.Limits.{Limits}
use Rattle.lists.specs.Format2.{no_parts}
use Rattle.lists.specs.Format2Laws.{formed_none}
use Rattle.lists.proofs.Format2Proofs.{pgns_767}
use Rattle.tx_list.specs.Stored.{Faithful}
use Rattle.tx_list.specs.Memory.{clear_flat}
use Rattle.tx_list.proofs.Demand3.{Lawful}
use Rattle.tx_list.proofs.MemoryFaithful.{store_faithful, clear_sized, clear_counted}
use Rattle.session.specs.Sync.{Sync, same, frame_of}
use Rattle.session.specs.ReadingLaws.{put_formed}
use Rattle.helm.specs.Stored.{FitLimits, kind_of}
use Rattle.helm.specs.Calls.{store_of}

pub lawful : (l : Limits) → FitLimits l → Lawful (kind_of l)
lawful l f =
    record {
      small = f.wanted;
      blank_okay = formed_none;
      put_okay = put_formed;
      whole_short = λ p o two e h. short (pgns_767 p o e h) (f.whole two);
    }
  where
    short : {n : ℕ} → n ≤ 767 → 767 ≤ l.list → n ≤ l.list
    short h g = omega arith

pub faithful : (l : Limits) → Faithful (kind_of l) (store_of l)
faithful l =
    store_faithful (kind_of l) Sync same same (clear_flat (kind_of l) no_parts 0) frame_of (λ (s : Sync). refl) (clear_sized (kind_of l) no_parts 0)
    (clear_counted (kind_of l) no_parts 0 formed_none)
