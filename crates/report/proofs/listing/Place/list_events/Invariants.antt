-- What the loop keeps, and what falls with each turn.
use Rattle.std.proofs.Common.{◌≡◌, ◌-◌, ◌≤◌, [], length, take}
use Rattle.field.specs.Written.{written}
use Rattle.framing.specs.Feed.{Formed}
use Rattle.report.specs.Listing.{state_of}
use Rattle.report.specs.Filled.{fill}
use Rattle.report.proofs.listing.Place.list_events.Given as goal

abbrev pub invariant-loop-used : goal.invariant-loop-used
invariant-loop-used l = record {
  inside : l.used ≤ length l.bytes;
  fits : l.len ≤ length l.out;
  long : length l.out ≡ length l.initial.out;
  formed : Formed (state_of l.self l.buf);
  kept : l.out ≡ written (take l.len l.out) l.initial.out;
  same : fill (length l.bytes) l.initial.self.n l.initial.self.at (state_of l.initial.self l.initial.buf) l.bytes l.initial.out 0 []
      ≡ fill (length l.bytes - l.used) l.self.n l.self.at (state_of l.self l.buf) l.bytes l.initial.out l.used (take l.len l.out);
}

abbrev pub decreases-loop-used : goal.decreases-loop-used
decreases-loop-used l = length l.bytes - l.used
