-- The loop of `framing::decode::Admitted::feed`: what is left to feed gives what the whole gives.
use Rattle.std.proofs.Common.{length, ◌-◌, ◌≡◌, ◌≤◌}
use Rattle.framing.specs.Unstuff.{state}
use Rattle.framing.specs.Feed.{fed}
use Rattle.framing.specs.From.{from}
use Rattle.framing.proofs.decode.Admitted.feed.Given as goal

abbrev pub invariant-loop-at : goal.invariant-loop-at
invariant-loop-at l =
    (l.at ≤ length l.bytes)
    × (l.self.buf.ghost_name ≡ l.initial.self.buf.ghost_name)
    × (fed (state l.initial.self.decoder.phase l.initial.self.decoder.count l.initial.self.buf.now) l.bytes ≡ from (state l.self.decoder.phase l.self.decoder.count l.self.buf.now) l.at l.bytes)

abbrev pub decreases-loop-at : goal.decreases-loop-at
decreases-loop-at l = length l.bytes - l.at
