-- The loop of `replay_framing::collector::push_slices`: what falls with each turn.
use Rattle.std.proofs.Common.{length, ◌-◌, ◌≤◌}
use Rattle.replay_framing.proofs.collector.push_slices.Given as goal

abbrev pub invariant-loop-at : goal.invariant-loop-at
invariant-loop-at l = l.at ≤ length l.bytes

abbrev pub decreases-loop-at : goal.decreases-loop-at
decreases-loop-at l = length l.bytes - l.at
