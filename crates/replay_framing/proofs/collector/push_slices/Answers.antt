-- `replay_framing::collector::push_slices` meets its contract. Assumes nothing.
use Rattle.std.proofs.Common.{◌+◌, ◌≤◌, ◌≡◌, arith, refl, length, Option, Some, None, Ok}
use Rattle.framing.specs.Decode.{outcome_of}
use Rattle.framing.specs.Feed.{taken}
use Rattle.framing.specs.FeedLaws.{used_rest}
use Rattle.framing.specs.declared.decode.Event.{Event}
use Rattle.framing.specs.declared.decode.Event.TheVariants.{Message, Broken}
use Rattle.replay_framing.proofs.collector.push_slices.Goals as goal
use Rattle.replay_framing.proofs.collector.push_slices.Goals.{In_ok-fed}

-- a call that refuses no byte takes one
takes : (e : Option Event) → taken (outcome_of (Ok e)) ≡ 1
takes None = refl
takes (Some (Message command len)) = refl
takes (Some (Broken error)) = refl

-- and stays inside
moved : (c : In_ok-fed) → (1 ≤ c.in_ok-fed.fed.used) × (c.loop-at.at + c.in_ok-fed.fed.used ≤ length c.args.bytes.now)
moved c =
    let h = used_rest c.push_bytes.new.self (Ok c.in_ok-fed.fed) c.push_bytes.new.buf _ c.args.bytes.now c.loop-at.at c.in_ok-fed.ensures.fed c.loop-at-test.true in
    (h.0 (takes c.in_ok-fed.fed.event), h.1)

pub overflow_add-at : goal.overflow_add-at
overflow_add-at c = omega (arith, (moved (goal.at.overflow_add-at c).In_ok-fed).1, c.well_formed)

pub overflow_sub-at : goal.overflow_sub-at
overflow_sub-at c = omega (arith, (moved (goal.at.overflow_sub-at c).In_ok-fed).0)

pub loop-at-smaller-in-Some : goal.loop-at-smaller-in-Some
loop-at-smaller-in-Some c = let h = moved (goal.at.loop-at-smaller-in-Some c).In_ok-fed in omega (arith, h.0, h.1)

pub loop-at-preserved-in-Some : goal.loop-at-preserved-in-Some
loop-at-preserved-in-Some c = (moved (goal.at.loop-at-preserved-in-Some c).In_ok-fed).1

pub loop-at-smaller : goal.loop-at-smaller
loop-at-smaller c = let h = moved (goal.at.loop-at-smaller c).In_ok-fed in omega (arith, h.0, h.1)

pub loop-at-preserved : goal.loop-at-preserved
loop-at-preserved c = (moved (goal.at.loop-at-preserved c).In_ok-fed).1
