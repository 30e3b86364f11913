-- `transcript::answer::Transcript::fill` meets its contract: once more. Assumes nothing.
use Rattle.std.proofs.Common.{refl, ◌∙◌}
use Rattle.transcript.specs.Log.{puts}
use Rattle.transcript.specs.LogLaws.{puts_replicate}
use Rattle.transcript.proofs.answer.Transcript.fill.Goals as goal

pub loop-init : goal.loop-init
unfolding puts
loop-init c = record { told = refl; same_slice = refl }

pub loop-preserved : goal.loop-preserved
loop-preserved c = record {
  told = c.put_byte.ensures.told ∙ puts_replicate _ _ _ _ c.loop.invariant.told;
  same_slice = c.put_byte.ensures.same_slice ∙ c.loop.invariant.same_slice;
}
