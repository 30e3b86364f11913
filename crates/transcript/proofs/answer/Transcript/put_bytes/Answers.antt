-- `transcript::answer::Transcript::put_bytes` meets its contract: one byte more. Assumes nothing.
use Rattle.std.proofs.Common.{refl, ◌∙◌}
use Rattle.transcript.specs.Log.{puts}
use Rattle.transcript.specs.LogLaws.{puts_take}
use Rattle.transcript.proofs.answer.Transcript.put_bytes.Goals as goal

pub loop-b-init : goal.loop-b-init
unfolding puts
loop-b-init c = record { told = refl; same_slice = refl }

pub loop-b-preserved : goal.loop-b-preserved
loop-b-preserved c = record {
  told = c.put_byte.ensures.told ∙ puts_take _ _ _ _ c.loop-b.invariant.told c.loop-b-test.true;
  same_slice = c.put_byte.ensures.same_slice ∙ c.loop-b.invariant.same_slice;
}
