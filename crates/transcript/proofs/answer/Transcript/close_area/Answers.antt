-- `transcript::area::Transcript::close_area` meets its contract. Assumes nothing.
use Rattle.std.proofs.Common.{ap, ◌∙◌}
use Rattle.transcript.specs.Log.{Log, log, sized}
use Rattle.transcript.specs.Lent.{area_closed}
use Rattle.transcript.proofs.answer.Transcript.close_area.Goals as goal

pub returns-in-Ok : goal.returns-in-Ok
unfolding area_closed
returns-in-Ok c =
    let a = c.args.area in
    record {
      told = rw c.in-Ok.is (c.close.ensures.told ∙ rw c.answer.ensures (ap (λ (l : Log). log a.end (sized l.text a.body a.end)) c.put_count.ensures.told));
      same_slice = c.close.ensures.same_slice ∙ c.put_count.ensures.same_slice;
    }
