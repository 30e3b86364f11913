-- `transcript::area::Transcript::close_lent` meets its contract. Assumes nothing.
use Rattle.std.proofs.Common.{ap, ◌∙◌}
use Rattle.transcript.specs.Log.{Log, log, sized}
use Rattle.transcript.specs.Lent.{lent_closed}
use Rattle.transcript.proofs.answer.Transcript.close_lent.Goals as goal

pub returns : goal.returns
unfolding lent_closed
returns c =
    let a = c.args.area in
    let e = rw (c.answer.ensures, c.number_of.ensures) at c.refuse.ensures.told in
    record {
      told = c.close.ensures.told ∙ rw c.answer-2.ensures (ap (λ (l : Log). log a.end (sized l.text a.body a.end)) e);
      same_slice = c.close.ensures.same_slice ∙ c.refuse.ensures.same_slice;
    }
