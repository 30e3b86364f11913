use Rattle.helm.proofs.lent.laid_out.Goals as goal

pub returns : goal.returns
returns c = λ i.
    record {
      phase = c.wide.ensures.whole i;
      attempt = c.wide-2.ensures.cut i;
      due = c.args.x.due;
      wanted = c.wide-3.ensures.whole i;
      owed = c.wide-4.ensures.whole i;
      fresh = c.wide-5.ensures.whole i;
      list = c.wide-6.ensures.whole i;
      proprietary = c.wide-7.ensures.whole i;
      known = c.wide-8.ensures.whole i;
      saved = c.wide-9.ensures.whole i;
      present = c.wide-10.ensures.whole i;
      refused = c.wide-11.ensures.whole i;
      read = c.wide-12.ensures.whole i;
      complete = c.wide-13.ensures.whole i;
      told = c.wide-14.ensures.whole i;
      version = c.wide_16.ensures.cut i;
      blank = c.wide_16-2.ensures.whole i;
    }
