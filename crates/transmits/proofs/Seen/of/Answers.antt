use Rattle.std.proofs.Common.{◌≡◌, ap, ◌∙◌}
use Rattle.numbers.specs.Layout.{is_set}
use Rattle.tx_list.specs.Views.{has}
use Rattle.helm.specs.Calls.{done_of, state_of}
use Rattle.transmits.specs.TransmitsLaws.{has_any}
use Rattle.transmits.specs.Transmits.{pending_in, is_done_by}
use Rattle.transmits.proofs.Seen.of.Goals as goal

pub returns : goal.returns
returns g c =
    let l = g.M.Arrays.limits in
    let s = g.M.Arrays.stored c.args.session.now in
    let done : c.unwrap_or-done.result ≡ is_done_by (done_of (state_of l s)) = c.unwrap_or-done.ensures ∙ ap is_done_by c.is_done.ensures in
    let pending = c.contains.ensures.value ∙ has_any c.args.pgn c.pending.result.now ∙ ap (has c.args.pgn) (c.pending.ensures ∙ (λ i. pending_in (done i) (c.pgns.ensures i))) in
    λ i.
    record {
      saved = c.has.ensures i;
      fresh = c.has-2.ensures i;
      refused = c.has-3.ensures i;
      known = c.has-4.ensures i;
      pending = pending i;
      read = is_set (c.numbers-numbers.ensures i).read;
      whole = is_set (c.numbers-numbers.ensures i).complete;
    }
