use Rattle.std.proofs.Common.{◌∙◌, ap}
use Rattle.tx_list.specs.Views.{has}
use Rattle.transmits.specs.TransmitsLaws.{has_any}
use Rattle.transmits.proofs.has.Goals as goal

pub returns : goal.returns
returns g c = c.contains.ensures.value ∙ has_any c.args.pgn c.pgns.result.now ∙ ap (has c.args.pgn) c.pgns.ensures
