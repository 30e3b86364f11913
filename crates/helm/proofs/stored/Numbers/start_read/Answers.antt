-- `start_read` meets its contract.
use Rattle.std.proofs.Common.{sym, ◌∙◌}
use Rattle.tx_list.specs.Moves.{late}
use Rattle.tx_list.specs.declared.State.TheVariants.{ReadAt}
use Rattle.helm.proofs.stored.Numbers.start_read.Goals as goal

pub returns-then-has_format_2 : goal.returns-then-has_format_2
unfolding late
returns-then-has_format_2 c = λ s. rw (sym c.has_format_2.ensures ∙ c.if-has_format_2.true) (c.start_f2.ensures c.args.limits ReadAt s)

pub returns-else-has_format_2 : goal.returns-else-has_format_2
unfolding late
returns-else-has_format_2 c = λ s. rw (sym c.has_format_2.ensures ∙ c.if-has_format_2.false) (c.start_f1.ensures c.args.limits ReadAt s)
