-- `late_f2` meets its contract.
use Rattle.std.proofs.Common.{lt-ltb, le-ltb}
use Rattle.tx_list.specs.Moves.{late}
use Rattle.tx_list.specs.declared.State.TheVariants.{ReadingF2}
use Rattle.helm.proofs.stored.Numbers.late_f2.Goals as goal

pub returns-then-attempt-lt-READ_ATTEMPTS : goal.returns-then-attempt-lt-READ_ATTEMPTS
unfolding late
returns-then-attempt-lt-READ_ATTEMPTS c = λ l s. rw (lt-ltb _ 3 c.if-attempt-lt-READ_ATTEMPTS.true) (c.start_f2.ensures l (ReadingF2 c.args.attempt) s)

pub returns-else-attempt-lt-READ_ATTEMPTS : goal.returns-else-attempt-lt-READ_ATTEMPTS
unfolding late
returns-else-attempt-lt-READ_ATTEMPTS c = λ l s. rw (le-ltb _ 3 c.if-attempt-lt-READ_ATTEMPTS.false) (c.start_f1.ensures l (ReadingF2 c.args.attempt) s)
