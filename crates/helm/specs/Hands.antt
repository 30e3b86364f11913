-- The parts of Format 2 in memory: which a message leaves, whether they are in hand or not. The session that memory holds says nothing of
-- those that are not. Assumes nothing.
use Rattle.std.specs.Prelude.{ℕ, List}
use Rattle.field.specs.Pick.{pick}
use Rattle.numbers.specs.Layout.{state_of}
use Rattle.session.specs.Lent.{Hand, hand, handed, reads_f2}
use Rattle.helm.specs.declared.stored.Numbers.{Numbers}
use Rattle.helm.specs.Linked.{as_lent}
use Rattle.helm.specs.Stored.{Stored}

-- the parts, and whether none of them is in hand, with these numbers
abbrev pub hand_in : Numbers → Stored → Hand
hand_in n s = hand (as_lent n) s.parts

-- after a message while Format 2 is read: a part is kept with those in hand, unless the list is whole with it; else the parts stay
abbrev pub handed_in : Numbers → Stored → List ℕ → Hand
handed_in n s m = handed (as_lent n) s.parts m

-- after any message: in each other phase the parts stay
abbrev pub hand_after_message : Numbers → Stored → List ℕ → Hand
hand_after_message n s m = pick (reads_f2 (state_of n.phase n.attempt)) (handed_in n s m) (hand_in n s)
