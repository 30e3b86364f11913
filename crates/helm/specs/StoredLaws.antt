-- Numbers in the one form in which a call stores them hold the same session, and are in that form. Assumes nothing.
use Rattle.std.specs.Prelude.{◌≡◌, ◌≤◌}
use Rattle.field.specs.Pick.{pick}
use Rattle.lists.specs.Format2.{no_parts}
use Rattle.numbers.specs.Layout.{is_set, one, phase_of, attempt_of}
use Rattle.numbers.specs.LayoutLaws.{set_one}
use Rattle.tx_list.specs.declared.State.{State}
use Rattle.session.specs.Lent.{counted}
use Rattle.helm.specs.declared.stored.Numbers.{Numbers}
use Rattle.helm.specs.Stored.{Stored, session_at, session_of, plain_in, plain}
use Rattle.helm.specs.PlayedLaws.{state_back, phase_small}

pub plain_held : (n : Numbers) (st : State) (s : Stored) → session_of (plain_in n st) s ≡ session_at st n s
plain_held n st s = λ i.
    record (session_at st n s) {
      state = state_back st i;
      f2 = counted n.proprietary (pick (set_one (is_set n.blank) i) no_parts s.parts);
      is_known = set_one (is_set n.read) i;
      complete = set_one (is_set n.complete) i;
      told = set_one (is_set n.told) i;
    }

pub plain_again : (n : Numbers) (st : State) → plain (plain_in n st) ≡ plain_in n st
plain_again n st = λ i.
    record (plain_in n st) {
      phase = phase_of (state_back st i);
      attempt = attempt_of (state_back st i);
      read = one (set_one (is_set n.read) i);
      complete = one (set_one (is_set n.complete) i);
      told = one (set_one (is_set n.told) i);
      blank = one (set_one (is_set n.blank) i);
    }

pub plain_small : (n : Numbers) (st : State) → (plain_in n st).phase ≤ 7
plain_small n st = phase_small st
