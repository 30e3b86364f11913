-- What a step of the code sends and leaves, in the terms of module 6. Assumes nothing.
use Rattle.std.specs.Prelude.{ℕ, ◌+◌, ◌≤◌, ◌≡◌, length, take, Bool, List, [], ◌∷◌, Option, get_or}
use Rattle.tx_list.specs.Reading.{enable}
use Rattle.tx_list.specs.declared.State.TheVariants.{Enabling, Done}
use Rattle.helm.specs.declared.stored.Numbers.{Numbers}
use Rattle.std.proofs.Math.Option.{some}
use Rattle.lists.specs.declared.F2List.{F2List}
use Rattle.lists.specs.Format2.{pgns_of}
use Rattle.tx_list.specs.Stored as stored
use Rattle.numbers.specs.Layout.{state_of}
use Rattle.std.proofs.lemmas.List.Edits.{sets}
use Rattle.bounds.specs.declared.Limits.{Limits}
use Rattle.tx_list.specs.Moves.{gets, full_in, heard}
use Rattle.tx_list.specs.declared.State.{State}
use Rattle.session.specs.Lent.{minds_in}
use Rattle.session.specs.Sync.{kind, store, Stepped, step_of}
use Rattle.helm.specs.declared.stored.Which.TheVariants.{Known}
use Rattle.commands.specs.declared.Command.{Command}
use Rattle.helm.specs.declared.steps.Step.{Step}
use Rattle.helm.specs.Words.{commands_of}
use Rattle.helm.specs.Stored.{Stored, kind_of, session_at, session_of, with_array}

-- the bytes of a call's commands on the wire, end to end: a command's frame is the same on every machine
abbrev pub bytes_of : Option Command → List ℕ
bytes_of x = stored.wire kind store (commands_of x)

-- a step's commands, and the session that it leaves in these arrays
abbrev pub told_step : Step → Stored → Stepped
told_step r s = record { sent = commands_of r.sent; sync = session_at r.state r.numbers s }

-- a list is known, and nothing is owed: done
abbrev pub asked_none : Numbers → ℕ → Stored → Stepped
asked_none n t s = record { sent = []; sync = session_at Done (record n { due = t + 10000 }) s }

-- so many PGNs are owed, and the first is asked for
abbrev pub asked_some : Numbers → ℕ → ℕ → Stored → Stepped
asked_some n owed t s =
    record {
      sent = enable (get_or s.owed 0 0) ∷ [];
      sync = session_at Enabling (record n { owed = owed; fresh = 0; due = t + 10000 }) s;
    }

-- the list of n PGNs that parts of Format 2 give, at the front of an array
pub record Listed (p : F2List) (n : ℕ) (a : List ℕ) : Type 0 where
  pub gives : pgns_of p ≡ some (take n a)
  pub count : n ≡ length (take n a)
  pub most : n ≤ 767

-- what a list of so many PGNs at the front of the known array leads to; k is what stood there before
abbrev pub Gets : Limits → Numbers → ℕ → Bool → ℕ → Step → Stored → Stored → Type 0
Gets l n count whole t r s after =
    (st : State) (k : List ℕ)
    → length k ≡ l.known
    → s.known ≡ sets k 0 (take count s.known)
    → told_step r after ≡ step_of (gets kind (session_at st n (with_array s Known k)) (take count s.known) whole t)

-- a message is of interest, would pass the list's limit, and what it does, in the phase that these numbers say
abbrev pub minded : Numbers → List ℕ → Bool
minded n m = minds_in (state_of n.phase n.attempt) m

abbrev pub overfills : Limits → Numbers → Stored → List ℕ → Bool
overfills l n s m = full_in (kind_of l) (state_of n.phase n.attempt) (session_of n s) m

abbrev pub heard_by : Limits → Numbers → Stored → ℕ → List ℕ → Stepped
heard_by l n s t m = step_of (heard (kind_of l) (state_of n.phase n.attempt) (session_of n s) t m)
