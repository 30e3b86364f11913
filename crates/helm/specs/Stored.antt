-- A session as it lies in memory, the session of module 6 that it holds, and whether it holds one. Assumes nothing.
use Rattle.std.specs.Prelude.{ℕ, ◌+◌, ◌<◌, ◌≤◌, ◌^◌, ◌≡◌, Bool, true, false, not, ◌&&◌, ◌||◌, List, length, take, eqb, leb, ltb}
use Rattle.std.specs.Borrow.{GName}
use Rattle.field.specs.Pick.{pick}
use Rattle.lists.specs.declared.F2List.{F2List}
use Rattle.lists.specs.Format2.{no_parts, pgns_of, formed}
use Rattle.bounds.specs.declared.Limits.{Limits}
use Rattle.bounds.specs.declared.Counts.{Counts}
use Rattle.bounds.specs.Bounds.{sound_at}
use Rattle.numbers.specs.Layout.{is_set, one, state_of, phase_of, attempt_of}
use Rattle.tx_list.specs.Reading.{Kind}
use Rattle.tx_list.specs.Memory.{Buf}
use Rattle.tx_list.specs.declared.State.{State}
use Rattle.session.specs.Sync.{Sync, put}
use Rattle.session.specs.Lent.{counted, minds_in}
use Rattle.helm.specs.declared.stored.Numbers.{Numbers}
use Rattle.helm.specs.declared.stored.Which.{Which}
use Rattle.helm.specs.declared.stored.Which.TheVariants.{Wanted, Owed, Fresh, List as L, Known, Saved, Present, Refused}

-- the numbers, the arrays whole, and the parts of Format 2; and which references they lie behind, where a machine holds references: no call
-- puts others in their place
pub record Stored : Type 0 where
  pub numbers : Numbers
  pub wanted : List ℕ
  pub owed : List ℕ
  pub fresh : List ℕ
  pub list : List ℕ
  pub known : List ℕ
  pub saved : List ℕ
  pub present : List ℕ
  pub refused : List ℕ
  pub parts : F2List
  pub loans : List GName

abbrev pub array_of : Which → Stored → List ℕ
array_of Wanted s = s.wanted
array_of Owed s = s.owed
array_of Fresh s = s.fresh
array_of L s = s.list
array_of Known s = s.known
array_of Saved s = s.saved
array_of Present s = s.present
array_of Refused s = s.refused

-- how many PGNs a list holds, by its count
abbrev pub count_of : Which → Numbers → ℕ
count_of Wanted n = n.wanted
count_of Owed n = n.owed
count_of Fresh n = n.fresh
count_of L n = n.list
count_of Known n = n.known
count_of Saved n = n.saved
count_of Present n = n.present
count_of Refused n = n.refused

-- the PGNs of a list: as many as its count says, and as far as its array goes
abbrev pub pgns_in : Which → Stored → List ℕ
pgns_in w s = take (count_of w s.numbers) (array_of w s)

abbrev pub with_array : Stored → Which → List ℕ → Stored
with_array s Wanted a = record s { wanted = a }
with_array s Owed a = record s { owed = a }
with_array s Fresh a = record s { fresh = a }
with_array s L a = record s { list = a }
with_array s Known a = record s { known = a }
with_array s Saved a = record s { saved = a }
with_array s Present a = record s { present = a }
with_array s Refused a = record s { refused = a }

-- a list's array with a count
abbrev pub buffer_of : Which → ℕ → Stored → Buf ℕ
buffer_of w n s = record { items = array_of w s; n = n }

abbrev pub with_numbers : Stored → Numbers → Stored
with_numbers s n = record s { numbers = n }

abbrev pub with_parts : Stored → F2List → Stored
with_parts s f = record s { parts = f }

abbrev pub capacity_of : Limits → Which → ℕ
capacity_of l Wanted = l.wanted
capacity_of l Owed = l.wanted
capacity_of l Fresh = l.wanted
capacity_of l L = l.list
capacity_of l Known = l.known
capacity_of l Saved = 256
capacity_of l Present = 256
capacity_of l Refused = 256

-- each array is as long as the limits say
pub record HasSizes (l : Limits) (s : Stored) : Type 0 where
  pub wanted : length s.wanted ≡ l.wanted
  pub owed : length s.owed ≡ l.wanted
  pub fresh : length s.fresh ≡ l.wanted
  pub list : length s.list ≡ l.list
  pub known : length s.known ≡ l.known
  pub saved : length s.saved ≡ 256
  pub present : length s.present ≡ 256
  pub refused : length s.refused ≡ 256

-- each count is within its list
pub record Within (l : Limits) (n : Numbers) : Type 0 where
  pub wanted : n.wanted ≤ l.wanted
  pub owed : n.owed ≤ l.wanted
  pub fresh : n.fresh ≤ l.wanted
  pub list : n.list ≤ l.list
  pub proprietary : n.proprietary ≤ 512
  pub known : n.known ≤ l.known
  pub saved : n.saved ≤ 256
  pub present : n.present ≤ 256
  pub refused : n.refused ≤ 256

-- what the limits of a machine are: at most 64 wanted, a known list with room for a list read, a list of the record and what is wanted, and,
-- where Format 2 is read, a list with room for the 767 PGNs that one in Format 2 can have
pub record FitLimits (l : Limits) : Type 0 where
  pub wanted : l.wanted ≤ 64
  pub list : l.list < 2 ^ 16
  pub known : l.known ≡ l.list + (256 + l.wanted)
  pub whole : l.two ≡ true → 767 ≤ l.list

-- the kind of session that a machine with these limits has: answers are taken by first byte alone, a refused PGN is kept alone
abbrev pub kind_of : Limits → Kind
kind_of l =
    record {
      want_max = l.wanted;
      list_max = l.list;
      two = l.two;
      strict = false;
      Parts = F2List;
      blank = no_parts;
      put = put;
      whole = pgns_of;
      okay = formed;
      Entry = ℕ;
      entry = λ p m. p;
      pgn_of = λ p. p;
    }

-- another phase and attempt
abbrev pub with_state : Numbers → State → Numbers
with_state n st = record n { phase = phase_of st; attempt = attempt_of st }

-- in a phase, the one form in which a call stores numbers: a flag is 0 or 1, and an attempt stands only where the phase has one
abbrev pub plain_in : Numbers → State → Numbers
plain_in n st =
    record n {
      phase = phase_of st;
      attempt = attempt_of st;
      read = one (is_set n.read);
      complete = one (is_set n.complete);
      told = one (is_set n.told);
      blank = one (is_set n.blank);
    }

-- the same in the phase that the numbers say
abbrev pub plain : Numbers → Numbers
plain n = plain_in n (state_of n.phase n.attempt)

-- the parts of Format 2 in hand: none where the numbers say so; the count of proprietary PGNs stands among the numbers
abbrev pub parts_of : Numbers → F2List → F2List
parts_of n parts = counted n.proprietary (pick (is_set n.blank) no_parts parts)

-- begin: so many are wanted, and the record's lists have the counts that they had; every other count is 0, and no part of Format 2 is in hand
abbrev pub opened_with : Numbers → ℕ → Numbers
opened_with n wanted =
    record {
      phase = 0;
      attempt = 0;
      due = 0;
      wanted = wanted;
      owed = 0;
      fresh = 0;
      list = 0;
      proprietary = 0;
      known = 0;
      saved = n.saved;
      present = n.present;
      refused = n.refused;
      read = 0;
      complete = 0;
      told = 0;
      version = 0;
      blank = 1;
    }

-- THE SESSION that these numbers and arrays hold ("a phase enum of numbers, with arrays and counts beside it")
-- in this phase, whatever the numbers say of it
abbrev pub session_at : State → Numbers → Stored → Sync
session_at st n s =
    record {
      state = st;
      wanted = record { items = s.wanted; n = n.wanted };
      owed = record { items = s.owed; n = n.owed };
      fresh = record { items = s.fresh; n = n.fresh };
      list = record { items = s.list; n = n.list };
      f2 = parts_of n s.parts;
      is_known = is_set n.read;
      complete = is_set n.complete;
      known = record { items = s.known; n = n.known };
      saved = record { items = s.saved; n = n.saved };
      present = record { items = s.present; n = n.present };
      refused = record { items = s.refused; n = n.refused };
      deadline = n.due;
      told = is_set n.told;
      version = n.version;
    }

abbrev pub session_of : Numbers → Stored → Sync
session_of n s = session_at (state_of n.phase n.attempt) n s

-- what memory holds
abbrev pub session_in : Stored → Sync
session_in s = session_of s.numbers s

abbrev pub counts_of : Numbers → Counts
counts_of n =
    record {
      wanted = n.wanted;
      owed = n.owed;
      fresh = n.fresh;
      list = n.list;
      proprietary = n.proprietary;
      known = n.known;
      saved = n.saved;
      present = n.present;
      refused = n.refused;
    }

-- "State is not well formed when": a phase over 7, or counts that no session has
abbrev pub is_well_formed : Limits → Numbers → Bool
is_well_formed l n = leb n.phase 7 && sound_at l (counts_of n) (state_of n.phase n.attempt)

-- bounds that suit every phase but enabling ("before enabling (done aside) a record list passes 192")
abbrev pub is_calm : Limits → Numbers → Bool
is_calm l n =
    leb n.wanted l.wanted
    && leb n.owed l.wanted
    && leb n.fresh l.wanted
    && leb n.list l.list
    && leb n.proprietary 512
    && leb n.known l.known
    && leb n.saved 192
    && leb n.present 192
    && leb n.refused 192
    && leb n.phase 7
    && not (eqb n.phase 4)
    && (l.two || not (eqb n.phase 3))

-- one look tells that a tick is taken and does nothing: calm numbers, not due, no 13 and no 7
abbrev pub rests_on : Limits → Numbers → ℕ → ℕ → Bool
rests_on l n t room =
    is_calm l n && (ltb t n.due || eqb n.phase 0 || eqb n.phase 7) && leb t 18446744073709541615 && leb 32 room

-- and a message: calm numbers, no 13, 6, 7, and of no interest in the phase
abbrev pub ignores_on : Limits → Numbers → ℕ → List ℕ → ℕ → Bool
ignores_on l n t m room =
    is_calm l n
    && leb t 18446744073709541615
    && leb (length m) 255
    && leb 32 room
    && not (minds_in (state_of n.phase n.attempt) m)
