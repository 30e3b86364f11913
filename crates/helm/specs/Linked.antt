-- A session that memory holds, as the definitions over numbers and lent arrays have it (session/specs/Lent). Assumes nothing.
use Rattle.std.specs.Prelude.{ℕ, ◌%◌, List, [], get_or, ltb, Result, Ok, Err, Option}
use Rattle.field.specs.Pick.{pick}
use Rattle.numbers.specs.Layout.{is_set, state_of}
use Rattle.session.specs.Sync.{Sync, Begun, Told, Said, says, refused}
use Rattle.session.specs.Lent as lent
use Rattle.session.specs.Lent.{Arrays, sync_of}
use Rattle.helm.specs.declared.stored.Numbers.{Numbers}
use Rattle.helm.specs.declared.calls.Ticked.{Ticked}
use Rattle.helm.specs.declared.words.Refusal.{Refusal}
use Rattle.helm.specs.declared.words.Lack.{Lack}
use Rattle.helm.specs.Words.{refusal_number, told_lack}
use Rattle.helm.specs.Stored.{Stored, counts_of, session_in}

-- the phase and attempt as a state, a flag as one
abbrev pub as_lent : Numbers → lent.Numbers
as_lent n =
    record {
      state = state_of n.phase n.attempt;
      totals =
          record {
            counts = counts_of n;
            deadline = n.due;
            read = is_set n.read;
            complete = is_set n.complete;
            told = is_set n.told;
            version = n.version;
            blank = is_set n.blank;
          };
    }

abbrev pub arrays_in : Stored → Arrays
arrays_in s = lent.lent s.wanted s.owed s.fresh s.list s.known s.saved s.present s.refused s.parts

abbrev pub stored_in : Numbers → Arrays → Stored
stored_in n a =
    record {
      numbers = n;
      wanted = a.wanted;
      owed = a.owed;
      fresh = a.fresh;
      list = a.list;
      known = a.known;
      saved = a.saved;
      present = a.present;
      refused = a.refused;
      parts = a.f2;
      loans = [];
    }

-- the numbers that 17 tell, none of them cut but the attempt and the version
abbrev pub uncut : List ℕ → Numbers
uncut n =
    record {
      phase = get_or n 0 0;
      attempt = get_or n 1 0 % 4294967296;
      due = get_or n 11 0;
      wanted = get_or n 2 0;
      owed = get_or n 3 0;
      fresh = get_or n 4 0;
      list = get_or n 5 0;
      proprietary = get_or n 6 0;
      known = get_or n 7 0;
      saved = get_or n 8 0;
      present = get_or n 9 0;
      refused = get_or n 10 0;
      read = get_or n 12 0;
      complete = get_or n 13 0;
      told = get_or n 14 0;
      version = get_or n 15 0 % 65536;
      blank = get_or n 16 0;
    }

-- a phase over 7 is none: 16, and nothing changes; else what a call does to the session that memory holds
abbrev pub begun_by : (Sync → Begun) → Stored → Begun
begun_by go s = pick (ltb 7 s.numbers.phase) (record { number = 16; sync = session_in s }) (go (session_in s))

abbrev pub told_by : (Sync → Told) → List ℕ → Stored → Told
told_by go out s = pick (ltb 7 s.numbers.phase) (record { number = 16; count = 0; sync = session_in s; out = out }) (go (session_in s))

-- what a call over the numbers alone leaves of a session whose 17 numbers are lent: those that it answers; in a refusal the lent ones stay
abbrev pub lent_numbers : List ℕ → Result Numbers Refusal → Arrays → Begun
lent_numbers n (Ok x) a = record { number = 0; sync = sync_of (as_lent x) a }
lent_numbers n (Err e) a = record { number = refusal_number e; sync = sync_of (as_lent (uncut n)) a }

abbrev pub lent_ticked : List ℕ → Result Ticked Refusal → Arrays → List ℕ → Told
lent_ticked n (Ok t) a out = record { number = 0; count = t.count; sync = sync_of (as_lent t.numbers) a; out = out }
lent_ticked n (Err e) a out = record { number = refusal_number e; count = 0; sync = sync_of (as_lent (uncut n)) a; out = out }

-- of begin, with these PGNs written over the array of the wanted ones where it is taken
abbrev pub lent_opened : List ℕ → Result Numbers Refusal → List ℕ → Arrays → Begun
lent_opened n (Ok x) want a = record { number = 0; sync = sync_of (as_lent x) (lent.wanting a want) }
lent_opened n (Err e) want a = record { number = refusal_number e; sync = sync_of (as_lent (uncut n)) a }

-- of lacks: what is said, or the refusal's number
abbrev pub lent_lacks : Result (Option Lack) Refusal → Said
lent_lacks (Ok x) = says (told_lack x)
lent_lacks (Err e) = refused (refusal_number e)

-- a phase over 7 is none: 16
abbrev pub said_by : (Sync → Said) → Stored → Said
said_by go s = pick (ltb 7 s.numbers.phase) (refused 16) (go (session_in s))

-- of message, once numbers and arrays are these
abbrev pub lent_heard : List ℕ → Result ℕ Refusal → Numbers → Arrays → List ℕ → Told
lent_heard n (Ok count) x a out = record { number = 0; count = count; sync = sync_of (as_lent x) a; out = out }
lent_heard n (Err e) x a out = record { number = refusal_number e; count = 0; sync = sync_of (as_lent (uncut n)) a; out = out }
