-- The machine: its limits, and what it holds. Assumes nothing.
use Rattle.std.specs.Prelude.{ℕ, ◌%◌, List, ltb, get_or, true, replicate, Result, Ok, Err, ◌≡◌, [], ◌∷◌, Option, Some, None}
use Rattle.std.specs.Borrow.{GName}
use Rattle.field.specs.Pick.{pick}
use Rattle.lists.specs.declared.F2List.{F2List}
use Rattle.lists.specs.Format2.{no_parts}
use Rattle.bounds.specs.declared.Limits.{Limits}
use Rattle.helm.specs.declared.stored.Numbers.{Numbers}
use Rattle.helm.specs.declared.machines.Helm.{Helm}
use Rattle.helm.specs.declared.lent.Lent.{Lent}
use Rattle.helm.specs.declared.lent_arrays.LentArrays.{LentArrays}
use Rattle.session.specs.Sync.{Begun, clear}
use Rattle.helm.specs.declared.words.Refusal.{Refusal}
use Rattle.helm.specs.Words.{refusal_number}
use Rattle.helm.specs.Stored.{Stored, session_in}

-- "capacity (.. wanted, owed, fresh 64; list 1,024 ..)"
abbrev pub helm_limits : Limits
helm_limits = record { wanted = 64; list = 1024; known = 1344; two = true }

abbrev pub helm_stored : Helm → Stored
helm_stored m =
    record {
      numbers = m.numbers;
      wanted = m.wanted;
      owed = m.owed;
      fresh = m.fresh;
      list = m.list;
      known = m.known;
      saved = m.saved;
      present = m.present;
      refused = m.refused;
      parts = m.parts;
      loans = [];
    }

-- no session and no record: all of it 0, and no part of Format 2
abbrev pub helm_blank : Stored
helm_blank =
    record {
      numbers =
          record {
            phase = 0;
            attempt = 0;
            due = 0;
            wanted = 0;
            owed = 0;
            fresh = 0;
            list = 0;
            proprietary = 0;
            known = 0;
            saved = 0;
            present = 0;
            refused = 0;
            read = 0;
            complete = 0;
            told = 0;
            version = 0;
            blank = 0;
          };
      wanted = replicate 64 0;
      owed = replicate 64 0;
      fresh = replicate 64 0;
      list = replicate 1024 0;
      known = replicate 1344 0;
      saved = replicate 256 0;
      present = replicate 256 0;
      refused = replicate 256 0;
      parts = no_parts;
      loans = [];
    }

-- what `Helm::begun` answers: the session that the machine holds, or the number of the refusal, which leaves no session
abbrev pub told_begun : Result Helm Refusal → Begun
told_begun (Ok h) = record { number = 0; sync = session_in (helm_stored h) }
told_begun (Err e) = record { number = refusal_number e; sync = clear }

-- a number of 32 bits, of 16; one that has more is the largest: over every count, no phase, and set as a flag
abbrev pub word : ℕ → ℕ
word x = pick (ltb 4294967295 x) 4294967295 x

abbrev pub half : ℕ → ℕ
half x = pick (ltb 65535 x) 65535 x

-- THE LAYOUT of the 17 numbers (decision 69): the attempt modulo 2^32, the firmware modulo 2^16
abbrev pub numbers_in : List ℕ → Numbers
numbers_in n =
    record {
      phase = word (get_or n 0 0);
      attempt = get_or n 1 0 % 4294967296;
      due = get_or n 11 0;
      wanted = word (get_or n 2 0);
      owed = word (get_or n 3 0);
      fresh = word (get_or n 4 0);
      list = word (get_or n 5 0);
      proprietary = word (get_or n 6 0);
      known = word (get_or n 7 0);
      saved = word (get_or n 8 0);
      present = word (get_or n 9 0);
      refused = word (get_or n 10 0);
      read = word (get_or n 12 0);
      complete = word (get_or n 13 0);
      told = word (get_or n 14 0);
      version = get_or n 15 0 % 65536;
      blank = half (get_or n 16 0);
    }

-- the references of a lent session
abbrev pub loans_of : Lent → List GName
loans_of m =
    m.numbers.ghost_name
    ∷ m.wanted.ghost_name
    ∷ m.owed.ghost_name
    ∷ m.fresh.ghost_name
    ∷ m.list.ghost_name
    ∷ m.known.ghost_name
    ∷ m.saved.ghost_name
    ∷ m.present.ghost_name
    ∷ m.refused.ghost_name
    ∷ []

-- the parts of Format 2; where none are lent, none is in hand
abbrev pub parts_lent : Option F2List → F2List
parts_lent None = no_parts
parts_lent (Some parts) = parts

-- what stands behind them
abbrev pub lent_plain : Lent → Stored
lent_plain m =
    record {
      numbers = numbers_in m.numbers.now;
      wanted = m.wanted.now;
      owed = m.owed.now;
      fresh = m.fresh.now;
      list = m.list.now;
      known = m.known.now;
      saved = m.saved.now;
      present = m.present.now;
      refused = m.refused.now;
      parts = parts_lent m.parts;
      loans = [];
    }

abbrev pub lent_stored : Lent → Stored
lent_stored m = record (lent_plain m) { loans = loans_of m }

-- the same with the numbers in hand, and no parts
abbrev pub arrays_plain : LentArrays → Stored
arrays_plain m =
    record {
      numbers = m.numbers;
      wanted = m.wanted.now;
      owed = m.owed.now;
      fresh = m.fresh.now;
      list = m.list.now;
      known = m.known.now;
      saved = m.saved.now;
      present = m.present.now;
      refused = m.refused.now;
      parts = no_parts;
      loans = [];
    }

abbrev pub arrays_stored : LentArrays → Stored
arrays_stored m =
    record (arrays_plain m) {
      loans =
          m.wanted.ghost_name
          ∷ m.owed.ghost_name
          ∷ m.fresh.ghost_name
          ∷ m.list.ghost_name
          ∷ m.known.ghost_name
          ∷ m.saved.ghost_name
          ∷ m.present.ghost_name
          ∷ m.refused.ghost_name
          ∷ [];
    }

-- one holds the references of the other, each in its place: what the one ends with, the lender finds
pub record SameLoans (a b : Lent) : Type 0 where
  pub numbers : a.numbers.ghost_name ≡ b.numbers.ghost_name
  pub wanted : a.wanted.ghost_name ≡ b.wanted.ghost_name
  pub owed : a.owed.ghost_name ≡ b.owed.ghost_name
  pub fresh : a.fresh.ghost_name ≡ b.fresh.ghost_name
  pub list : a.list.ghost_name ≡ b.list.ghost_name
  pub known : a.known.ghost_name ≡ b.known.ghost_name
  pub saved : a.saved.ghost_name ≡ b.saved.ghost_name
  pub present : a.present.ghost_name ≡ b.present.ghost_name
  pub refused : a.refused.ghost_name ≡ b.refused.ghost_name

pub record SameArrays (a b : LentArrays) : Type 0 where
  pub wanted : a.wanted.ghost_name ≡ b.wanted.ghost_name
  pub owed : a.owed.ghost_name ≡ b.owed.ghost_name
  pub fresh : a.fresh.ghost_name ≡ b.fresh.ghost_name
  pub list : a.list.ghost_name ≡ b.list.ghost_name
  pub known : a.known.ghost_name ≡ b.known.ghost_name
  pub saved : a.saved.ghost_name ≡ b.saved.ghost_name
  pub present : a.present.ghost_name ≡ b.present.ghost_name
  pub refused : a.refused.ghost_name ≡ b.refused.ghost_name
