-- What the code stores in the arrays of a session, and what it finds there. Assumes nothing.
use Rattle.std.specs.Prelude.{ℕ, Bool, not, List, take}
use Rattle.std.proofs.lemmas.List.Edits.{sets}
use Rattle.pgns.specs.Lists.{owed_from, skips}
use Rattle.tx_list.specs.Views.{has, only, notes}
use Rattle.helm.specs.declared.stored.Which.{Which}
use Rattle.helm.specs.declared.stored.Which.TheVariants.{Wanted, Known, Present, Refused}
use Rattle.helm.specs.Stored.{Stored, array_of, with_array}

-- these PGNs in a list's array, from a place on
abbrev pub storing : Stored → Which → ℕ → List ℕ → Stored
storing s w at pgns = with_array s w (sets (array_of w s) at pgns)

-- the first PGNs of a list's array
abbrev pub first : Which → ℕ → Stored → List ℕ
first w n s = take n (array_of w s)

-- the PGN, where the first of known lack it
abbrev pub absent : ℕ → ℕ → Stored → List ℕ
absent count pgn s = only (not (has pgn (first Known count s))) pgn

-- "known = list plus absent present PGNs"
abbrev pub known_with : ℕ → ℕ → Stored → List ℕ
known_with count present s = notes (first Known count s) (first Present present s)

-- nothing is owed for the PGN: the list read, the present or the refused ones have it
abbrev pub is_skipped : ℕ → ℕ → ℕ → Stored → ℕ → Bool
is_skipped list present refused s pgn = skips (first Known list s) (first Present present s) (first Refused refused s) pgn

-- the PGN, where it is owed
abbrev pub owed_one : ℕ → ℕ → ℕ → Stored → ℕ → List ℕ
owed_one list present refused s pgn = only (not (is_skipped list present refused s pgn)) pgn

-- "in wanted order with repeats, the wanted PGNs absent from the list read and from the old present and refused lists"
abbrev pub owed_by : ℕ → ℕ → ℕ → ℕ → Stored → List ℕ
owed_by wanted list present refused s =
    owed_from (first Wanted wanted s) (first Known list s) (first Present present s) (first Refused refused s)
