-- What the types of src/ say, in the words of Log and Lent. Assumes nothing.
use Rattle.std.specs.Prelude.{ℕ, ◌-◌, ◌≡◌, List, Result, Ok, Err, take, drop}
use Rattle.std.specs.Borrow.{GName}
use Rattle.transcript.specs.Log.{Log, log, puts, head_of}
use Rattle.transcript.specs.Lent.{Lent, area_closed, lent_closed}
use Rattle.transcript.specs.LentAnswer.{leaves}
use Rattle.transcript.specs.declared.area.Area.{Area}
use Rattle.transcript.specs.declared.answer.Transcript.{Transcript}

-- a transcript as a log
abbrev pub told : Transcript → Log
told t = log t.place t.text.now

-- the slice that a transcript is written into, by the name of its loan: while it is the same, what the transcript tells is what the lender's slice holds
abbrev pub slice_name : Transcript → GName
slice_name t = t.text.ghost_name

-- what a call makes of a transcript: what it tells then, in the same slice
pub record Tells (old new : Transcript) (l : Log) : Type 0 where
  pub told : told new ≡ l
  pub same_slice : slice_name new ≡ slice_name old

-- an area closed by what a call on it answered: how many bytes it wrote, or the number of its refusal
abbrev pub told_closed : Area → Result ℕ ℕ → List ℕ → Log
told_closed a (Ok written) text = area_closed a 0 written text
told_closed a (Err number) text = puts (log a.head text) (head_of a.op number)

-- 0, or the number of a refusal
abbrev pub number_of : Result ℕ ℕ → ℕ
number_of (Ok written) = 0
number_of (Err number) = number

abbrev pub told_lent : Area → Result ℕ ℕ → List ℕ → Log
told_lent a outcome text = lent_closed a (number_of outcome) text

-- a call on the area of an opened answer answers `outcome` and leaves `bytes` there
pub record LendsArea (answers : List ℕ → Result ℕ ℕ → List ℕ → Type 0) (o : Lent) (outcome : Result ℕ ℕ) (text : List ℕ) : Type 0 where
  pub bytes : List ℕ
  pub called : answers (take (o.area.end - o.area.start) (drop o.area.start o.text)) outcome bytes
  pub left : text ≡ leaves o bytes

-- and that closes it
pub record AnswersArea (answers : List ℕ → Result ℕ ℕ → List ℕ → Type 0) (close : Area → Result ℕ ℕ → List ℕ → Log) (o : Lent) (m : Log) : Type 0 where
  pub outcome : Result ℕ ℕ
  pub text : List ℕ
  pub lends : LendsArea answers o outcome text
  pub closed : m ≡ close o.area outcome text
