-- What the functions' answers tell, in the words of `Line`. Assumes nothing.
use Rattle.std.specs.Prelude.{ℕ, ◌+◌, ◌*◌, ◌&&◌, List, length, Option as Answer, None, Some, Result, Ok, Err}
use Rattle.std.proofs.Math.Option.{Option, none, some}
use Rattle.field.specs.Pick.{pick}
use Rattle.scripts.specs.declared.Line.{Line as Said}
use Rattle.scripts.specs.declared.Line.TheVariants.{Tick as SaysTick, Wire as SaysWire, Firmware as SaysFirmware}
use Rattle.scripts.specs.declared.error.LineError.{LineError}
use Rattle.scripts.specs.declared.error.LineError.TheVariants.{NoTime, NoWord, TooMuch, NoBytes, NoVersion}
use Rattle.scripts.specs.Line.{Line, Skipped, Tick, Wire, Firmware, Bad, hex_of, is_hex}

-- the number of each error
abbrev pub line_number : LineError → ℕ
line_number NoTime = 1
line_number NoWord = 2
line_number TooMuch = 3
line_number NoBytes = 4
line_number NoVersion = 5

-- the answer of `number`
abbrev pub told_decimal : Answer ℕ → Option ℕ
told_decimal (Some v) = some v
told_decimal None = none

-- a line that is not skipped
abbrev pub told_said : Result Said LineError → Line
told_said (Ok (SaysTick t)) = Tick t
told_said (Ok (SaysWire t)) = Wire t
told_said (Ok (SaysFirmware t v)) = Firmware t v
told_said (Err e) = Bad (line_number e)

-- the answer of `read_line`
abbrev pub told_line : Result (Answer Said) LineError → Line
told_line (Ok None) = Skipped
told_line (Ok (Some l)) = told_said (Ok l)
told_line (Err e) = Bad (line_number e)

-- a digit's value, or 16
abbrev pub told_digit : Answer ℕ → ℕ
told_digit (Some d) = d
told_digit None = 16

-- the byte that two digits spell
abbrev pub pair_of : ℕ → ℕ → Option ℕ
pair_of a b = pick (is_hex a && is_hex b) (some (16 * hex_of a + hex_of b)) none

abbrev pub told_pair : Answer ℕ → Option ℕ
told_pair (Some b) = some b
told_pair None = none

-- how many bytes there are, if there are only bytes
abbrev pub length_of : Option (List ℕ) → Option ℕ
length_of none = none
length_of (some l) = some (length l)

abbrev pub told_count : Answer ℕ → Option ℕ
told_count (Some n) = some n
told_count None = none
