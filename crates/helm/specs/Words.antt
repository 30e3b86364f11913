-- The words of a session in the terms of module 6 (document 01, "Causes and numbers"). Assumes nothing.
use Rattle.std.specs.Prelude.{ℕ, List, [], ◌∷◌, Option, Some, None}
use Rattle.tx_list.specs.Reading.{Command, read1, read40, read4_f, enable, commit, activate}
use Rattle.tx_list.specs.Session.{Lacks, silent, from_whole, from_part}
use Rattle.helm.specs.declared.words.Refusal.{Refusal}
use Rattle.helm.specs.declared.words.Refusal.TheVariants.{NotWellFormed, TimeOverLimit, MessageTooLong, NoRoom, ListFull, TooManyWanted, RecordTooLong}
use Rattle.commands.specs.declared.Command as written
use Rattle.commands.specs.declared.Command.TheVariants.{GetProductInfo, GetOperatingMode, SetOperatingMode, GetPortPcode, SetPortPcode, ReadF1, ReadF2, Enable, Commit, Activate}
use Rattle.helm.specs.declared.words.Lack.{Lack}
use Rattle.helm.specs.declared.words.Lack.TheVariants.{FromWhole, FromPart}

-- a refusal's number
abbrev pub refusal_number : Refusal → ℕ
refusal_number NotWellFormed = 16
refusal_number TimeOverLimit = 13
refusal_number MessageTooLong = 6
refusal_number NoRoom = 7
refusal_number ListFull = 14
refusal_number TooManyWanted = 11
refusal_number RecordTooLong = 12

-- the commands of a call: the read of Format 2 is two; of those that no session sends, none
abbrev pub commands_of : Option written.Command → List Command
commands_of None = []
commands_of (Some ReadF1) = read1 ∷ []
commands_of (Some ReadF2) = read40 ∷ read4_f ∷ []
commands_of (Some (Enable pgn)) = enable pgn ∷ []
commands_of (Some Commit) = commit ∷ []
commands_of (Some Activate) = activate ∷ []
commands_of (Some GetProductInfo) = []
commands_of (Some GetOperatingMode) = []
commands_of (Some (SetOperatingMode code)) = []
commands_of (Some GetPortPcode) = []
commands_of (Some (SetPortPcode ports)) = []

-- "nothing, lacking from a whole list (Format 2), or lacking from a partial one"
abbrev pub told_lack : Option Lack → Lacks
told_lack None = silent
told_lack (Some FromWhole) = from_whole
told_lack (Some FromPart) = from_part
