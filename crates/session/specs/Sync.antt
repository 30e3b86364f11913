-- A session in arrays and counts as a store of module 6's session (document 01), and what each exported function answers. Assumes nothing.
use Rattle.std.specs.Prelude.{Bool, true, false, ◌&&◌, List, [], ◌∷◌, ℕ, ◌+◌, leb, ltb, length}
use Rattle.field.specs.Pick.{pick}
use Rattle.field.specs.Written.{written}
use Rattle.framing.specs.Frame.{frame}
use Rattle.replies.specs.Bem.{data_part}
use Rattle.commands.specs.Command as commands
use Rattle.lists.specs.declared.F2List.{F2List}
use Rattle.lists.specs.Format2.{no_parts, add_supported, add_enabled, pgns_of, formed}
use Rattle.tx_list.specs.Views.{starts, f1_of, added}
use Rattle.tx_list.specs.Reading.{Command, read1, read40, read4_f, enable, commit, activate, Kind, Call, firmware}
use Rattle.tx_list.specs.Session as model
use Rattle.tx_list.specs.Session.{Record, is_done}
use Rattle.tx_list.specs.Stored as stored
use Rattle.tx_list.specs.Stored.{Store, CallAnswer, new, again, opens}
use Rattle.tx_list.specs.Memory.{Buf, live, Flat, abs_flat, store_by, clear_flat, counts}
use Rattle.tx_list.specs.Moves.{Moved}
use Rattle.tx_list.specs.declared.State.{State}
use Rattle.tx_list.specs.declared.State.TheVariants.{AwaitStartup, ReadAt, ReadingF2, Reading as ReadingF1, Enabling, Committing, Activating, Done}

-- THE SESSION that numbers and arrays hold: what tx_list/specs/Memory reads a session from
abbrev pub Sync : Type 0
Sync = Flat F2List ℕ

-- a session under its own names
abbrev pub same : Sync → Sync
same s = s

-- its record: three lists with their arrays
pub record Learned : Type 0 where
  pub saved : Buf ℕ
  pub present : Buf ℕ
  pub refused : Buf ℕ

-- the record that a session holds
abbrev pub learned_in : Sync → Learned
learned_in s = record { saved = s.saved; present = s.present; refused = s.refused }

-- the gateway's list: whether it was read, whether it is whole, and its array
pub record Known : Type 0 where
  pub read : Bool
  pub complete : Bool
  pub list : Buf ℕ

-- the known list that a session holds
abbrev pub known_in : Sync → Known
known_in s = record { read = s.is_known; complete = s.complete; list = s.known }

-- Format 2: a reply 40 goes to the supported list, any other to the enabled and proprietary ones
unfoldable pub put : List ℕ → F2List → F2List
put m p = pick (starts 0x40 m) (add_supported (data_part m) p) (add_enabled (data_part m) p)

-- "capacity (.. wanted, owed, fresh 64; list 1,024 ..)", both formats, answers taken by first byte alone
abbrev pub kind : Kind
kind =
    record {
      want_max = 64;
      list_max = 1024;
      two = true;
      strict = false;
      Parts = F2List;
      blank = no_parts;
      put = put;
      whole = pgns_of;
      okay = formed;
      Entry = ℕ;
      entry = λ p m. p;
      pgn_of = λ p. p;
    }

-- a command's payload, and its frame on the wire (module 4: "All use command A1")
abbrev pub payload_of : Command → List ℕ
payload_of read1 = 0x49 ∷ []
payload_of read40 = 0x40 ∷ []
payload_of read4_f = 0x4F ∷ []
payload_of (enable p) = commands.enable p
payload_of commit = 0x01 ∷ []
payload_of activate = 0x4B ∷ []

-- a command on the wire
unfoldable pub frame_of : Command → List ℕ
frame_of c = frame 0xA1 (payload_of c)

-- a session of nothing: what begin writes over
abbrev pub clear : Sync
clear = clear_flat kind no_parts 0

-- a session in arrays and counts, as a store of the model's (tx_list/specs/Stored)
abbrev pub store : Store kind
store = store_by kind Sync same same clear frame_of

-- the record's lists
abbrev pub record_of : Learned → Record ℕ
record_of r = record { saved = live r.saved; present = live r.present; refused = live r.refused }

-- "a record list over 192, at begin or restart" is 12: none is
abbrev pub record_fits : Learned → Bool
record_fits r = (leb r.saved.n 192 && leb r.present.n 192) && leb r.refused.n 192

-- What a call leaves: the number, the count of bytes written, the session, and the lent output

-- what message and tick leave
pub record Told : Type 0 where
  pub number : ℕ
  pub count : ℕ
  pub sync : Sync
  pub out : List ℕ

-- "a lent slice and a count; bytes after the count are kept": the bytes of an answer at the start of the output
abbrev pub gave : CallAnswer kind store → List ℕ → Told
gave a out = record { number = a.no; count = length a.bytes; sync = a.kept; out = written a.bytes out }

-- THE CONTRACT of message and tick
abbrev pub called : Sync → Call → List ℕ → Told
called s x out = gave (stored.called kind store s x) out

-- what begin, restart, setting firmware and abandoning leave: the number and the session
pub record Begun : Type 0 where
  pub number : ℕ
  pub sync : Sync

-- an answer without bytes
abbrev pub begun : CallAnswer kind store → Begun
begun a = record { number = a.no; sync = a.kept }

-- of set_firmware, restart, abandon, begin
abbrev pub set_to : Sync → ℕ → Begun
set_to s v = begun (stored.called kind store s (firmware v))

-- THE CONTRACT of restart
abbrev pub restarted : Sync → Begun
restarted s = begun (opens kind store (again s))

-- THE CONTRACT of abandon
abbrev pub abandoned : Sync → Begun
abandoned s = begun (stored.abandoned kind store s)

-- THE CONTRACT of begin
abbrev pub begun_with : List ℕ → Record ℕ → Begun
begun_with w r = begun (opens kind store (new w r))

-- 16
abbrev pub sound : Sync → Bool
sound s = (formed s.f2 && model.all_le (counts kind s)) && model.well_formed kind (abs_flat s)

-- whether a session is done, with the number of a refusal
pub record IsDone : Type 0 where
  pub number : ℕ
  pub done : Bool

-- of is_done and lacks
abbrev pub done_of : Sync → IsDone
done_of s = pick (sound s) (record { number = 0; done = is_done (abs_flat s).phase }) (record { number = 16; done = false })

-- a phase that is done
abbrev pub done_in : State → Bool
done_in AwaitStartup = false
done_in ReadAt = false
done_in (ReadingF2 a) = false
done_in (ReadingF1 a) = false
done_in Enabling = false
done_in Committing = false
done_in Activating = false
done_in Done = true

-- the known list as the model has it
abbrev pub known_of : Known → model.Known
known_of k = record { is_read = k.read; is_whole = k.complete; pgns = live k.list }

-- what `lacks` says, or the refusal's number
pub data Said : Type 0 where
  says : model.Lacks → Said
  refused : ℕ → Said

-- THE CONTRACT of lacks: "`lacks`, ..: 16", else what the model says of the known list
abbrev pub lack_of : Sync → ℕ → Said
lack_of s p = pick (sound s) (says (model.lacks (abs_flat s).known p)) (refused 16)

-- Inside: what a step sends and leaves

-- 14: the list of n PGNs would pass 1,024
abbrev pub over_list : ℕ → List ℕ → Bool
over_list n m = ltb 1024 (n + length (added (f1_of m)))

-- the commands that a step sends, and the session that it leaves
pub record Stepped : Type 0 where
  pub sent : List Command
  pub sync : Sync

-- a step of tx_list/specs/Moves, without the list that it hands out (only a strict session does)
abbrev pub step_of : Moved F2List ℕ → Stepped
step_of x = record { sent = x.sent; sync = x.flat }

-- what a call leaves that made this step
abbrev pub wrote_step : Stepped → List ℕ → Told
wrote_step x out =
    record {
      number = 0;
      count = length (stored.wire kind store x.sent);
      sync = x.sync;
      out = written (stored.wire kind store x.sent) out;
    }
