-- What each call of a session in memory answers and leaves. Assumes nothing.
use Rattle.std.specs.Prelude.{ℕ, ◌≤◌, ◌≡◌, Bool, true, false, not, ◌&&◌, List, leb, ltb, length, Result, Ok, Err, Option, Some, None}
use Rattle.field.specs.Pick.{pick}
use Rattle.field.specs.Written.{written}
use Rattle.lists.specs.declared.F2List.{F2List}
use Rattle.lists.specs.Format2.{no_parts, formed}
use Rattle.std.proofs.lemmas.List.Edits.{sets}
use Rattle.bounds.specs.declared.Limits.{Limits}
use Rattle.bounds.specs.Bounds.{old_fits}
use Rattle.tx_list.specs.Reading.{Call, firmware, message}
use Rattle.tx_list.specs.Session as model
use Rattle.tx_list.specs.Session.{Session, all_le}
use Rattle.tx_list.specs.Stored as stored
use Rattle.tx_list.specs.Stored.{Store, CallAnswer, new, again, opens}
use Rattle.tx_list.specs.Memory.{abs_flat, counts, store_by, clear_flat}
use Rattle.session.specs.Sync.{Sync, same, frame_of, Told, Begun, wrote_step}
use Rattle.helm.specs.declared.words.Refusal.{Refusal}
use Rattle.helm.specs.declared.words.Refusal.TheVariants.{NotWellFormed}
use Rattle.helm.specs.declared.words.Lack.{Lack}
use Rattle.helm.specs.declared.moment.Moment.{Moment}
use Rattle.helm.specs.Words.{refusal_number, told_lack}
use Rattle.numbers.specs.Layout.{due_in}
use Rattle.helm.specs.declared.calls.Ticked.{Ticked}
use Rattle.helm.specs.declared.stored.Numbers.{Numbers}
use Rattle.helm.specs.Steps.{minded, overfills, heard_by}
use Rattle.helm.specs.Stored.{Stored, HasSizes, FitLimits, kind_of, session_in, session_of, counts_of, opened_with, is_well_formed}

-- a session in arrays and counts, as a store of the model's (tx_list/specs/Stored), at a machine's limits
abbrev pub store_of : (l : Limits) → Store (kind_of l)
store_of l = store_by (kind_of l) Sync same same (clear_flat (kind_of l) no_parts 0) frame_of

-- "a lent slice and a count; bytes after the count are kept": the bytes of an answer at the start of the output
abbrev pub gave : (l : Limits) → CallAnswer (kind_of l) (store_of l) → List ℕ → Told
gave l a out = record { number = a.no; count = length a.bytes; sync = a.kept; out = written a.bytes out }

-- an answer without bytes
abbrev pub begun : (l : Limits) → CallAnswer (kind_of l) (store_of l) → Begun
begun l a = record { number = a.no; sync = a.kept }

-- "number, count": what a call answered, and what it left of the session and the output
abbrev pub told : Result ℕ Refusal → Stored → List ℕ → Told
told (Ok count) s out = record { number = 0; count = count; sync = session_in s; out = out }
told (Err e) s out = record { number = refusal_number e; count = 0; sync = session_in s; out = out }

-- the same of a call that has no output
abbrev pub told_done : {A : Type 0} → Result A Refusal → Stored → Begun
told_done (Ok u) s = record { number = 0; sync = session_in s }
told_done (Err e) s = record { number = refusal_number e; sync = session_in s }

-- Calls over the numbers alone, whatever memory the arrays lie in

-- memory of a machine with these limits, which holds these numbers
pub record Holds (l : Limits) (n : Numbers) (s : Stored) : Type 0 where
  pub fit : FitLimits l
  pub sizes : HasSizes l s
  pub numbers : s.numbers ≡ n

-- what is left of the session, once the numbers of a call that was taken are stored; in a refusal nothing is
abbrev pub told_numbers : Result Numbers Refusal → Stored → Begun
told_numbers (Ok n) s = record { number = 0; sync = session_of n s }
told_numbers (Err e) s = record { number = refusal_number e; sync = session_in s }

-- the same of begin, once these PGNs are written over the array of the wanted ones too
abbrev pub told_opened : Result Numbers Refusal → Stored → List ℕ → Begun
told_opened (Ok n) s want = record { number = 0; sync = session_of n (record s { wanted = sets s.wanted 0 want }) }
told_opened (Err e) s want = record { number = refusal_number e; sync = session_in s }

-- the same of a tick, with the output
abbrev pub told_ticked : Result Ticked Refusal → Stored → List ℕ → Told
told_ticked (Ok t) s out = record { number = 0; count = t.count; sync = session_of t.numbers s; out = out }
told_ticked (Err e) s out = record { number = refusal_number e; count = 0; sync = session_in s; out = out }

-- a phase over 7 is none: 16, and nothing changes
abbrev pub refused_phase : Stored → Begun
refused_phase s = record { number = 16; sync = session_in s }

-- THE CONTRACT of message and tick: what module 6 says of the session that memory holds, written over it
abbrev pub called : Limits → Stored → Call → List ℕ → Told
called l s x out =
    pick (ltb 7 s.numbers.phase) (record { number = 16; count = 0; sync = session_in s; out = out })
    (gave l (stored.called (kind_of l) (store_of l) (session_in s) x) out)

-- THE CONTRACT of set_firmware
abbrev pub set_to : Limits → Stored → ℕ → Begun
set_to l s v = pick (ltb 7 s.numbers.phase) (refused_phase s) (begun l (stored.called (kind_of l) (store_of l) (session_in s) (firmware v)))

-- THE CONTRACT of restart
abbrev pub restarted : Limits → Stored → Begun
restarted l s = pick (ltb 7 s.numbers.phase) (refused_phase s) (begun l (opens (kind_of l) (store_of l) (again (session_in s))))

-- THE CONTRACT of abandon
abbrev pub abandoned : Limits → Stored → Begun
abandoned l s = pick (ltb 7 s.numbers.phase) (refused_phase s) (begun l (stored.abandoned (kind_of l) (store_of l) (session_in s)))

-- THE CONTRACT of begin: "Begin 11, 12"; else these PGNs are wanted, and the record stays where it stands
abbrev pub begun_with : Limits → Stored → List ℕ → Begun
begun_with l s want =
    pick (ltb l.wanted (length want)) (record { number = 11; sync = session_in s })
    (pick (old_fits (counts_of s.numbers)) (record { number = 0; sync = session_of (opened_with s.numbers (length want)) (record s { wanted = sets s.wanted 0 want }) })
    (record { number = 12; sync = session_in s }))

-- 16, as module 6 has it: a phase over 7, or a session that is not well formed
abbrev pub is_session : Limits → Stored → Bool
is_session l s = leb s.numbers.phase 7 && ((formed (session_in s).f2 && all_le (counts (kind_of l) (session_in s))) && model.well_formed (kind_of l) (abs_flat (session_in s)))

-- THE SESSION of module 6 that memory holds; none, where its state is not well formed
abbrev pub state_of : Limits → Stored → Option (Session F2List ℕ)
state_of l s = pick (is_session l s) (Some (abs_flat (session_in s))) None

-- of is_done
abbrev pub done_of : Option (Session F2List ℕ) → Result Bool Refusal
done_of None = Err NotWellFormed
done_of (Some s) = Ok (model.is_done s.phase)

-- of lacks: the refusal, or what module 6 says
pub data Said : Type 0 where
  says : model.Lacks → Said
  refuses : Refusal → Said

abbrev pub told_lacks : Result (Option Lack) Refusal → Said
told_lacks (Ok x) = says (told_lack x)
told_lacks (Err e) = refuses e

abbrev pub lack_of : Option (Session F2List ℕ) → ℕ → Said
lack_of None p = refuses NotWellFormed
lack_of (Some s) p = says (model.lacks s.known p)

-- a tick is taken ("tick 16, 13, 7") and does nothing
abbrev pub idle_at : Limits → Numbers → ℕ → ℕ → Bool
idle_at l n t room = is_well_formed l n && (leb t 18446744073709541615 && (leb 32 room && not (due_in n.phase n.due t)))

-- a message is taken ("Session message 16, 13, 6, 7, 14") and does nothing
abbrev pub ignored_at : Limits → Numbers → ℕ → List ℕ → ℕ → Bool
ignored_at l n t m room = is_well_formed l n && (leb t 18446744073709541615 && (leb (length m) 255 && (leb 32 room && not (minded n m))))

-- THE TESTS OF A MESSAGE, before any of its work is done

-- it is of no interest: taken, and nothing changes
pub record Quiet (l : Limits) (s : Stored) (t : ℕ) (m : List ℕ) (room : ℕ) : Type 0 where
  pub formed : is_well_formed l s.numbers ≡ true
  pub minds : minded s.numbers m ≡ false
  pub call : (out : List ℕ) → told (Ok 0) s out ≡ called l s (message t m room) out

-- it is taken, and does at this moment what the phase says
pub record Hearable (l : Limits) (s : Stored) (t : ℕ) (m : List ℕ) (room : ℕ) (at : Moment) : Type 0 where
  pub formed : is_well_formed l s.numbers ≡ true
  pub minds : minded s.numbers m ≡ true
  pub list : overfills l s.numbers s m ≡ false
  pub fits : 32 ≤ room
  pub call : (out : List ℕ) → wrote_step (heard_by l s.numbers s at.ms m) out ≡ called l s (message t m room) out

abbrev pub Judged : Limits → Stored → ℕ → List ℕ → ℕ → Result (Option Moment) Refusal → Type 0
Judged l s t m room (Err e) = (out : List ℕ) → told (Err e) s out ≡ called l s (message t m room) out
Judged l s t m room (Ok None) = Quiet l s t m room
Judged l s t m room (Ok (Some at)) = Hearable l s t m room at
