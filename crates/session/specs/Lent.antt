-- A session in lent memory: its numbers, and the arrays that stand beside them; what each function over them leaves. Assumes nothing.
use Rattle.std.specs.Prelude.{◌≡◌, Bool, true, false, not, ◌&&◌, List, ℕ, ◌+◌, ◌≤◌, leb, ltb, length}
use Rattle.std.proofs.Math.Option.{Option, none, some}
use Rattle.std.proofs.lemmas.List.Edits.{sets}
use Rattle.field.specs.Pick.{pick}
use Rattle.lists.specs.declared.F2List.{F2List}
use Rattle.lists.specs.Format2.{no_parts, pgns_of}
use Rattle.bounds.specs.declared.Counts.{Counts}
use Rattle.bounds.specs.Bounds.{sound_at}
use Rattle.views.specs.Told.{is_format2}
use Rattle.tx_list.specs.Views.{starts, is_mode, F2, wrong, part, neither, f2_of}
use Rattle.tx_list.specs.Moves.{full_in}
use Rattle.tx_list.specs.declared.State.{State}
use Rattle.tx_list.specs.declared.State.TheVariants.{AwaitStartup, ReadAt, ReadingF2, Reading as ReadingF1, Enabling, Committing, Activating, Done}
use Rattle.session.specs.Sync.{kind, put, Sync, Begun, learned_in, record_fits, Told}
use Rattle.session.specs.Sound.{helm, counts_of}

-- all numbers of a session but its phase: the counts of its lists, when a tick acts, whether a list of the gateway is known and whether
-- it is whole, the firmware, once told, and whether no part of Format 2 is in hand, whatever stands where they are kept
pub record Totals : Type 0 where
  pub counts : Counts
  pub deadline : ℕ
  pub read : Bool
  pub complete : Bool
  pub told : Bool
  pub version : ℕ
  pub blank : Bool

-- with the phase
pub record Numbers : Type 0 where
  pub state : State
  pub totals : Totals

-- the arrays, whole
pub record Arrays : Type 0 where
  pub wanted : List ℕ
  pub owed : List ℕ
  pub fresh : List ℕ
  pub list : List ℕ
  pub known : List ℕ
  pub saved : List ℕ
  pub present : List ℕ
  pub refused : List ℕ
  pub f2 : F2List

-- these arrays
abbrev pub lent : List ℕ → List ℕ → List ℕ → List ℕ → List ℕ → List ℕ → List ℕ → List ℕ → F2List → Arrays
lent wanted owed fresh list known saved present refused f2 =
    record {
      wanted = wanted;
      owed = owed;
      fresh = fresh;
      list = list;
      known = known;
      saved = saved;
      present = present;
      refused = refused;
      f2 = f2;
    }

-- the arrays have their lengths
pub record Fits (a : Arrays) : Type 0 where
  pub wanted_64 : length a.wanted ≡ 64
  pub owed_64 : length a.owed ≡ 64
  pub fresh_64 : length a.fresh ≡ 64
  pub list_1024 : length a.list ≡ 1024
  pub known_1344 : length a.known ≡ 1344
  pub saved_256 : length a.saved ≡ 256
  pub present_256 : length a.present ≡ 256
  pub refused_256 : length a.refused ≡ 256

-- parts of Format 2 with another count of proprietary PGNs
abbrev pub counted : ℕ → F2List → F2List
counted n f =
    record {
      supported = f.supported;
      enabled = f.enabled;
      proprietary = record { told = f.proprietary.told; list = record { pgns = f.proprietary.list.pgns; n = n } };
    }

-- the parts that the session holds: none where `blank` is set; the count of proprietary PGNs stands among the numbers (decision 65)
abbrev pub parts_of : Totals → F2List → F2List
parts_of t f = counted t.counts.proprietary (pick t.blank no_parts f)

-- THE SESSION that the numbers and the arrays hold ("a phase enum of numbers, with arrays and counts beside it")
abbrev pub sync_of : Numbers → Arrays → Sync
sync_of x a =
    record {
      state = x.state;
      wanted = record { items = a.wanted; n = x.totals.counts.wanted };
      owed = record { items = a.owed; n = x.totals.counts.owed };
      fresh = record { items = a.fresh; n = x.totals.counts.fresh };
      list = record { items = a.list; n = x.totals.counts.list };
      f2 = parts_of x.totals a.f2;
      is_known = x.totals.read;
      complete = x.totals.complete;
      known = record { items = a.known; n = x.totals.counts.known };
      saved = record { items = a.saved; n = x.totals.counts.saved };
      present = record { items = a.present; n = x.totals.counts.present };
      refused = record { items = a.refused; n = x.totals.counts.refused };
      deadline = x.totals.deadline;
      told = x.totals.told;
      version = x.totals.version;
    }

-- the numbers and the arrays of a session
abbrev pub numbers_of : Sync → Numbers
numbers_of s =
    record {
      state = s.state;
      totals =
          record {
            counts = counts_of s;
            deadline = s.deadline;
            read = s.is_known;
            complete = s.complete;
            told = s.told;
            version = s.version;
            blank = false;
          };
    }

-- the arrays of a session
abbrev pub arrays_of : Sync → Arrays
arrays_of s =
    lent s.wanted.items s.owed.items s.fresh.items s.list.items s.known.items s.saved.items s.present.items
    s.refused.items s.f2

-- other counts of what a call changes: wanted and the record stay
abbrev pub recount : Counts → ℕ → ℕ → ℕ → ℕ → ℕ → Counts
recount c owed fresh list proprietary known =
    record {
      wanted = c.wanted;
      owed = owed;
      fresh = fresh;
      list = list;
      proprietary = proprietary;
      known = known;
      saved = c.saved;
      present = c.present;
      refused = c.refused;
    }

-- the same with a due time and flags: the firmware stays
abbrev pub retotal : Totals → Counts → ℕ → Bool → Bool → Bool → Totals
retotal t c deadline read complete blank =
    record { counts = c; deadline = deadline; read = read; complete = complete; told = t.told; version = t.version; blank = blank }

-- other counts alone
abbrev pub counting : Totals → Counts → Totals
counting t c = retotal t c t.deadline t.read t.complete t.blank

-- a list of so many PGNs is known ("known = list plus absent present PGNs"), whole in Format 2
abbrev pub known_totals : Totals → Bool → ℕ → Totals
known_totals t whole n =
    let c = t.counts in
    retotal t (recount c c.owed c.fresh c.list c.proprietary n) t.deadline true whole t.blank

-- these parts of Format 2 are in hand
abbrev pub holding : Totals → F2List → Totals
holding t f =
    let c = t.counts in
    retotal t (recount c c.owed c.fresh c.list f.proprietary.list.n c.known) t.deadline t.read t.complete false

-- another phase, with an answer awaited from a time on ("Each command waits 10,000 ms, and each answer taken starts that wait anew")
abbrev pub awaiting : Totals → State → ℕ → Numbers
awaiting t st time = record { state = st; totals = retotal t t.counts (time + 10000) t.read t.complete t.blank }

-- 16 ("State is not well formed when: a count passes its capacity .."), by the numbers alone, at the session's limits
unfoldable pub sound_for : Numbers → Bool
sound_for x = sound_at helm x.totals.counts x.state

-- "A tick at or after a due time acts", in every phase that waits
abbrev pub waits_in : State → Bool
waits_in AwaitStartup = false
waits_in ReadAt = true
waits_in (ReadingF2 n) = true
waits_in (ReadingF1 n) = true
waits_in Enabling = true
waits_in Committing = true
waits_in Activating = true
waits_in Done = false

-- a tick at this time acts
unfoldable pub due_at : Numbers → ℕ → Bool
due_at x t = leb x.totals.deadline t && waits_in x.state

-- a message is of interest in the phase: "a parsed reply 11 with a mode", in Format 2 a "parsed reply 40 or 4F", in Format 1 "reply 49",
-- then 47, and commit and activate "each answered by first byte alone"; no other one changes anything (proofs/LentCalls)
unfoldable pub minds_in : State → List ℕ → Bool
minds_in AwaitStartup m = is_mode m
minds_in ReadAt m = false
minds_in (ReadingF2 n) m = is_format2 m
minds_in (ReadingF1 n) m = starts 0x49 m
minds_in Enabling m = starts 0x47 m
minds_in Committing m = starts 0x01 m
minds_in Activating m = starts 0x4B m
minds_in Done m = false

-- a tick, a message is taken ("Session message 16, 13, 6, 7, 14; tick 16, 13, 7") and does nothing
unfoldable pub idle_at : Numbers → ℕ → ℕ → Bool
idle_at x t room = sound_for x && (leb t 18446744073709541615 && (leb 32 room && not (due_at x t)))

-- a message is taken and does nothing
unfoldable pub ignored_at : Numbers → ℕ → List ℕ → ℕ → Bool
ignored_at x t m room =
    sound_for x && (leb t 18446744073709541615 && (leb (length m) 255 && (leb 32 room && not (minds_in x.state m))))

-- a call that was refused ("6 to 16 return the number alone and change no state or lent byte")
abbrev pub refused_with : ℕ → Numbers → Arrays → List ℕ → Told
refused_with n x a out = record { number = n; count = 0; sync = sync_of x a; out = out }

-- a message that no test refuses ("Session message 16, 13, 6, 7, 14")
pub record Admitted (x : Numbers) (t : ℕ) (m : List ℕ) (room : ℕ) : Type 0 where
  pub sound : sound_for x ≡ true
  pub early : t ≤ 18446744073709541615
  pub short : length m ≤ 255
  pub roomy : 32 ≤ room
  pub unfilled : (a : Arrays) → full_in kind x.state (sync_of x a) m ≡ false

-- a message while Format 2 is read is for `part`, any other for `message`: the other one answers 100 and does nothing (decision 66)
abbrev pub reads_f2 : State → Bool
reads_f2 AwaitStartup = false
reads_f2 ReadAt = false
reads_f2 (ReadingF2 n) = true
reads_f2 (ReadingF1 n) = false
reads_f2 Enabling = false
reads_f2 Committing = false
reads_f2 Activating = false
reads_f2 Done = false

-- the message is for the other function: 100, and nothing changes
abbrev pub not_here : Numbers → Arrays → List ℕ → Told
not_here x a out = refused_with 100 x a out

-- what `part` hands back beside what the session holds: the parts themselves, and whether none of them is in hand
pub record Hand : Type 0 where
  pub parts : F2List
  pub blank : Bool

-- of these numbers and parts
abbrev pub hand : Numbers → F2List → Hand
hand x f = record { parts = f; blank = x.totals.blank }

-- the parts p, with one put in, are kept for the next one, unless the list is whole with it (decision 55)
abbrev pub hand_by : Option (List ℕ) → F2List → Hand → Hand
hand_by none p h = record { parts = p; blank = false }
hand_by (some l) p h = h

-- after a message that is such a part, or another one, which leaves them
unfoldable pub hand_after : F2 → F2List → Hand → Hand
hand_after wrong p h = h
hand_after part p h = hand_by (pgns_of p) p h
hand_after neither p h = h

-- after a message while Format 2 is read
abbrev pub handed : Numbers → F2List → List ℕ → Hand
handed x f m = hand_after (f2_of m) (put m (parts_of x.totals f)) (hand x f)

-- begin ("A new session waits for a parsed reply 11 with a mode"): the record's lists stay where they stand; every other count is 0
abbrev pub opened_with : Counts → ℕ → Numbers
opened_with c n =
    record {
      state = AwaitStartup;
      totals =
          record {
            counts =
                record {
                  wanted = n;
                  owed = 0;
                  fresh = 0;
                  list = 0;
                  proprietary = 0;
                  known = 0;
                  saved = c.saved;
                  present = c.present;
                  refused = c.refused;
                };
            deadline = 0;
            read = false;
            complete = false;
            told = false;
            version = 0;
            blank = true;
          };
    }

-- these PGNs written over the array of the wanted ones
abbrev pub wanting : Arrays → List ℕ → Arrays
wanting a want =
    lent (sets a.wanted 0 want) a.owed a.fresh a.list a.known a.saved a.present a.refused a.f2

-- "Begin 11, 12": refused, and nothing changes; else the session that LentBegin shows to be begin's
unfoldable pub begun_in : Numbers → List ℕ → Arrays → Begun
begun_in x want a =
    pick (ltb 64 (length want)) (record { number = 11; sync = sync_of x a })
    (pick (record_fits (learned_in (sync_of x a))) (record { number = 0; sync = sync_of (opened_with x.totals.counts (length want)) (wanting a want) })
    (record { number = 12; sync = sync_of x a }))
