-- The calls of a script. Sentences in quotes are oracle/FORMAT.md's. Assumes nothing.
use Rattle.std.specs.Prelude.{ℕ, ◌-◌, ◌<◌, ◌≡◌, List, Option, take, drop, get_or, MatchOption}
use Rattle.transcript.specs.Script.{call_size}
use Rattle.transcript.specs.declared.script.Call.{Call}
use Rattle.transcript.specs.declared.script.Script.{Script}

-- the call at the front of a script, "op u8, length u16, body", and the script after it
pub record IsCallOf (script : List ℕ) (call_op : ℕ) (call_body rest : List ℕ) : Type 0 where
  pub whole : 0 < call_size script 0
  pub op : call_op ≡ get_or script 0 0
  pub body : call_body ≡ take (call_size script 0 - 3) (drop 3 script)
  pub after : rest ≡ drop (call_size script 0) script

-- a call is taken off the front of a script; or none is left there, "op 0, or less than a whole call", and the script stays
abbrev pub TakesCall : Script → Option Call → Script → Type 0
TakesCall s r t =
    MatchOption r ((call_size s.bytes.now 0 ≡ 0) × (t.bytes.now ≡ s.bytes.now)) (λ c. IsCallOf s.bytes.now c.op c.body t.bytes.now)
