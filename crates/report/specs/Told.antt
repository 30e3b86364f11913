-- What the functions' answers tell, in the words of `Line` and `Listing`. Assumes nothing.
use Rattle.std.specs.Prelude.{ℕ, ◌≤◌, ◌<◌, ◌↔◌, Option, None, Some, Result, Ok, Err, IsErrOf}
use Rattle.framing.specs.Numbers.{decode_number}
use Rattle.framing.specs.declared.error.DecodeError.TheVariants.{CountTooLarge, BufferTooSmall}
use Rattle.report.specs.declared.error.ListError.{ListError}
use Rattle.report.specs.declared.error.ListError.TheVariants.{Decode, OutputTooSmall}

-- the number of a name; 0: none
abbrev pub told_name : Option ℕ → ℕ
told_name None = 0
told_name (Some k) = k

-- the number of a refusal
abbrev pub list_number : ListError → ℕ
list_number (Decode e) = decode_number e
list_number OutputTooSmall = 7

-- the number of a refusal; 0: none
abbrev pub told_refusal : Result Unit ListError → ℕ
told_refusal (Ok u) = 0
told_refusal (Err e) = list_number e

-- which refusal is told, by the decoder's count and the lengths of its buffer and of the output
pub record Refuses {A : Type 0} (r : Result A ListError) (count buf out : ℕ) : Type 0 where
  pub too_large : IsErrOf r (Decode CountTooLarge) ↔ (1024 < count)
  pub too_small : IsErrOf r (Decode BufferTooSmall) ↔ ((count ≤ 1024) × (buf < 1024))
  pub no_room : IsErrOf r OutputTooSmall ↔ ((count ≤ 1024) × (1024 ≤ buf) × (out < 128))
