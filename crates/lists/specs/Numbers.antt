-- The numbers of the refusals, as C and the documents have them. Assumes nothing.
use Rattle.std.specs.Prelude.{ℕ}
use Rattle.lists.specs.declared.error.ListError.{ListError}
use Rattle.lists.specs.declared.error.ListError.TheVariants.{CountTooLarge, OutputTooSmall}

-- 16 "state not well formed"; 7 "lent memory too small"
abbrev pub list_number : ListError → ℕ
list_number CountTooLarge = 16
list_number OutputTooSmall = 7
