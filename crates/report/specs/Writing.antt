-- Text that is written to the start of a lent slice. Assumes nothing.
use Rattle.std.specs.Prelude.{ℕ, List, ◌++◌, length, take, drop}
use Rattle.report.specs.declared.text.Text.{Text}

-- the text so far, and the bytes after it
pub record Writing : Type 0 where
  pub text : List ℕ
  pub rest : List ℕ

abbrev pub writing : Text → Writing
writing t = record { text = take t.len t.out.now; rest = drop t.len t.out.now }

-- after a piece more: the rest is as it was, behind the piece
unfoldable pub added : Writing → List ℕ → Writing
added w xs = record { text = w.text ++ xs; rest = drop (length xs) w.rest }
