use Rattle.std.proofs.Common.{append_assoc, refl}
use Rattle.field.specs.Ascii.{ascii_from}
use Rattle.report.specs.Line.{error_line}
use Rattle.report.specs.WritingLaws.{added_then}
use Rattle.report.proofs.line.Line.push_error.Goals as goal

pub returns-clause-value : goal.returns-clause-value
unfolding error_line ascii_from
returns-clause-value c =
    rw (c.push-2.ensures.value, c.push_digit.ensures.value, c.push.ensures.value, c.push_head.ensures.value, c.number.ensures) (simp (added_then, append_assoc) refl)
