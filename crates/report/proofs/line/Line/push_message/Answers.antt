use Rattle.std.proofs.Common.{append_assoc, refl}
use Rattle.field.specs.Ascii.{ascii_from}
use Rattle.report.specs.Line.{message_line}
use Rattle.report.specs.WritingLaws.{added_then}
use Rattle.report.proofs.line.Line.push_message.Goals as goal

pub returns-clause-value : goal.returns-clause-value
unfolding message_line ascii_from
returns-clause-value c =
    rw (c.push-4.ensures.value, c.push-3.ensures.value, c.push-2.ensures.value, c.push_number.ensures.value, c.push_hex.ensures.value, c.push.ensures.value, c.push_head.ensures.value, c.bem_of.ensures.value)
    (simp (added_then, append_assoc) refl)
