-- The number of the refusal, as the documents have it. Assumes nothing.
use Rattle.std.specs.Prelude.{ℕ}
use Rattle.replies.specs.declared.error.ReplyTooShort.{ReplyTooShort}

-- "Replies and startup: 8."
abbrev pub reply_number : ReplyTooShort → ℕ
reply_number e = 8
