-- Laws of a reply by its sequence and length, and what the answers say.
pub mod ReplyLaws
pub mod Said
