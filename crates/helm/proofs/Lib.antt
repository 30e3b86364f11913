-- Laws that the functions' proofs cite.
pub mod Calm
pub mod ListLaws
pub mod AnswerLaws
pub mod ReadLaws
pub mod PartLaws
pub mod HeardLaws
pub mod HandLaws
pub mod CallLaws
pub mod BegunLaws
pub mod RunLaws
pub mod LinkLaws
