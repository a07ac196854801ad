-- What the proofs of the estimate use, and the laws for its callers.
pub mod PassLaws
pub mod AnswerLaws
pub mod LevelLaws
