-- What the proofs of the evaluator use.
pub mod Bits
pub mod Nodes
pub mod Numbers
pub mod Walks
pub mod Upwards
pub mod Settings
pub mod Told
pub mod Passing
pub mod ByTruths
pub mod AnswerLaws
pub mod Examples
