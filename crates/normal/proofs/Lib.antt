-- What the proofs of the writer use.
pub mod Texts
pub mod Nodes
pub mod Storing
pub mod Measuring
pub mod Verdicts
pub mod WritingBack
