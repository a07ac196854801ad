-- What the proofs of the read-through use.
pub mod Counts
pub mod HintBits
pub mod Walks
pub mod Tracks
pub mod Verdicts
