-- What the proofs of the decoder use, and what an accepted job says to its readers.
pub mod TurnLaws
pub mod SetLaws
pub mod Bounds
pub mod Accepted
