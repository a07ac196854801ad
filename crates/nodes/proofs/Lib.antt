-- What the proofs of the nodes use, and the laws for their callers.
pub mod Fields
pub mod ChoiceLaws
pub mod Hints
pub mod Same
pub mod Arrivals
