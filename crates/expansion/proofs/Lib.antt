-- Laws for the proofs of the functions.
pub mod Cases
pub mod Making
pub mod Arrival
pub mod Merging
pub mod Relaxing
pub mod Estimating
pub mod Growing
pub mod GrowthLaws
pub mod Turns
