-- Laws of the records that the slots of a table stand for: what the proofs of functions that search in a table cite.
pub mod JobLaws
pub mod HeldLaws
pub mod Storing
pub mod Lookup
pub mod Chains
pub mod Steps
