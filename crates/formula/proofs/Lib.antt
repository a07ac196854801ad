-- What the proofs of the reader use.
pub mod Reading
pub mod Counting
pub mod Places
pub mod Checking
