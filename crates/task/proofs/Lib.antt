-- Laws for the proofs of the functions, and for their callers.
pub mod KeyLaws
