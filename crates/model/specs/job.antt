-- The job (document 01, "The job"): its bytes, what they stand for, and what is left of it for a caller who may not use every step.
pub mod Job
pub mod Layout
pub mod Decoding
pub mod OldForm
pub mod Rights
