-- Action sequences (document 01, "Meaning"): what they do, which are allowed, and which is best.
pub mod State
pub mod Plan
