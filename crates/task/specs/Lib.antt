pub mod Meaning
pub mod Applicable
