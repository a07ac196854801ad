pub mod Checks
pub mod Laid
pub mod Accepted
