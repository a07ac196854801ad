pub mod Answer
pub mod Walk
