pub mod Facts
pub mod Pass
pub mod Node
pub mod Walk
pub mod Residual
pub mod Stored
pub mod SameRemainder
