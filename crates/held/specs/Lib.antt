pub mod Held
pub mod Running
