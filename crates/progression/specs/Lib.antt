pub mod Padded
pub mod Numbers
pub mod Workspace
