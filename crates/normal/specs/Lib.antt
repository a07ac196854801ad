-- The definitions that the writer's contracts use.
pub mod Heading
pub mod Writing
