-- The max estimate of card 2: what can be built at which cost, and that the function gives it.
pub mod OneFact
pub mod Built
pub mod Soonest
pub mod Useful
pub mod Turn
pub mod Levels
pub mod Estimates
pub mod Overlooked
