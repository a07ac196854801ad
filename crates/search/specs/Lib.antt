-- What the contracts of the search cite.
pub mod GoalSlots
pub mod Outcome
pub mod Given
