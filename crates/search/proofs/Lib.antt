pub mod GoalLaws
pub mod FirstGoal
pub mod TurnLaws
pub mod StartLaws
pub mod GivenLaws
pub mod PartLaws
