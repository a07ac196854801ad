-- `turn_at` ends at a goal whose key is the least rank, and takes the slot if there is none.
use Rattle.std.proofs.Common.{refl}
use Rattle.search.proofs.TurnLaws.{idle_chained, none_takes, goal_ends}
use Rattle.search.proofs.turns.turn_at.Goals as goal

pub first_goal-requires : goal.first_goal-requires
first_goal-requires c = idle_chained c.requires.0

pub take-requires : goal.take-requires
take-requires c = none_takes c.requires.0 c.requires.1 (rw (c.job.ensures, c.rank-key.ensures, c.in_use.ensures) at c.first_goal.ensures) c.in_default.is

pub returns-in-Some : goal.returns-in-Some
returns-in-Some c = (goal_ends c.requires.0 c.requires.1 (rw (c.job.ensures, c.rank-key.ensures, c.in_use.ensures) at c.first_goal.ensures) c.in-Some.is, refl)
