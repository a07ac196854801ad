-- `begin` makes the start table.
use Rattle.search.proofs.StartLaws.{begun}
use Rattle.search.proofs.start.begin.Goals as goal

pub returns : goal.returns
returns c = (
  begun _ _ _ c.requires.clean c.requires.estimated.fits (rw c.job.ensures at c.start_hints-hints.ensures) c.is_goal-goal.ensures.0 c.push.ensures,
  c.is_goal-goal.ensures.1,
)
