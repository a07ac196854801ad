-- `fresh` makes a slot of right parts.
use Rattle.std.proofs.Common.{◌∙◌}
use Rattle.expansion.proofs.Making.{action_fits, opened_makes}
use Rattle.expansion.proofs.made.fresh.Goals as goal

pub returns : goal.returns
returns c = (
  opened_makes c.args.work.now.bytes (rw c.job.ensures at c.key_of-key.ensures) c.hints_of-hints.ensures.0
      c.requires.2 (rw c.hints_of-hints.ensures.1 at c.is_goal-goal.ensures.0) c.requires.3 c.requires.1 (action_fits _ c.requires.0),
  c.is_goal-goal.ensures.1 ∙ c.hints_of-hints.ensures.1,
)
