-- `replaced` makes a slot of the old node and the arrival's key.
use Rattle.expansion.proofs.Making.{action_fits, opened_makes}
use Rattle.expansion.proofs.made.replaced.Goals as goal

pub returns : goal.returns
returns c = (
  opened_makes c.args.work.now.bytes c.requires.2 c.hints_of-hints.ensures.0 c.requires.3.clean
      c.requires.3.marked c.requires.4.estimate c.requires.1 (action_fits _ c.requires.0),
  c.hints_of-hints.ensures.1,
)
