-- `start` reads the start facts, and what the formulas leave after them.
use Rattle.validate.proofs.Walks.{start_made}
use Rattle.validate.proofs.walk.start.Goals as goal

pub returns : goal.returns
returns c = start_made _ _ _ _ c.start-facts.ensures.set c.first.ensures c.first-2.ensures
