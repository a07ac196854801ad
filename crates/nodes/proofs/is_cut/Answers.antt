-- `is_cut` looks at as many residuals as there are hints.
use Rattle.nodes.proofs.Hints.{cut_told}
use Rattle.nodes.proofs.is_cut.Goals as goal

pub returns : goal.returns
returns c = cut_told _ c.hint_count-count.result _ _ c.hint_count-count.ensures.count.0 c.some_dead.ensures
