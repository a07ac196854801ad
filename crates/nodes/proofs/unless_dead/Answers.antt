-- `unless_dead` looks at as many residuals as there are constraints.
use Rattle.std.proofs.Common.{sym, ◌∙◌}
use Rattle.nodes.proofs.Arrivals.{made_none, made_some}
use Rattle.nodes.proofs.unless_dead.Goals as goal

pub returns-then-some_dead : goal.returns-then-some_dead
returns-then-some_dead c = made_none _ _ _ c.constraint_count-count.ensures.count.0 (sym c.some_dead.ensures ∙ c.if-some_dead.true)

pub returns : goal.returns
returns c = made_some _ _ _ c.constraint_count-count.ensures.count.0 (sym c.some_dead.ensures ∙ c.if-some_dead.false) c.node_of.ensures
