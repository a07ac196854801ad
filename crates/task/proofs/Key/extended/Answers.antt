-- One action more.
use Rattle.std.proofs.Common.{ℕ, ◌+◌, ap, add-one}
use Rattle.model.specs.exploration.Key.{extend}
use Rattle.task.proofs.Key.extended.Goals as goal

pub returns : goal.returns
unfolding extend
returns c = let k = c.args.self in ap (λ (n : ℕ). record { cost = k.cost + c.args.cost; steps = n }) (add-one k.steps)
