-- A residual is dead that is 0.
use Rattle.std.proofs.Common.{◌∙◌}
use Rattle.progression.proofs.Dead.{any_dead}
use Rattle.progression.proofs.some_dead.Goals as goal

pub returns : goal.returns
returns c = c.contains.ensures.value ∙ any_dead _
