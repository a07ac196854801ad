-- The array is filled as far as the loop has come.
use Rattle.std.proofs.Common.{◌≡◌, None}
use Rattle.model.specs.search.Node.{residuals}
use Rattle.progression.specs.Padded.{padded, formulas_from}
use Rattle.progression.proofs.first.Given as goal

abbrev pub invariant-loop-i : goal.invariant-loop-i
invariant-loop-i l = l.left ≡ padded (residuals (formulas_from l.job l.at.from l.i) (record { state = l.state; made = None }))
