-- `first` fills one element a turn with what the formula leaves.
use Rattle.std.proofs.Common.{arith}
use Rattle.progression.proofs.Lent.{few_sections}
use Rattle.progression.proofs.Rows.{nothing_first, first_more}
use Rattle.progression.proofs.first.Goals as goal

pub loop-i-init : goal.loop-i-init
loop-i-init c = nothing_first _ _ _

pub overflow_add-at : goal.overflow_add-at
overflow_add-at c = omega (arith, few_sections _ c.sections_of-at.ensures.accepted)

pub loop-i-preserved : goal.loop-i-preserved
loop-i-preserved c = let l = c.loop-i in first_more _ _ _ l.i _ _ l.invariant (rw c.formula.ensures at c.first.ensures) (omega arith)
