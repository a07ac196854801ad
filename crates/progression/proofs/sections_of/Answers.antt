-- The constraints stand in the sections from 1 on, and the hints in those after them.
use Rattle.progression.proofs.Rows.{constraints_are, hints_are}
use Rattle.progression.proofs.sections_of.Goals as goal

pub returns-in-Constraints : goal.returns-in-Constraints
returns-in-Constraints c =
    let k = c.constraint_count-constraints.ensures in
    rw c.in-Constraints.is (constraints_are _ _ k.accepted k.count.0 k.count.1)

pub returns-in-Hints : goal.returns-in-Hints
returns-in-Hints c =
    let k = c.constraint_count-constraints.ensures in
    let n = c.hint_count.ensures in
    rw c.in-Hints.is (hints_are _ _ _ k.accepted k.count.0 n.count.0 n.count.1)
