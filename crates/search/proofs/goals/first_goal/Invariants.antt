-- What was found is the first of the slots from i on.
use Rattle.std.proofs.Common.{◌≡◌, drop}
use Rattle.task.specs.Meaning.{key_is}
use Rattle.search.specs.GoalSlots.{first_due}
use Rattle.search.proofs.goals.first_goal.Given as goal

abbrev pub invariant-loop-i : goal.invariant-loop-i
invariant-loop-i l = l.found ≡ first_due l.job (key_is l.key) l.t.slots (drop l.i l.t.slots) l.i
