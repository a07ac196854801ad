-- The set is that of the numbers from i on.
use Rattle.bits.proofs.SetLaws.{SetFrom}
use Rattle.bits.proofs.set_of.Given as goal

abbrev pub invariant-loop-i : goal.invariant-loop-i
invariant-loop-i g l = SetFrom (goal.F-post g l.f) l.n l.i l.set
