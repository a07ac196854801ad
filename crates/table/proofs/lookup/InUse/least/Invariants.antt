-- The best is that of the slots from i on.
use Rattle.std.proofs.Common.{◌≡◌, drop}
use Rattle.table.specs.Lookup.{least_in}
use Rattle.table.proofs.lookup.InUse.least.Given as goal

abbrev pub invariant-loop-i : goal.invariant-loop-i
invariant-loop-i l = l.best ≡ least_in (drop l.i l.self) l.i
