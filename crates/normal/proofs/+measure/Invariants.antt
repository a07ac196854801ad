-- The measure of `measure`'s recursion is the number of bytes left.
use Rattle.std.proofs.Common.{◌-◌, length}
use Rattle.normal.proofs.+measure.Given as goal

abbrev pub decreases-measure : goal.decreases-measure
decreases-measure l = length l.s.now - l.at
