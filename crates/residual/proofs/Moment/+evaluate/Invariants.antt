-- The measure of `evaluate`'s recursion is the number of bytes left.
use Rattle.std.proofs.Common.{◌-◌, length}
use Rattle.residual.proofs.Moment.+evaluate.Given as goal

abbrev pub decreases-evaluate : goal.decreases-evaluate
decreases-evaluate l = length l.self.now.bytes.now - l.at
