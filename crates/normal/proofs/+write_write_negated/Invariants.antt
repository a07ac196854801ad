-- The measure of `write` and of `write_negated` is the number of bytes left.
use Rattle.std.proofs.Common.{◌-◌, length}
use Rattle.normal.proofs.+write_write_negated.Given as goal

abbrev pub decreases-write : goal.decreases-write
decreases-write l = length l.s.now - l.at

abbrev pub decreases-write_negated : goal.decreases-write_negated
decreases-write_negated l = length l.s.now - l.at
