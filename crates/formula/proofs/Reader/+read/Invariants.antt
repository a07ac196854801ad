-- The measure of `read`'s recursion is the number of bytes left.
use Rattle.std.proofs.Common.{◌-◌, length}
use Rattle.formula.proofs.Reader.+read.Given as goal

abbrev pub decreases-read : goal.decreases-read
decreases-read l = length l.self.now.bytes.now - l.at
