-- The lowest digit of the shifted state is the fact's truth, and it stays whole where it is shifted to its place.
use Rattle.std.proofs.Common.{arith}
use Rattle.model.specs.Bits.{bit}
use Rattle.residual.proofs.Passing.{shifted_digit}
use Rattle.residual.proofs.facts.truth_at.Goals as goal

pub returns : goal.returns
unfolding bit
returns c = shifted_digit _ _ (omega (arith, c.requires.1))
