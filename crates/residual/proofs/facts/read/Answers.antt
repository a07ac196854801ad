-- `read` takes the truth of one code a turn from what is ahead to what was read.
use Rattle.std.proofs.Common.{refl, arith}
use Rattle.residual.proofs.Passing.{starts_passed, legible, code_further, code_more, ends_passed}
use Rattle.residual.proofs.facts.read.Goals as goal

pub loop-r-init : goal.loop-r-init
loop-r-init c = starts_passed _ _ _ refl c.requires

pub read_code-r-requires : goal.read_code-r-requires
read_code-r-requires c = legible _ _ _ c.requires _ _ c.loop-r.invariant c.loop-r-test.true

pub loop-r-smaller : goal.loop-r-smaller
loop-r-smaller c = omega (arith, c.loop-r-test.true, code_further _ _ _ _ c.read_code-r.ensures)

pub loop-r-preserved : goal.loop-r-preserved
loop-r-preserved c = code_more _ _ _ _ _ c.loop-r.invariant c.loop-r-test.true c.read_code-r.ensures

pub returns : goal.returns
returns c = ends_passed _ _ _ _ c.loop-r.invariant (omega (arith, c.loop-r-test.false))
