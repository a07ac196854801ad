-- What was read and what is ahead make up the truths of the formula's fact codes: the invariant.
use Rattle.std.proofs.Common.{◌-◌, length}
use Rattle.model.specs.logic.Reading.{parsed}
use Rattle.residual.specs.Facts.{fact_truths}
use Rattle.residual.specs.Residual.{formula_of}
use Rattle.residual.proofs.Passing.{Passed}
use Rattle.residual.proofs.facts.read.Given as goal

abbrev pub invariant-loop-r : goal.invariant-loop-r
invariant-loop-r l = Passed l.s l.state (fact_truths (formula_of (parsed 64 64 l.s 0)) 0 l.state) l.r

abbrev pub decreases-loop-r : goal.decreases-loop-r
decreases-loop-r l = length l.s - l.r.at
