-- `run` makes turns while some are left, and an end ends it.
use Rattle.std.proofs.Common.{arith, Ok}
use Rattle.search.proofs.TurnLaws.{turn_ends, turn_passed, turns_over}
use Rattle.search.proofs.turns.run.Goals as goal

pub returns-in_err-g : goal.returns-in_err-g
returns-in_err-g c = turn_passed c.loop.invariant c.turn.new.t _ _ c.from_residual.ensures.1 c.in_err-g.ensures.0 (omega arith)

pub returns-in-Some : goal.returns-in-Some
returns-in-Some c = turn_ends c.loop.invariant c.turn.new.t (Ok c.in-Some.g) (rw c.in-Some.is at c.in_ok-g.ensures.0) (omega arith)

pub returns : goal.returns
returns c = turns_over c.loop.invariant (omega arith)
