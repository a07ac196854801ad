-- `check_end` looks for the goal, and after it at the constraints.
use Rattle.model.proofs.job.Accepted.{length-constraints}
use Rattle.job.proofs.TurnLaws.{refused, after}
use Rattle.validate.specs.Walk.{end_verdict}
use Rattle.validate.proofs.end.check_end.Goals as goal

pub returns-in_err-unless : goal.returns-in_err-unless
unfolding end_verdict
returns-in_err-unless c = refused _ _ _ c.from_residual.ensures.1 (rw (c.has.ensures, c.goal.ensures.set) at c.in_err-unless.ensures)

pub returns : goal.returns
unfolding end_verdict
returns c =
    after _ _ _ (rw (c.has.ensures, c.goal.ensures.set) at c.in_ok-unless.ensures) (rw length-constraints c.check_constraints.ensures)
