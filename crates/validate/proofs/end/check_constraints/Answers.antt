-- `check_constraints` passes constraints that are met, and the first that is not decides.
use Rattle.std.proofs.Common.{arith}
use Rattle.job.proofs.TurnLaws.{refused_at, fine_at, none_yet}
use Rattle.validate.proofs.Counts.{constraint_checked}
use Rattle.validate.proofs.end.check_constraints.Goals as goal

pub loop-i-init : goal.loop-i-init
loop-i-init c = none_yet _

pub returns-in_err-unless : goal.returns-in_err-unless
returns-in_err-unless c =
    refused_at _ _ _ _ c.loop-i.invariant c.from_residual.ensures.1
    (constraint_checked _ _ _ _ (omega arith) c.closes-met.ensures c.in_err-unless.ensures) (omega arith)

pub loop-i-preserved : goal.loop-i-preserved
loop-i-preserved c = fine_at _ _ c.loop-i.invariant (constraint_checked _ _ _ _ (omega arith) c.closes-met.ensures c.in_ok-unless.ensures)
