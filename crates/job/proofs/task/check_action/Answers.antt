-- `check_action` reads each set of an action whose bytes are there, and the first that is refused decides.
use Rattle.std.proofs.Common.{arith}
use Rattle.model.specs.job.Layout.{set_count}
use Rattle.model.specs.job.Decoding.{action_verdict}
use Rattle.job.proofs.TurnLaws.{refused_at}
use Rattle.job.proofs.Bounds.{action_there, set_inside}
use Rattle.job.proofs.task.check_action.Invariants.{set_checked}
use Rattle.job.proofs.task.check_action.Goals as goal

pub set_offset-requires : goal.set_offset-requires
set_offset-requires c = (action_there c.requires.0 _ c.requires.1, omega arith)

pub check_set-requires : goal.check_set-requires
check_set-requires c = (
  c.requires.0,
  omega (arith, set_inside (action_there c.requires.0 _ c.requires.1) c.loop-k.k (omega arith)),
)

pub returns-in_err-check_set : goal.returns-in_err-check_set
unfolding action_verdict
returns-in_err-check_set c =
    refused_at (set_checked c.args.bytes.now c.args.i) (set_count c.args.bytes.now) _ _ c.loop-k.invariant c.from_residual.ensures.1
    (rw c.set_offset.ensures at c.in_err-check_set.ensures) (omega arith)
