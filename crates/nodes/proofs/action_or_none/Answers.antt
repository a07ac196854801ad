-- After the last action there is none.
use Rattle.std.proofs.Common.{arith}
use Rattle.model.specs.job.Layout.{job_of}
use Rattle.model.proofs.job.Accepted.{length-actions}
use Rattle.nodes.proofs.ChoiceLaws.{action_none}
use Rattle.nodes.proofs.action_or_none.Goals as goal

pub returns : goal.returns
returns c = action_none (job_of c.args.job.now) c.args.i (omega (arith, length-actions c.args.job.now))
