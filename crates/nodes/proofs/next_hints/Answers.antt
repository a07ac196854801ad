-- `next_hints` takes the state of the node, which is the one after the action.
use Rattle.std.proofs.Common.{arith}
use Rattle.model.specs.job.Layout.{job_of}
use Rattle.model.proofs.job.Accepted.{length-hints}
use Rattle.job.proofs.Accepted.{accepted_laid}
use Rattle.progression.specs.Padded.{count_of}
use Rattle.nodes.proofs.Hints.{carried}
use Rattle.nodes.proofs.next_hints.Goals as goal

pub returns : goal.returns
unfolding count_of
returns c =
    let l = (accepted_laid _ (rw c.job.ensures at c.action_count.ensures.accepted)).head.few_hints in (
      carried (job_of c.args.work.now.bytes) _ c.args.hints _ c.args.node c.args.i c.next.ensures.0 (length-hints _) (omega (arith, l, c.well_formed)),
      c.next.ensures.1,
    )
