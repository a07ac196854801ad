-- `make` adds the cost, and carries facts and residuals one world on.
use Rattle.std.proofs.Common.{arith, sym}
use Rattle.model.specs.job.Layout.{job_of}
use Rattle.model.proofs.job.Accepted.{length-constraints, length-hints}
use Rattle.progression.specs.Padded.{count_of}
use Rattle.task.specs.Meaning.{action_is}
use Rattle.validate.proofs.Walks.{step_made}
use Rattle.validate.proofs.walk.make.Goals as goal

pub returns : goal.returns
unfolding count_of
returns c =
    let b = c.args.work.now.bytes in
    let h = rw c.next-constraints.ensures.1 at c.next-hints.ensures in (
      step_made (job_of b) c.args.w c.args.step _ _ _ (action_is c.action_of-action.result) _ _ (rw c.job-2.ensures at c.action_of-action.ensures.acts)
          c.after-facts.ensures c.next-constraints.ensures.0 h.0 (sym (length-constraints b)) (sym (length-hints b)),
      omega (arith, c.action_of-action.ensures.cheap),
      h.1,
    )
