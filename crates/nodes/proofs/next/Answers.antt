-- `next` follows an applicable action; the constraints, if there are any, see the state after it.
use Rattle.std.proofs.Common.{◌≡◌, refl, sym, ◌∙◌, arith}
use Rattle.model.specs.job.Job.{action_of}
use Rattle.model.specs.job.Layout.{constraint_count, job_of}
use Rattle.model.proofs.job.Accepted.{length-constraints}
use Rattle.job.proofs.Accepted.{accepted_laid}
use Rattle.task.specs.Meaning.{action_is}
use Rattle.progression.specs.Padded.{count_of}
use Rattle.nodes.proofs.Arrivals.{next_alone, next_leads}
use Rattle.nodes.proofs.next.Goals as goal
use Rattle.nodes.proofs.next.Goals.{After-constraint_count}

-- What was read is the query's.
acts : (c : After-constraint_count) → action_is c.action_of-action.result ≡ action_of (job_of c.args.work.now.bytes) c.args.i
acts c = rw c.job-job.ensures at c.action_of-action.ensures.acts

counted : (c : After-constraint_count) → c.constraint_count.result ≡ constraint_count c.args.work.now.bytes
counted c = rw c.job-job.ensures at c.constraint_count.ensures.count.0

pub returns-then-constraint_count-eq0 : goal.returns-then-constraint_count-eq0
returns-then-constraint_count-eq0 c =
    let at = (goal.at.returns-then-constraint_count-eq0 c).After-constraint_count in
    let z = sym (counted at) ∙ c.if-constraint_count-eq0.true in
    (next_alone _ _ c.args.node _ (acts at) c.requires.1 c.after-facts.ensures (length-constraints _) (omega (arith, z, c.well_formed)) z, refl)

pub next-rs-requires : goal.next-rs-requires
next-rs-requires c = omega (arith, (accepted_laid _ (rw c.job-job.ensures at c.constraint_count.ensures.accepted)).head.few_actions)

pub returns : goal.returns
unfolding count_of
returns c =
    let at = (goal.at.returns c).After-constraint_count in
    let m = rw c.job-job.ensures at c.unless_dead.ensures in (
      next_leads _ _ c.args.node _ (acts at) c.requires.1 c.after-facts.ensures (length-constraints _) (omega (arith, counted at, c.well_formed))
          c.residuals_of.ensures c.next-rs.ensures.0 m,
      c.next-rs.ensures.1,
    )
