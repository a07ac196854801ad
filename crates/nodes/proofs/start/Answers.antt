-- `start` leaves a residual for each constraint, and 0 after the last.
use Rattle.std.proofs.Common.{◌∙◌}
use Rattle.model.specs.search.JobSystem.{start_node}
use Rattle.model.specs.job.Layout.{job_of}
use Rattle.model.proofs.job.ResidualLists.{length-residuals}
use Rattle.model.proofs.job.Accepted.{length-constraints}
use Rattle.nodes.proofs.Arrivals.{made_leads}
use Rattle.nodes.proofs.start.Goals as goal

pub returns : goal.returns
unfolding start_node
returns c =
    let j = job_of c.args.job.now in
    rw c.start-facts.ensures.set at (made_leads _ c.first-rs.ensures (length-residuals j.constraints _ ∙ length-constraints _) c.unless_dead.ensures)
