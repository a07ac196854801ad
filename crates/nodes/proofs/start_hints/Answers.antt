-- `start_hints` leaves a residual for each hint, and 0 after the last.
use Rattle.std.proofs.Common.{◌∙◌}
use Rattle.model.specs.search.JobSystem.{start_hints}
use Rattle.model.specs.job.Layout.{job_of}
use Rattle.model.proofs.job.ResidualLists.{length-residuals}
use Rattle.model.proofs.job.Accepted.{length-hints}
use Rattle.nodes.proofs.Hints.{padded_carries}
use Rattle.nodes.proofs.start_hints.Goals as goal

pub returns : goal.returns
unfolding start_hints
returns c =
    let j = job_of c.args.job.now in
    padded_carries _ (rw c.start.ensures.set at c.first.ensures) (length-residuals j.hints _ ∙ length-hints _)
