-- What an estimate of the code says of the node of an array.
use Rattle.std.proofs.Common.{◌≡◌, Option, None, Some, List, ℕ, arith}
use Rattle.model.specs.search.JobSystem.{node_estimate}
use Rattle.model.specs.search.Query.{Query, job_for}
use Rattle.estimate.specs.Meaning.{Estimates}
use Rattle.estimate.proofs.AnswerLaws.{estimate_some, estimate_most, estimate_none}
use Rattle.held.specs.Held.{node_for, HasEstimate}

module _ (job : Query) (node : List ℕ) {r : Option ℕ} (x : Estimates (job_for job) (node_for job.bytes node).state r) where
  -- A cost is the node's estimate, and fits a slot.
  pub cost_estimated : {e : ℕ} → r ≡ Some e → HasEstimate job node e
  cost_estimated d = record { is = estimate_some _ _ x d; fits = omega (arith, estimate_most _ _ x d) }

  -- Without a cost the node has none.
  pub nothing_estimated : r ≡ None → node_estimate (job_for job) (node_for job.bytes node) ≡ None
  nothing_estimated d = estimate_none _ _ x d
