-- The system of a job that is asked for: it meets the laws of exploration, its counts are those of the bytes, steps that are applicable are the job's
-- own, and only nodes with an estimate are reached.
use Rattle.std.proofs.Common.{◌≡◌, ap, ◌∙◌, true, Option, None, Some, List, ℕ, ◌≤◌, ◌<◌, arith}
use Rattle.model.specs.Verdict.{no_refusal}
use Rattle.model.specs.Bits.{bit}
use Rattle.model.specs.job.Job.{action_of}
use Rattle.model.specs.job.Layout.{action_count, constraint_count, hint_count, job_of}
use Rattle.model.specs.job.Decoding.{job_verdict}
use Rattle.model.specs.exploration.Guided.{kept, has}
use Rattle.model.specs.search.Node.{Node}
use Rattle.model.specs.task.State.{applicable}
use Rattle.model.specs.search.JobSystem.{next_node, node_estimate}
use Rattle.model.specs.search.Query.{Query, job_for}
use Rattle.model.proofs.exploration.Laws.{Laws, Finite}
use Rattle.model.proofs.exploration.Guiding.{kept_some, kept_none, kept_out}
use Rattle.model.proofs.job.Accepted.{accepted_proper, length-actions, length-constraints, length-hints}
use Rattle.model.proofs.job.GuidedJob.{job_laws, job_finite}
use Rattle.model.proofs.rights.Steps.{length-restricted, action_usable, applicable_usable, next_usable, restricted_proper}
use Rattle.held.specs.Held.{sys, node_for, HasEstimate}

module _ (bytes : List ℕ) (h : job_verdict bytes ≡ no_refusal) where
  -- An accepted job has at most 64 actions.
  pub few_actions : action_count bytes ≤ 64
  few_actions = omega (arith, length-actions bytes, (accepted_proper bytes h).few_actions)

  -- An accepted job has at most 8 constraints.
  pub few_constraints : constraint_count bytes ≤ 8
  few_constraints = omega (arith, length-constraints bytes, (accepted_proper bytes h).few_constraints)

  -- An accepted job has at most 8 hints.
  pub few_hints : hint_count bytes ≤ 8
  few_hints = omega (arith, length-hints bytes, (accepted_proper bytes h).few_hints)

module _ (job : Query) where
  -- It meets the laws of exploration.
  pub sys_laws : Laws (sys job)
  sys_laws = job_laws (job_for job)

  -- The system has as many actions as the head says.
  pub sys_actions : (sys job).actions ≡ action_count job.bytes
  sys_actions = length-restricted job.usable (job_of job.bytes) ∙ length-actions job.bytes

  -- An accepted job has finitely many nodes.
  pub sys_finite : job_verdict job.bytes ≡ no_refusal → Finite (sys job)
  sys_finite h = job_finite (job_for job) (restricted_proper job.usable (job_of job.bytes) (accepted_proper job.bytes h))

  -- ---- a step that is applicable

  module _ (i : ℕ) (l : i < action_count job.bytes) (s : ℕ) (h : applicable (action_of (job_for job) i) s ≡ true) where
    usable : bit job.usable i ≡ true
    usable = applicable_usable job.usable (job_of job.bytes) i (omega (arith, length-actions job.bytes)) s h

    -- It is the job's own.
    pub own_action : action_of (job_for job) i ≡ action_of (job_of job.bytes) i
    own_action = action_usable job.usable (job_of job.bytes) i usable

    -- It leads where it leads in the job.
    pub own_next : (n : Node) → next_node (job_for job) n i ≡ next_node (job_of job.bytes) n i
    own_next n = next_usable job.usable (job_of job.bytes) n i usable

  -- ---- which of the nodes that a step or the start leads to are reached

  abbrev reached_of : Option Node → Option Node
  reached_of = kept (λ (n : Node). has (node_estimate (job_for job) n))

  -- Arrays of equal nodes have equal estimates.
  pub same_estimated : {a b : List ℕ} {e : ℕ} → node_for job.bytes a ≡ node_for job.bytes b → HasEstimate job b e → HasEstimate job a e
  same_estimated d x = record { is = ap (node_estimate (job_for job)) d ∙ x.is; fits = x.fits }

  -- A node that has an estimate is reached.
  pub reached_some : {o : Option Node} {a : List ℕ} {e : ℕ} → o ≡ Some (node_for job.bytes a) → HasEstimate job a e
      → reached_of o ≡ Some (node_for job.bytes a)
  reached_some {o} {a} d e = (kept_some (λ (n : Node). has (node_estimate (job_for job) n)) o (node_for job.bytes a)).1 (d, ap has e.is)

  -- A node that has none is not.
  pub reached_hopeless : {o : Option Node} {n : Node} → o ≡ Some n → node_estimate (job_for job) n ≡ None → reached_of o ≡ None
  reached_hopeless d e = kept_out (λ (n : Node). has (node_estimate (job_for job) n)) d (ap has e)

  pub reached_none : {o : Option Node} → o ≡ None → reached_of o ≡ None
  reached_none d = kept_none (λ (n : Node). has (node_estimate (job_for job) n)) d
