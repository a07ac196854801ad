-- A call that passes: its job is accepted, its list has a byte for each step, and the job as it is to the caller is answered right.
use Rattle.model.specs.Verdict.{no_refusal}
use mathlib.Core.Path.{◌≡◌}
use mathlib.Core.Logic.{◌↔◌}
use lib.ListN.{length}
use borrow.Author.Tests.{eqb-true, eq-eqb}
use Rattle.model.specs.job.Layout.{action_count, job_of}
use Rattle.model.specs.job.Decoding.{job_verdict}
use Rattle.model.specs.calls.Call.{Call, needs_verdict, call_verdict, usable_in, caller_job}
use Rattle.model.proofs.job.VerdictLaws.{or_else_fine, unless_fine}
use Rattle.model.proofs.job.Accepted.{ProperJob, accepted_proper}
use Rattle.model.proofs.job.AcceptedPlans.{AnsweredRight, proper_right}
use Rattle.model.proofs.rights.Steps.{restricted_proper}

module _ (c : Call) where
  -- A call passes exactly if its job is accepted and its list has a byte for each step.
  pub call_fine : (call_verdict c ≡ no_refusal) ↔ ((job_verdict c.bytes ≡ no_refusal) × (length c.needs ≡ action_count c.bytes))
  unfolding call_verdict needs_verdict
  call_fine = (
    λ h. let x = (or_else_fine (job_verdict c.bytes) _).0 h in (x.0, eqb-true _ _ ((unless_fine _ 14 _).0 x.1)),
    λ h. (or_else_fine (job_verdict c.bytes) _).1 (h.0, (unless_fine _ 14 _).1 (eq-eqb _ _ h.1)),
  )

  module _ (fine : call_verdict c ≡ no_refusal) where
    pub call_job : job_verdict c.bytes ≡ no_refusal
    call_job = (call_fine.0 fine).0

    pub call_proper : ProperJob (caller_job c)
    call_proper = restricted_proper (usable_in c) (job_of c.bytes) (accepted_proper c.bytes call_job)

    pub call_right : AnsweredRight (caller_job c)
    call_right = proper_right (caller_job c) call_proper
