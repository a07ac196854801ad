-- The checks of the constraints that were passed are fine.
use Rattle.std.proofs.Common.{◌≡◌}
use Rattle.model.specs.Verdict.{no_refusal, unless, in_turn}
use Rattle.model.specs.job.Layout.{job_of}
use Rattle.validate.specs.Walk.{closed_at}
use Rattle.validate.proofs.end.check_constraints.Given as goal

abbrev pub invariant-loop-i : goal.invariant-loop-i
invariant-loop-i l = in_turn l.i (λ i. unless (closed_at (job_of l.job).constraints l.w.constraints l.w.facts i) 9 i) ≡ no_refusal
