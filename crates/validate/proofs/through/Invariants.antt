-- The steps that were checked are walked, and their checks are fine.
use Rattle.std.proofs.Common.{◌≡◌, ◌*◌, ◌≤◌, take}
use Rattle.model.specs.Verdict.{no_refusal, in_turn}
use Rattle.model.specs.job.Layout.{job_of}
use Rattle.model.specs.calls.Validate.{step_verdict}
use Rattle.validate.specs.Walk.{walk_of}
use Rattle.validate.proofs.through.Given as goal

abbrev pub invariant-loop-i : goal.invariant-loop-i
invariant-loop-i l = record {
  same : l.work ≡ l.fn.work;
  walked : l.w ≡ walk_of (job_of l.fn.work.bytes) (take l.i l.steps);
  cheap : l.w.cost ≤ 65_535 * l.i;
  passed : in_turn l.i (step_verdict (job_of l.fn.work.bytes) l.steps l.fn.work.usable) ≡ no_refusal;
}
