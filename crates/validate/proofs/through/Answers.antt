-- `through` walks each step that its check passes, and the first check that refuses decides.
use Rattle.std.proofs.Common.{◌≡◌, refl, sym, ap, ◌∙◌, arith, get_or}
use Rattle.model.specs.Verdict.{Verdict}
use Rattle.model.specs.job.Layout.{job_of}
use Rattle.model.specs.calls.Validate.{step_verdict}
use Rattle.model.proofs.job.VerdictLaws.{in_turn_first}
use Rattle.model.proofs.job.Accepted.{length-actions}
use Rattle.job.proofs.TurnLaws.{none_yet, fine_at}
use Rattle.validate.specs.declared.walk.Walk.{Walk}
use Rattle.validate.specs.Walk.{started}
use Rattle.validate.proofs.Walks.{walk_none, walk_more}
use Rattle.validate.proofs.Verdicts.{answer_refused, checks, step_checked, step_known}
use Rattle.validate.proofs.through.Goals as goal
use Rattle.validate.proofs.through.Goals.{After-query}

pub loop-i-init : goal.loop-i-init
unfolding started
loop-i-init c =
    let w = rw c.job.ensures at c.start-w.ensures in record {
      same = refl;
      walked = w ∙ walk_none _;
      cheap = omega (arith, ap (λ (w : Walk). w.cost) w);
      passed = none_yet _;
    }

-- The check of step i as the code makes it is that of the definition.
checked : (c : After-query) {v : Verdict}
    → v ≡ checks (job_of c.query.result.now.bytes) c.query.result.now.usable (get_or c.args.steps.now c.loop-i.i 0) c.loop-i.w.facts c.loop-i.i
    → v ≡ step_verdict (job_of c.args.work.now.bytes) c.args.steps.now c.args.work.now.usable c.loop-i.i
checked c h =
    let q = c.query.ensures ∙ c.loop-i.invariant.same in
    step_checked _ c.args.steps.now _ c.loop-i.i c.loop-i.w c.loop-i.invariant.walked (rw q at h)

pub returns-in_err-check_step : goal.returns-in_err-check_step
returns-in_err-check_step c =
    let v = checked (goal.at.returns-in_err-check_step c).After-query c.in_err-check_step.ensures in
    answer_refused _ _ _ c.from_residual.ensures.1 (sym (in_turn_first _ c.loop-i.i _ c.loop-i.invariant.passed (sym v) (omega arith)))

pub make-w-requires : goal.make-w-requires
make-w-requires c = (
  rw length-actions at (step_known (get_or c.args.steps.now c.loop-i.i 0) _ _ _ (rw c.query.ensures at c.in_ok-check_step.ensures)),
  omega (arith, c.loop-i.invariant.cheap),
)

pub loop-i-preserved : goal.loop-i-preserved
loop-i-preserved c =
    let l = c.loop-i.invariant in
    let m = rw l.same at c.make-w.ensures in record {
      same = m.2;
      walked = m.0 ∙ walk_more _ c.args.steps.now c.loop-i.i _ l.walked (omega arith);
      cheap = omega (arith, m.1, l.cheap);
      passed = fine_at _ c.loop-i.i l.passed (checked (goal.at.loop-i-preserved c).After-query c.in_ok-check_step.ensures);
    }
