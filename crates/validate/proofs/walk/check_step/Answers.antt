-- `check_step` refuses a step that is no action of the job, after that one that the caller may not use, and after that one that is not applicable.
use Rattle.std.proofs.Common.{◌≡◌, ℕ, List, sym, ◌<◌, ltb, ltb-true, arith, length}
use Rattle.model.specs.Verdict.{no_refusal, unless}
use Rattle.model.specs.job.Layout.{action_count, job_of}
use Rattle.model.proofs.job.Accepted.{length-actions}
use Rattle.model.proofs.job.VerdictLaws.{unless_fine}
use Rattle.job.proofs.TurnLaws.{refused, after}
use Rattle.validate.proofs.Verdicts.{applicable_checked}
use Rattle.validate.proofs.walk.check_step.Goals as goal
use Rattle.validate.proofs.walk.check_step.Goals.{In_ok-unless}

-- What was read is the number of the job's actions.
counted : (bytes : List ℕ) {job : List ℕ} {n : ℕ} → job ≡ bytes → n ≡ action_count job → n ≡ length (job_of bytes).actions
counted bytes e h = rw (length-actions, ← e) h

-- The first check is fine, and so the step is one of them.
fine : (c : In_ok-unless) → no_refusal ≡ unless (ltb c.args.step (length (job_of c.args.q.now.bytes).actions)) 6 c.args.i
fine c = let n = counted c.args.q.now.bytes c.job.ensures c.action_count.ensures.count.0 in rw n at c.in_ok-unless.ensures

inside : (c : In_ok-unless) → c.args.step < c.action_count.result
inside c = ltb-true _ _ ((unless_fine _ 6 c.args.i).0 (sym c.in_ok-unless.ensures))

pub returns-in_err-unless : goal.returns-in_err-unless
returns-in_err-unless c =
    let n = counted c.args.q.now.bytes c.job.ensures c.action_count.ensures.count.0 in
    refused _ _ _ c.from_residual.ensures.1 (rw n at c.in_err-unless.ensures)

pub may_use-requires : goal.may_use-requires
may_use-requires c = omega (arith, inside (goal.at.may_use-requires c).In_ok-unless)

pub returns-in_err-unless-2 : goal.returns-in_err-unless-2
returns-in_err-unless-2 c =
    after _ _ _ (fine (goal.at.returns-in_err-unless-2 c).In_ok-unless)
    (refused _ _ _ c.from_residual-in_err-unless-2.ensures.1 (rw c.may_use.ensures at c.in_err-unless-2.ensures))

pub action_of-action-requires : goal.action_of-action-requires
action_of-action-requires c =
    rw c.job-2.ensures (omega (arith, rw c.job.ensures at c.action_count.ensures.count.0, inside (goal.at.action_of-action-requires c).In_ok-unless))

pub returns : goal.returns
returns c =
    after _ _ _ (fine (goal.at.returns c).In_ok-unless)
    (after _ _ _ (rw c.may_use.ensures at c.in_ok-unless-2.ensures)
    (applicable_checked _ c.args.i c.applicable.ensures (rw c.job-2.ensures at c.action_of-action.ensures.acts) c.unless-3.ensures))
