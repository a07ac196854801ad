-- At the start all turns are left, and what a turn does is the first of those that were left.
use Rattle.std.proofs.Common.{◌≡◌, suc, ◌+◌, ◌-◌, arith}
use Rattle.model.specs.job.Rights.{restricted}
use Rattle.estimate.proofs.PassLaws.{counted}
use Rattle.estimate.proofs.LevelLaws.{rising_first, rising_done, rising_ends, rising_more, rising_over}
use Rattle.estimate.proofs.estimate.Goals as goal

pub loop-init : goal.loop-init
unfolding restricted
loop-init c =
    let e = rw c.job-2.ensures at c.action_count-end.ensures.count.0 in
    let n = counted c.args.q.now.usable c.args.q.now.bytes in
    rising_first _ _ _ _ (rw c.job.ensures at c.goal-goal.ensures.set) (omega (arith, e, n)) (omega (arith, e, n))

pub returns-then-has : goal.returns-then-has
returns-then-has c = rising_done _ _ _ c.loop.invariant (cc)

pub returns-in_default : goal.returns-in_default
returns-in_default c = rising_ends _ _ _ c.loop.invariant (cc) (rw c.in_default.is at c.pass.ensures)

pub loop-preserved : goal.loop-preserved
loop-preserved c =
    let e : c.action_count-end.result - c.loop.counter ≡ suc (c.action_count-end.result - (c.loop.counter + 1)) = omega arith in
    rw e at (rising_more _ _ _ c.loop.invariant (cc) (rw (c.in-Some.is, ← c.gain.view_is) at c.pass.ensures))

pub returns-in-Some : goal.returns-in-Some
returns-in-Some c = rising_over _ _ _ (rising_more _ _ _ c.loop.invariant (cc) (rw c.in-Some.is at c.pass.ensures)) (omega arith)
