-- One action more is passed each turn: counted if it is usable, left as it was if it is barred.
use Rattle.std.proofs.Common.{arith, sym, ◌∙◌}
use Rattle.estimate.proofs.PassLaws.{passed_usable, passed_barred}
use Rattle.estimate.proofs.pass.Goals as goal
use Rattle.estimate.proofs.pass.Goals.{then-counted, else-counted}

pub loop-action-preserved : goal.loop-action-preserved
loop-action-preserved c =
    let l = rw c.job-job.ensures at c.action_count-action-end.ensures.count in
    elim c.if-counted.branch [
      | then-counted w ↦ passed_usable _ _ c.loop-action.invariant (omega arith) (omega arith) (sym w.if-counted.ensures)
          (rw w.from-i.ensures at (w.ends-is ∙ w.end_of-end.ensures.written))
          (rw (w.from-i.ensures, c.job-job.ensures) at w.end_of-end.ensures.is) (rw w.from-i.ensures at w.end_of-end.ensures.low)
          (rw (w.from-i.ensures, c.job-job.ensures) at w.sooner-best.ensures) w.best-is
      | else-counted w ↦ passed_barred _ _ c.loop-action.invariant (omega arith) (omega arith) (sym w.if-counted.ensures) c.ranges.built.fits w.ends-is
          w.best-is
    ]
