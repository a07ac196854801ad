-- `next_in` fills one element a turn with what the residual leaves.
use Rattle.std.proofs.Common.{◌∙◌, refl, arith}
use Rattle.progression.proofs.Rows.{nothing_next, next_more}
use Rattle.progression.proofs.next_in.Goals as goal

pub loop-i-init : goal.loop-i-init
loop-i-init c = record { same = refl; filled = nothing_next _ _ _ }

pub loop-i-preserved : goal.loop-i-preserved
loop-i-preserved c =
    let l = c.loop-i in
    let e = l.invariant.same in
    record {
      same = c.next.ensures.1 ∙ e;
      filled = next_more _ _ _ _ l.i _ _ l.invariant.filled (rw e at c.next.ensures.0) (omega arith) (omega arith);
    }
