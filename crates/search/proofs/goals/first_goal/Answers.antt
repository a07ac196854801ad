-- `first_goal` goes from the last slot to the first, and chooses between each slot and what was found after it.
use Rattle.std.proofs.Common.{◌≡◌, ◌+◌, ◌-◌, arith}
use Rattle.search.proofs.GoalLaws.{due_none, due_turn, due_after}
use Rattle.search.proofs.goals.first_goal.Goals as goal

pub loop-i-init : goal.loop-i-init
loop-i-init c = due_none _ _ _ c.len-i.result (omega arith)

pub choose-found-requires : goal.choose-found-requires
choose-found-requires c =
    let l = c.loop-i in
    let e : l.i - 1 + 1 ≡ l.i = omega arith in
    (omega arith, c.requires, rw (e, l.invariant) (due_after _ _ _ l.i (omega arith)))

pub loop-i-preserved : goal.loop-i-preserved
loop-i-preserved c =
    let l = c.loop-i in
    due_turn _ _ _ (l.i - 1) l.i l.invariant c.choose-found.ensures (omega arith) (omega arith)
