-- `before` goes back on both paths until their parents are one.
use Rattle.std.proofs.Common.{sym, ◌∙◌}
use Rattle.paths.proofs.ChainLaws.{Instead, order_action, order_up}
use Rattle.paths.proofs.before.Goals as goal
use Rattle.paths.proofs.before.Goals.{In-loop-p}

-- The parents, different, are to be compared in place of the slots.
risen : (c : In-loop-p) → Instead c.args.t.now c.loop-p.i c.loop-p.j c.loop-p.p c.loop-p.q
risen c =
    let l = c.loop-p in
    order_up c.args.t.now c.requires.0 l.i l.j l.p l.q l.invariant.p_is l.invariant.q_is c.loop-p-test.true l.invariant.level

pub parent-p-requires-in-loop-p : goal.parent-p-requires-in-loop-p
parent-p-requires-in-loop-p c = (risen c).level.first

pub parent-q-requires-in-loop-p : goal.parent-q-requires-in-loop-p
parent-q-requires-in-loop-p c = (risen (goal.at.parent-q-requires-in-loop-p c).In-loop-p).level.second

pub loop-p-smaller : goal.loop-p-smaller
loop-p-smaller c = (risen (goal.at.loop-p-smaller c).In-loop-p).nearer

pub loop-p-preserved : goal.loop-p-preserved
loop-p-preserved c =
    let r = risen (goal.at.loop-p-preserved c).In-loop-p in
    record { same = c.loop-p.invariant.same ∙ r.same; level = r.level; p_is = c.parent-p-in-loop-p.ensures; q_is = c.parent-q-in-loop-p.ensures }

pub returns : goal.returns
returns c =
    let l = c.loop-p in
    order_action c.args.t.now c.requires.0 l.i l.j l.invariant.level _ _ l.p l.q c.action.ensures c.action-2.ensures l.invariant.p_is l.invariant.q_is
    c.loop-p-test.false
    ∙ sym l.invariant.same
