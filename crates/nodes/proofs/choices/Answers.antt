-- `choices` goes from the last eight actions to the first, and clears the bits of the actions that may not be used at the end.
use Rattle.std.proofs.Common.{◌≡◌, ◌-◌, ◌*◌, ◌<◌, ◌^◌, get_or, arith}
use Rattle.model.specs.job.Layout.{job_of}
use Rattle.model.proofs.job.Accepted.{length-actions}
use Rattle.nodes.specs.Meaning.{node_is}
use Rattle.nodes.proofs.ChoiceLaws.{set_from, set_of, set_none, set_lt, set_eight, set_tells, usable_tell}
use Rattle.nodes.proofs.choices.Goals as goal
use Rattle.nodes.proofs.choices.Goals.{After-applicable_set}

pub loop-eight-init : goal.loop-eight-init
loop-eight-init c = set_none _ _ _ _ (omega arith)

-- The others leave room for eight.
room : (c : After-applicable_set) → c.loop-eight.set < 2 ^ 56
room c = set_lt _ _ _ _ 56 c.loop-eight.invariant (omega arith)

pub overflow_mul-set : goal.overflow_mul-set
overflow_mul-set c = omega (arith, room c)

-- What was looked up is the set of eight.
eight : (c : After-applicable_set) → c.applicable_set.result ≡ set_from (job_of c.job-job.result.now) (get_or c.args.node 0 0) (8 * (c.loop-eight.eight - 1)) 8
eight c = set_of _ _ _ _ c.eight_from.ensures c.applicable_set.ensures

pub overflow_add-set : goal.overflow_add-set
overflow_add-set c = omega (arith, room c, set_lt _ _ _ _ 8 (eight c) (omega arith))

pub loop-eight-preserved : goal.loop-eight-preserved
loop-eight-preserved c = set_eight _ _ _ _ _ _ (eight (goal.at.loop-eight-preserved c).After-applicable_set) c.loop-eight.invariant (omega arith) (omega arith)

pub returns : goal.returns
unfolding node_is
returns c =
    let j = job_of c.job-job.result.now in
    rw (← c.job-job.ensures, ← c.usable.ensures) (usable_tell j c.usable.result _ _
    (set_tells j _ _ _ c.loop-eight.invariant (omega arith) (omega (arith, length-actions c.job-job.result.now))))
