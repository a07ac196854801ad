-- `expand` follows the actions in order, those alone that are chosen.
use Rattle.std.proofs.Common.{◌≡◌, refl, sym, ◌∙◌, ◌+◌, ◌<◌, length, arith}
use Rattle.model.specs.Bits.{bit}
use Rattle.model.specs.job.Job.{action_of}
use Rattle.model.specs.job.Layout.{action_count, constraint_count}
use Rattle.model.specs.search.Node.{Node}
use Rattle.model.specs.task.State.{applicable}
use Rattle.model.specs.search.Query.{Query, job_for}
use Rattle.table.specs.Tables.{Table}
use Rattle.nodes.specs.Meaning.{node_is}
use Rattle.held.proofs.JobLaws.{sys_actions}
use Rattle.expansion.proofs.Turns.{Going, going_start, going_end, going_next, going_full, going_on, going_past}
use Rattle.expansion.proofs.expand.Goals as goal
use Rattle.expansion.proofs.expand.Goals.{In-loop-a, then-bit_at+in_ok-follow, else-bit_at}

pub loop-a-init : goal.loop-a-init
loop-a-init c = record { going = going_start c.requires (rw c.in_use.ensures at c.load-from.ensures.0); same_work = refl }

-- ---- an action of the loop

module _ (c : In-loop-a) where
  abbrev job : Query
  job = c.args.work.now

  abbrev node : Node
  node = node_is (constraint_count job.bytes) c.load-from.result.node

  -- It is one of the job's.
  below : c.loop-a.a < action_count job.bytes
  below = omega (arith, rw c.job.ensures at c.action_count-a-end.ensures.count.0)

  known : c.loop-a.a < length (job_for job).actions
  known = omega (arith, below, sys_actions job)

  -- Its bit tells whether it is applicable.
  tells : bit c.choices-choices.result c.loop-a.a ≡ applicable (action_of (job_for job) c.loop-a.a) node.state
  tells = (rw c.query.ensures at c.choices-choices.ensures) c.loop-a.a known

  -- what holds after it
  abbrev After : Query → Table → Type 0
  After work t = Going job c.args.t.now c.args.i c.load-from.result t (c.loop-a.a + 1) × (work ≡ job)

pub follow-requires : goal.follow-requires
follow-requires c =
    let at = (goal.at.follow-requires c).In-loop-a in
    rw c.loop-a.invariant.same_work (going_next c.loop-a.invariant.going (below at), sym (tells at) ∙ sym c.bit_at.ensures ∙ c.if-bit_at.true)

pub returns-in_err-follow : goal.returns-in_err-follow
returns-in_err-follow c = (
  going_full c.loop-a.invariant.going (below (goal.at.returns-in_err-follow c).In-loop-a) (rw c.in_use.ensures at c.load-from.ensures.0) c.in_err-follow.was
      c.from_residual.ensures.0 (rw c.loop-a.invariant.same_work at c.follow.ensures.0),
  c.follow.ensures.1 ∙ c.loop-a.invariant.same_work,
)

pub loop-a-preserved : goal.loop-a-preserved
loop-a-preserved c =
    let at = (goal.at.loop-a-preserved c).In-loop-a in
    let g = c.loop-a.invariant in
    let k : After at c.if-bit_at.work c.if-bit_at.t = elim c.if-bit_at.branch [
      | then-bit_at+in_ok-follow w ↦ rw (w.work-is, w.t-is)
          (going_on g.going (below at) w.in_ok-follow.was (rw g.same_work at w.follow.ensures.0), w.follow.ensures.1 ∙ g.same_work)
      | else-bit_at w ↦ rw (w.work-is, w.t-is) (going_past g.going (below at) (sym (tells at) ∙ sym c.bit_at.ensures ∙ w.if-bit_at.false), g.same_work)
    ] in
    record { going = k.0; same_work = k.1 }

pub returns : goal.returns
returns c = (
  going_end c.loop-a.invariant.going (rw c.in_use.ensures at c.load-from.ensures.0) (omega (arith, rw c.job.ensures at c.action_count-a-end.ensures.count.0)),
  c.loop-a.invariant.same_work,
)
