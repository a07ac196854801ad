-- `searched` ends at once if the start node is not reached, for a dead constraint or for want of an estimate, or has no slot; else the search goes on
-- from it.
use Rattle.std.proofs.Common.{◌≡◌, Some, sym, ◌∙◌, arith}
use Rattle.model.specs.job.Layout.{constraint_count, job_of}
use Rattle.model.specs.search.JobSystem.{start_node}
use Rattle.model.specs.search.Query.{job_for}
use Rattle.model.proofs.rights.Steps.{start_same}
use Rattle.nodes.specs.Meaning.{Leads}
use Rattle.nodes.proofs.Arrivals.{leads_some, leads_none}
use Rattle.held.specs.Held.{sys, node_for, HasEstimate}
use Rattle.held.proofs.JobLaws.{reached_some, reached_hopeless, reached_none}
use Rattle.expansion.proofs.Estimating.{cost_estimated, nothing_estimated}
use Rattle.search.proofs.StartLaws.{there, missing, not_reached, search_none, search_small}
use Rattle.search.proofs.start.searched.Goals as goal
use Rattle.search.proofs.start.searched.Goals.{After-start, In_ok-node, In_ok-left}

-- where the start leads, as the caller may go
leads : (c : After-start) → Leads (constraint_count c.args.q.now.bytes) (start_node (job_for c.args.q.now)) c.start.result
leads c = rw (c.job.ensures, ← start_same c.args.q.now.usable (job_of c.args.q.now.bytes)) at c.start.ensures

-- no constraint is dead at the start node
starts : (c : In_ok-node) → start_node (job_for c.args.q.now) ≡ Some (node_for c.args.q.now.bytes c.in_ok-node.node)
starts c = leads_some (leads (goal.at.In_ok-node c).After-start) (there _ _ c.in_ok-node.ensures.value)

-- the start node has the estimate that was worked out
has_estimate : (c : In_ok-left) → HasEstimate c.args.q.now c.in_ok-node.node c.in_ok-left.left
has_estimate c = cost_estimated c.args.q.now c.in_ok-node.node c.estimate_of.ensures (there _ _ c.in_ok-left.ensures.value)

-- so it is reached
reached : (c : In_ok-left) → (sys c.args.q.now).start ≡ Some (node_for c.args.q.now.bytes c.in_ok-node.node)
reached c = reached_some _ (starts (goal.at.In_ok-left c).In_ok-node) (has_estimate c)

pub returns-in_err-node : goal.returns-in_err-node
returns-in_err-node c =
    let m = missing _ c.in_err-node.ensures.value in
    not_reached c.args.t.now _ _ c.from_residual.ensures.1 m.1
    (search_none _ _ (reached_none _ (leads_none (leads (goal.at.returns-in_err-node c).After-start) m.0)))

pub returns-in_err-left : goal.returns-in_err-left
returns-in_err-left c =
    let m = missing _ c.in_err-left.ensures.value in
    not_reached c.args.t.now _ _ c.from_residual-in_err-left.ensures.1 m.1
    (search_none _ _
    (reached_hopeless _ (starts (goal.at.returns-in_err-left c).In_ok-node)
    (nothing_estimated c.args.q.now c.in_ok-node.node c.estimate_of.ensures m.0)))

pub returns-then-room-eq0 : goal.returns-then-room-eq0
returns-then-room-eq0 c =
    search_small _ _ (reached (goal.at.returns-then-room-eq0 c).In_ok-left) (sym c.room.ensures.0 ∙ c.if-room-eq0.true)

pub in_workspace-requires : goal.in_workspace-requires
in_workspace-requires c =
    let a = goal.at.in_workspace-requires c in
    record {
      accepted = rw c.job-2.ensures at c.action_count.ensures.accepted;
      starts = reached a.In_ok-left;
      estimated = has_estimate a.In_ok-left;
      clean = (leads a.After-start).clean _ (there _ _ c.in_ok-node.ensures.value);
      empty = c.requires;
      some_room = omega (arith, c.room.ensures);
      most = omega (arith, c.room.ensures);
    }
