-- `follow` makes an arrival where the action leads to another node.
use Rattle.model.specs.job.Layout.{constraint_count}
use Rattle.model.specs.search.JobSystem.{next_node}
use Rattle.model.specs.search.Query.{job_for}
use Rattle.nodes.specs.Meaning.{Leads}
use Rattle.nodes.proofs.Arrivals.{leads_none}
use Rattle.held.specs.Held.{node_for}
use Rattle.held.proofs.JobLaws.{own_action, own_next}
use Rattle.expansion.specs.Arrivals.{LeadsTo}
use Rattle.expansion.proofs.Growing.{grew_nowhere, grew_self, leads_to}
use Rattle.expansion.proofs.follow.Goals as goal
use Rattle.expansion.proofs.follow.Goals.{After-next, In-Some}

-- An applicable action is the job's own.
pub next-requires : goal.next-requires
next-requires c =
    let x = c.requires.0 in
    (x.known, rw (own_action c.args.work.now c.args.a x.known _ c.requires.1) at c.requires.1)

-- It leads where it leads in the job.
leads_on : (c : After-next) → let a = c.args in
    Leads (constraint_count a.work.now.bytes) (next_node (job_for a.work.now) (node_for a.work.now.bytes a.from.node) a.a) c.next.result
leads_on c =
    let a = c.args in
    rw (← own_next a.work.now a.a c.requires.0.known _ c.requires.1 (node_for a.work.now.bytes a.from.node)) at c.next.ensures.0

leads : (c : In-Some) → LeadsTo c.args.work.now c.args.from c.args.a c.in-Some.node
leads c = leads_to c.requires.0 (leads_on (goal.at.In-Some c).After-next) c.in-Some.is

pub arrive-requires : goal.arrive-requires
arrive-requires c = rw c.next.ensures.1 (c.requires.0, leads (goal.at.arrive-requires c).In-Some)

pub returns-in_default : goal.returns-in_default
returns-in_default c = (
  grew_self c.requires.0 (leads (goal.at.returns-in_default c).In-Some) c.ne.ensures c.if-ne.false,
  c.next.ensures.1,
)

pub returns-in_default-2 : goal.returns-in_default-2
returns-in_default-2 c =
    (grew_nowhere c.requires.0 (leads_none (leads_on (goal.at.returns-in_default-2 c).After-next) c.in_default.is), c.next.ensures.1)
