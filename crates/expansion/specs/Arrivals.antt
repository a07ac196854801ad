-- One arrival: what is known before an action is followed, and what the slots that it makes stand for.
use Rattle.std.specs.Prelude.{◌≡◌, Bool, false, Some, List, ℕ, ◌+◌, ◌*◌, ◌≤◌, ◌<◌, length, set}
use Rattle.model.specs.Verdict.{no_refusal}
use Rattle.model.specs.logic.Formula.{choose}
use Rattle.model.specs.exploration.Key.{Key, extend}
use Rattle.model.specs.job.Job.{action_of}
use Rattle.model.specs.job.Layout.{action_count, constraint_count, hint_count, job_of}
use Rattle.model.specs.job.Decoding.{job_verdict}
use Rattle.model.specs.search.Node.{Node, meet_all}
use Rattle.model.specs.search.JobSystem.{next_node, carry_hints}
use Rattle.model.specs.search.Query.{Query, job_for}
use Rattle.task.specs.declared.Key as code
use Rattle.task.specs.Meaning.{key_is}
use Rattle.table.specs.declared.Slot.{Slot}
use Rattle.table.specs.Slots.{slot_in, Narrow}
use Rattle.table.specs.Tables.{Table}
use Rattle.paths.specs.Chain.{steps_at, order_by, Chained}
use Rattle.nodes.specs.Meaning.{Clean, hints_is}
use Rattle.astar.specs.Records.{HeldOf}
use Rattle.astar.specs.Search.{relaxed}
use Rattle.astar.proofs.Sending.{Expanding}
use Rattle.held.specs.Held.{sys, node_for, held_is, held_in, Formed, AllSound}
use Rattle.held.specs.Running.{Running}

-- The key k in numbers that fit a slot.
pub record Reaches (k : Key) (r : code.Key) : Type 0 where
  pub is : key_is r ≡ k
  pub summed : r.cost ≤ 65535 * r.steps
  pub short : r.steps < 65536

-- ---- an arrival from a slot by action a, by the job's bytes alone

module _ (job : List ℕ) where
  -- The key of a slot can be extended by action a, and fits a slot afterwards.
  pub record Extends (from : Slot) (a : ℕ) : Type 0 where
    pub accepted : job_verdict job ≡ no_refusal
    pub known : a < action_count job
    pub summed : from.key.cost ≤ 65535 * from.key.steps
    pub short : from.key.steps + 1 < 65536

  -- A slot that was made stands for a record, is well formed, has an estimate, and fits.
  pub record Makes (r : HeldOf Node (List ℕ)) (estimate : ℕ) (s : Slot) : Type 0 where
    pub stands : held_is job s ≡ r
    pub formed : Formed job s
    pub estimated : s.estimate ≡ estimate
    pub narrow : Narrow s

  module _ (from : Slot) where
    -- its key
    abbrev pub key_by : ℕ → Key
    key_by a = extend (key_is from.key) (action_of (job_of job) a).cost

    -- its hint residuals, at a node
    abbrev pub hints_by : ℕ → List ℕ → List ℕ
    hints_by a node = carry_hints (job_of job) (hints_is (hint_count job) from.hints) (node_for job node) a

  -- the record that it makes by itself, at a node that is held as the array `kept`
  abbrev pub newcomer : ℕ → Slot → ℕ → List ℕ → List ℕ → HeldOf Node (List ℕ)
  newcomer i from a node kept =
      record { node = node_for job kept; key = key_by from a; hints = hints_by from a node; parent = i; action = a; taken = false }

  -- Slot i can be compared with the parent of an old slot, and both fit.
  pub record Joins (ss : List Slot) (i : ℕ) (old : Slot) : Type 0 where
    pub chained : Chained ss
    pub inside : i < length ss
    pub old_inside : old.parent < length ss
    pub level : steps_at ss i ≡ steps_at ss old.parent
    pub small : i < 65536
    pub formed : Formed job old
    pub narrow : Narrow old

  -- the record that it makes together with an old slot of its node and key: the hint residuals are conjoined, and its own way is kept if it comes first
  abbrev pub both : ℕ → Slot → ℕ → List ℕ → Slot → Bool → HeldOf Node (List ℕ)
  both i from a node old first = record {
    node = node_for job old.node;
    key = key_is old.key;
    hints = meet_all (hints_is (hint_count job) old.hints) (hints_by from a node);
    parent = choose first i old.parent;
    action = choose first a old.action;
    taken = false;
  }

  -- the same in a list of slots, where the paths tell which way comes first
  abbrev pub joined : List Slot → ℕ → Slot → ℕ → List ℕ → Slot → HeldOf Node (List ℕ)
  joined ss i from a node old = both i from a node old (order_by ss i a old.parent old.action)

-- ---- the same in a search, by what is asked

module _ (job : Query) where
  -- Action a leads from the node of a slot to that of an array.
  pub record LeadsTo (from : Slot) (a : ℕ) (node : List ℕ) : Type 0 where
    pub leads : next_node (job_for job) (node_for job.bytes from.node) a ≡ Some (node_for job.bytes node)
    pub clean : Clean (constraint_count job.bytes) node

  -- The record of slot i, which is that of `from`, is being expanded: the actions below a were followed, and a is next.
  -- It is asked in clauses, and no type of an arrival says it, since it is about the workspace and the table, which an arrival does not hold.
  pub record Arriving (t : Table) (i : ℕ) (from : Slot) (a : ℕ) : Type 0 where
    pub m0 : Node
    pub running : Running job m0 t
    pub expanding : Expanding (sys job) m0 (held_in job.bytes t.slots) i (held_is job.bytes from) a
    pub inside : i < length t.slots
    pub known : a < action_count job.bytes

  -- Slot j was relaxed by the arrival, and the rest is as it was.
  pub record Relaxes (t : Table) (i : ℕ) (from : Slot) (a : ℕ) (node : List ℕ) (j : ℕ) (after : Table) : Type 0 where
    pub relaxes : held_in job.bytes after.slots
        ≡ set (held_in job.bytes t.slots) j (relaxed (sys job) (held_in job.bytes t.slots) (held_is job.bytes (slot_in t.slots j))
        (key_by job.bytes from a) (hints_by job.bytes from a node) i a)
    pub sound : AllSound job after.slots
    pub same_room : after.room ≡ t.room
