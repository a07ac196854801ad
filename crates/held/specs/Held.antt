-- The slots of a table as the records of a search, for what is asked.
use Rattle.std.specs.Prelude.{◌≡◌, ℕ, ◌*◌, ◌≤◌, ◌<◌, Some, List, map}
use Rattle.model.specs.exploration.System.{System}
use Rattle.model.specs.job.Layout.{constraint_count, hint_count, job_of}
use Rattle.model.specs.search.Node.{Node}
use Rattle.model.specs.search.JobSystem.{node_estimate, system_of, is_goal}
use Rattle.model.specs.search.Query.{Query, job_for}
use Rattle.model.proofs.exploration.Each.{All}
use Rattle.astar.specs.Records.{HeldOf}
use Rattle.task.specs.Meaning.{key_is}
use Rattle.table.specs.declared.Slot.{Slot}
use Rattle.nodes.specs.Meaning.{node_is, Clean, hints_is, CleanHints}

-- the system of what is asked
abbrev pub sys : Query → System
sys job = system_of (job_for job)

-- ---- by the job's bytes alone, whatever steps may be used

module _ (job : List ℕ) where
  -- the node that an array stands for
  abbrev pub node_for : List ℕ → Node
  node_for a = node_is (constraint_count job) a

  -- the record that a slot stands for
  unfoldable pub held_is : Slot → HeldOf Node (List ℕ)
  unfolding node_is hints_is
  held_is s =
      record {
        node = node_for s.node;
        key = key_is s.key;
        hints = hints_is (hint_count job) s.hints;
        parent = s.parent;
        action = s.action;
        taken = s.taken;
      }

  -- the records of the slots in use
  unfoldable pub held_in : List Slot → List (HeldOf Node (List ℕ))
  unfolding held_is
  held_in ss = map held_is ss

  -- A slot is well formed: nothing stands after its last residuals, its goal mark is its node's, and its cost is a sum of 16-bit numbers.
  pub record Formed (s : Slot) : Type 0 where
    pub clean : Clean (constraint_count job) s.node
    pub clean_hints : CleanHints (hint_count job) s.hints
    pub marked : s.goal ≡ is_goal (job_of job) (node_for s.node)
    pub summed : s.key.cost ≤ 65535 * s.key.steps

-- ---- by what is asked

-- An estimate fits a slot, which has 30 bits for it.
abbrev pub FitsSlot : ℕ → Type 0
FitsSlot e = e < 1073741824

module _ (job : Query) where
  -- The node of an array has this estimate, which fits a slot.
  pub record HasEstimate (a : List ℕ) (e : ℕ) : Type 0 where
    pub is : node_estimate (job_for job) (node_for job.bytes a) ≡ Some e
    pub fits : FitsSlot e

  -- What holds of every slot in use: it is well formed, and its estimate is its node's.
  pub record Sound (s : Slot) : Type 0 where
    pub formed : Formed job.bytes s
    pub estimated : HasEstimate s.node s.estimate

  abbrev pub AllSound : List Slot → Type 0
  AllSound ss = All Sound ss
