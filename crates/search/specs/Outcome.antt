-- What a search in a table comes to, turn by turn.
use Rattle.std.specs.Prelude.{◌≡◌, false, None, Some, Result, Ok, Err, [], List, ℕ, suc, ◌≤◌, ◌<◌, length, Option}
use Rattle.model.specs.Verdict.{no_refusal}
use Rattle.model.specs.declared.Reason.{Reason}
use Rattle.model.specs.declared.Reason.TheVariants.{TableTooSmall, NoPlanCut, NoPlan}
use Rattle.model.specs.exploration.Key.{zero_key}
use Rattle.model.specs.exploration.Equations.{plan, no_plan}
use Rattle.model.specs.job.Decoding.{job_verdict}
use Rattle.model.specs.job.Layout.{constraint_count, job_of}
use Rattle.model.specs.search.Node.{Node}
use Rattle.model.specs.search.JobSystem.{start_hints}
use Rattle.model.specs.search.Query.{Query}
use Rattle.astar.specs.Records.{HeldOf, least_open}
use Rattle.astar.specs.Search as astar
use Rattle.astar.specs.Search.{answered, too_small, first_goal, turns}
use Rattle.table.specs.declared.Slot.{Slot}
use Rattle.table.specs.Slots.{slot_in}
use Rattle.table.specs.Lookup.{rank_at}
use Rattle.table.specs.Tables.{Table, pushed}
use Rattle.nodes.specs.Meaning.{Clean}
use Rattle.paths.specs.Chain.{steps_at, slot_path, Chained}
use Rattle.held.specs.Held.{sys, node_for, held_in, HasEstimate}
use Rattle.held.specs.Running.{Idle}
use Rattle.expansion.specs.Arrivals.{Makes}

-- what the code says of a search: the slot of the answer, or why there is none
abbrev pub Ended : Type 0
Ended = Result ℕ Reason

-- The reason is that of this result.
abbrev pub EndsFor : Reason → astar.Result → Type 0
EndsFor TableTooSmall res = res ≡ too_small
EndsFor NoPlanCut res = res ≡ answered (no_plan 11)
EndsFor NoPlan res = res ≡ answered (no_plan 12)
EndsFor _ res = ⊥

-- A table's slots and what the code says of them are this result. A goal's path can be followed from slot to slot.
abbrev pub EndsAs : Table → Ended → astar.Result → Type 0
EndsAs t (Ok g) res =
    Chained t.slots × (g < length t.slots) × (res ≡ answered (plan (slot_in t.slots g).key.cost (slot_path t.slots (steps_at t.slots g) g)))
EndsAs t (Err r) res = EndsFor r res

-- A turn that began with a table t left a table u, and the search goes on with that.
abbrev pub GoesOn : Query → Table → Table → Type 0
GoesOn job t u =
    Idle job u × (u.room ≡ t.room)
    × ((k : ℕ) → turns (sys job) t.room (suc k) (held_in job.bytes t.slots) ≡ turns (sys job) t.room k (held_in job.bytes u.slots))

-- A turn that began with a table t left a table u and ended the search: e is what the code says of it.
abbrev pub EndsIn : Query → Table → Table → Ended → Type 0
EndsIn job t u e = (k : ℕ) → EndsAs u e (turns (sys job) t.room (suc k) (held_in job.bytes t.slots))

-- A turn that began with a table t left u: the search ends at a slot, it goes on, or it ends without one.
abbrev pub Turned : Query → Table → Table → Result (Option ℕ) Reason → Type 0
Turned job t u (Ok (Some g)) = EndsIn job t u (Ok g)
Turned job t u (Ok None) = GoesOn job t u
Turned job t u (Err r) = EndsIn job t u (Err r)

-- A slot of a table t was taken, which left u: the search goes on, or it ends without a slot.
abbrev pub Took : Query → Table → Table → Result Unit Reason → Type 0
Took job t u (Ok _) = GoesOn job t u
Took job t u (Err r) = EndsIn job t u (Err r)

-- Slot i is the open one of the least rank.
pub record Least (job : Query) (t : Table) (i : ℕ) : Type 0 where
  pub inside : i < length t.slots
  pub least : least_open (sys job) (held_in job.bytes t.slots) 0 ≡ Some (record { slot = i; rank = rank_at (slot_in t.slots i) })

-- No goal has its rank as its key, so it is taken.
pub record Taking (job : Query) (t : Table) (i : ℕ) : Type 0 where
  pub idle : Idle job t
  pub chosen : Least job t i
  pub no_goal : first_goal (sys job) (held_in job.bytes t.slots) (rank_at (slot_in t.slots i)) (held_in job.bytes t.slots) 0 ≡ None

-- A search of an accepted job can begin in an empty table: its start node, of that array, is reached with that estimate, and there is a slot for it.
-- It is asked in clauses, and no type says it, since it is about the query, the node, the estimate and the table, which no one value holds.
pub record Starts (job : Query) (node : List ℕ) (estimate : ℕ) (t : Table) : Type 0 where
  pub accepted : job_verdict job.bytes ≡ no_refusal
  pub starts : (sys job).start ≡ Some (node_for job.bytes node)
  pub estimated : HasEstimate job node estimate
  pub clean : Clean (constraint_count job.bytes) node
  pub empty : t.slots ≡ []
  pub some_room : 0 < t.room
  pub most : t.room ≤ 65536

-- the record of a start node
abbrev pub start_record : List ℕ → List ℕ → HeldOf Node (List ℕ)
start_record job node = record { node = node_for job node; key = zero_key; hints = start_hints (job_of job); parent = 0; action = 0; taken = false }

-- A slot of the start node, with its estimate, was stored as the first.
pub record Begun (job node : List ℕ) (estimate : ℕ) (t after : Table) : Type 0 where
  pub slot : Slot
  pub makes : Makes job (start_record job node) estimate slot
  pub stored : after ≡ pushed t slot
