-- What holds of a table while a search runs in it, for the contracts of the functions that work on it.
use Rattle.std.specs.Prelude.{◌≡◌, ℕ, ◌≤◌, ◌<◌, Some, length}
use Rattle.model.specs.Verdict.{no_refusal}
use Rattle.model.specs.job.Decoding.{job_verdict}
use Rattle.model.specs.search.Node.{Node}
use Rattle.model.specs.search.Query.{Query}
use Rattle.astar.proofs.Turning.{Ready}
use Rattle.astar.proofs.Sending.{Expanding}
use Rattle.table.specs.Slots.{slot_in}
use Rattle.table.specs.Tables.{Table}
use Rattle.held.specs.Held.{sys, held_is, held_in, AllSound}

-- the job is accepted, its start node is reached, and the slots in use are sound
pub record Running (job : Query) (m0 : Node) (t : Table) : Type 0 where
  pub accepted : job_verdict job.bytes ≡ no_refusal
  pub starts : (sys job).start ≡ Some m0
  pub most : t.room ≤ 65536
  pub used : length t.slots ≤ t.room
  pub sound : AllSound job t.slots

-- between two turns of the search
abbrev pub Idle : Query → Table → Type 0
Idle job t = (m0 : Node) × Running job m0 t × Ready (sys job) t.room m0 (held_in job.bytes t.slots)

-- slot i is taken and is being expanded: its actions below c were followed
abbrev pub Busy : Query → Table → ℕ → ℕ → Type 0
Busy job t i c =
    (m0 : Node) × Running job m0 t × (i < length t.slots)
    × Expanding (sys job) m0 (held_in job.bytes t.slots) i (held_is job.bytes (slot_in t.slots i)) c
