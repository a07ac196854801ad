-- What is promised of a table to which arrivals were added.
use Rattle.std.specs.Prelude.{◌≡◌, ℕ, ◌≤◌, Result, Ok, Err, length}
use Rattle.model.specs.exploration.System.{System}
use Rattle.model.specs.search.Query.{Query}
use Rattle.astar.specs.Search.{Filled, goes_on, full, follow, expand}
use Rattle.table.specs.declared.Slot.{Slot}
use Rattle.table.specs.Slots.{slot_in}
use Rattle.table.specs.Tables.{Table}
use Rattle.held.specs.Held.{sys, held_is, held_in, AllSound}
use Rattle.expansion.specs.declared.Full.{Full}

-- that the table goes on, or is full
abbrev pub Grown : Type 0
Grown = Result Unit Full

unfoldable pub grown_is : (job : Query) → Grown → Table → Filled (sys job)
unfolding held_in
grown_is job (Ok _) t = goes_on (held_in job.bytes t.slots)
grown_is job (Err _) t = full

-- The slots in use are not more than there is room for, and sound.
abbrev pub Fits : Query → Grown → Table → Type 0
Fits job (Ok _) t = (length t.slots ≤ t.room) × AllSound job t.slots
Fits job (Err _) t = Unit {0}

-- The arrivals came to this table.
pub record Grew (job : Query) (room : ℕ) (to : Filled (sys job)) (r : Grown) (t : Table) : Type 0 where
  pub grows : to ≡ grown_is job r t
  pub fits : Fits job r t
  pub same_room : t.room ≡ room

-- ---- what the search makes of a table by arrivals from slot i

module _ (job : Query) (t : Table) (i : ℕ) where
  abbrev S : System
  S = sys job

  -- by one action from the record of a slot
  abbrev pub Follows : Slot → ℕ → Grown → Table → Type 0
  Follows from a r after = Grew job t.room (follow S t.room (held_in job.bytes t.slots) (held_is job.bytes from) i a) r after

  -- by all actions
  abbrev pub Expands : Grown → Table → Type 0
  Expands r after =
      Grew job t.room (expand S t.room (held_in job.bytes t.slots) (held_is job.bytes (slot_in t.slots i)) i S.actions) r after
