-- A table as a search sees it: the slots in use, and how many there is room for.
use Rattle.std.specs.Prelude.{◌≡◌, List, [], ◌∷◌, ◌++◌, ℕ, ◌*◌, ◌≤◌, length, set, take}
use Rattle.model.specs.calls.Search.{slots_in, slot_bytes}
use Rattle.table.specs.declared.Slot.{Slot}
use Rattle.table.specs.Slots.{slots, slot_in, taken_slot}

pub record Table : Type 0 where
  pub room : ℕ
  pub slots : List Slot

-- a table, of its parts
abbrev pub table : ℕ → List Slot → Table
table room ss = record { room = room; slots = ss }

-- with one slot more
abbrev pub pushed : Table → Slot → Table
pushed t s = table t.room (t.slots ++ (s ∷ []))

-- with s as slot i
abbrev pub stored : Table → ℕ → Slot → Table
stored t i s = table t.room (set t.slots i s)

-- with slot i taken
abbrev pub marked : Table → ℕ → Table
marked t i = stored t i (taken_slot (slot_in t.slots i))

-- the table whose first so many slots in lent bytes are in use
abbrev pub table_in : ℕ → ℕ → List ℕ → Table
table_in room used bytes = table room (take used (slots bytes))

-- The bytes have k slots or more.
pub record Front (k : ℕ) (bytes : List ℕ) : Type 0 where
  pub whole : k * slot_bytes ≤ length bytes

-- There is room for n slots, the whole ones of the bytes, at most 65,536; and the k in use are no more.
pub record Within (n k : ℕ) (bytes : List ℕ) : Type 0 where
  pub room : n ≡ slots_in bytes
  pub most : n ≤ 65536
  pub used : k ≤ n
