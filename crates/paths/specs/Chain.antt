-- The paths that slots stand for, followed from parent to parent, and what is asked of slots whose paths are followed.
use Rattle.std.specs.Prelude.{◌≡◌, Bool, ◌≢◌, List, [], ◌∷◌, ◌++◌, ℕ, zero, suc, ◌<◌, length, get_or}
use Rattle.model.specs.exploration.Key.{earlier}
use Rattle.table.specs.declared.Slot.{Slot}
use Rattle.table.specs.Slots.{no_slot}

-- the parts of slot i that a path is followed by
abbrev pub parent_at : List Slot → ℕ → ℕ
parent_at ss i = (get_or ss i no_slot).parent

abbrev pub action_at : List Slot → ℕ → ℕ
action_at ss i = (get_or ss i no_slot).action

abbrev pub steps_at : List Slot → ℕ → ℕ
steps_at ss i = (get_or ss i no_slot).key.steps

-- the last n actions that lead to slot i; a slot's whole path has as many as the slot has steps
unfoldable pub slot_path : List Slot → ℕ → ℕ → List ℕ
slot_path ss zero i = []
slot_path ss (suc n) i = slot_path ss n (parent_at ss i) ++ (action_at ss i ∷ [])

-- A slot with steps has its parent among the slots, one step nearer; and different slots have different paths.
pub record Chained (ss : List Slot) : Type 0 where
  pub inside : (i m : ℕ) → steps_at ss i ≡ suc m → i < length ss → (parent_at ss i < length ss) × (steps_at ss (parent_at ss i) ≡ m)
  pub distinct : (i j m : ℕ) → steps_at ss i ≡ m → steps_at ss j ≡ m → slot_path ss m i ≡ slot_path ss m j → i < length ss → j < length ss → i ≡ j

-- Two different slots with equally many steps, so that their paths can be compared.
pub record Level (ss : List Slot) (i j : ℕ) : Type 0 where
  pub first : i < length ss
  pub second : j < length ss
  pub differ : i ≢ j
  pub level : steps_at ss i ≡ steps_at ss j

-- whether the path of slot i comes before that of slot j, which has as many steps
abbrev pub order : List Slot → ℕ → ℕ → Bool
order ss i j = earlier (slot_path ss (steps_at ss i) i) (slot_path ss (steps_at ss i) j)

-- the same of the path of slot i and on by action a, and that of slot j and on by b
abbrev pub order_by : List Slot → ℕ → ℕ → ℕ → ℕ → Bool
order_by ss i a j b = earlier (slot_path ss (steps_at ss i) i ++ (a ∷ [])) (slot_path ss (steps_at ss i) j ++ (b ∷ []))
