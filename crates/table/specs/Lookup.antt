-- The slot of a node, and the open slot of the least rank, in a list of slots.
use Rattle.std.specs.Prelude.{true, false, Option, None, Some, List, [], ◌∷◌, ℕ, suc, ◌+◌}
use Rattle.model.specs.logic.Formula.{choose}
use Rattle.model.specs.exploration.Key.{Key, less}
use Rattle.model.specs.search.Node.{same_numbers}
use Rattle.task.specs.Meaning.{key_is}
use Rattle.table.specs.declared.Slot.{Slot}
use Rattle.table.specs.declared.lookup.Candidate.{Candidate}

-- the first slot of a node, the slots being numbered from k on
unfoldable pub find_in : List ℕ → List Slot → ℕ → Option ℕ
find_in n [] k = None
find_in n (s ∷ ss) k = elim (same_numbers n s.node) [ true ↦ Some k | false ↦ find_in n ss (suc k) ]

abbrev pub key_of : ℕ → ℕ → Key
key_of c s = record { cost = c; steps = s }

-- the rank of a slot: cost plus estimate, then steps
abbrev pub rank_at : Slot → Key
rank_at s = key_of (s.key.cost + s.estimate) s.key.steps

-- slot k with its rank
abbrev pub candidate : Slot → ℕ → Candidate
candidate s k = record { slot = k; rank = record { cost = s.key.cost + s.estimate; steps = s.key.steps } }

-- the better of slot k and the best of those after it: slot k, unless it was taken or that one has a lesser rank
unfoldable pub better : Slot → ℕ → Option Candidate → Option Candidate
better s k None = choose s.taken None (Some (candidate s k))
better s k (Some b) = choose s.taken (Some b) (choose (less (key_is b.rank) (rank_at s)) (Some b) (Some (candidate s k)))

-- the first open slot of the least rank with that rank, the slots being numbered from k on
unfoldable pub least_in : List Slot → ℕ → Option Candidate
unfolding better
least_in [] k = None
least_in (s ∷ ss) k = better s k (least_in ss (suc k))

-- its number
unfoldable pub slot_of_best : Option Candidate → Option ℕ
slot_of_best (Some b) = Some b.slot
slot_of_best None = None
