-- The goals of a key and the cut slots, in a list of slots.
use Rattle.std.specs.Prelude.{◌≡◌, Bool, false, not, ◌&&◌, ◌||◌, Option, None, Some, List, [], ◌∷◌, ℕ, suc, ◌≤◌, ◌<◌, length, get_or}
use Rattle.model.specs.logic.Formula.{choose}
use Rattle.model.specs.exploration.Key.{Key, same_key}
use Rattle.model.specs.job.Layout.{hint_count}
use Rattle.model.specs.search.Node.{some_dead}
use Rattle.task.specs.Meaning.{key_is}
use Rattle.table.specs.declared.Slot.{Slot}
use Rattle.table.specs.Slots.{no_slot}
use Rattle.nodes.specs.Meaning.{hints_is}
use Rattle.paths.specs.Chain.{steps_at, order}

-- whether a slot is cut: a hint residual of it is dead
unfoldable pub slot_cut : List ℕ → Slot → Bool
unfolding some_dead hints_is
slot_cut job x = some_dead (hints_is (hint_count job) x.hints)

-- whether any slot is cut
unfoldable pub any_cut : List ℕ → List Slot → Bool
unfolding slot_cut
any_cut job [] = false
any_cut job (x ∷ xs) = slot_cut job x || any_cut job xs

-- whether a slot is an uncut goal of a key
unfoldable pub due : List ℕ → Key → Slot → Bool
unfolding same_key slot_cut
due job k x = same_key (key_is x.key) k && not (slot_cut job x) && x.goal

-- of slot i, if it is due, and the slot found after it, the one whose path comes first
unfoldable pub chosen : List Slot → Bool → ℕ → Option ℕ → Option ℕ
chosen ss d i None = choose d (Some i) None
chosen ss d i (Some b) = choose d (choose (order ss b i) (Some b) (Some i)) (Some b)

-- the uncut goal of a key whose path comes first, of slots that are numbered from i on; ss are all slots
unfoldable pub first_due : List ℕ → Key → List Slot → List Slot → ℕ → Option ℕ
unfolding due chosen
first_due job k ss [] i = None
first_due job k ss (x ∷ xs) i = chosen ss (due job k x) i (first_due job k ss xs (suc i))

-- What was found, if anything, is a slot from i on, of that key.
abbrev pub After : List Slot → ℕ → Key → Option ℕ → Type 0
After ss i k None = Unit {0}
After ss i k (Some b) = (i ≤ b) × (b < length ss) × ((get_or ss b no_slot).key.cost ≡ k.cost) × (steps_at ss b ≡ k.steps)
