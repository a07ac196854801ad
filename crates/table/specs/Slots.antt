-- The slots of a table: what the contracts say of its bytes.
use Rattle.std.specs.Prelude.{Bool, true, false, List, [], ◌∷◌, ◌++◌, ℕ, ◌+◌, ◌*◌, ◌/◌, ◌%◌, ◌<◌, length, get_or, replicate, eqb}
use Rattle.model.specs.Bits.{digit}
use Rattle.model.specs.job.Job.{list_of}
use Rattle.model.specs.calls.Search.{slot_bytes}
use Rattle.model.specs.search.Node.{node_words}
use Rattle.task.specs.declared.Key.{Key}
use Rattle.table.specs.declared.Slot.{Slot}
use Rattle.table.specs.Cells.{row}

-- A slot's numbers are within their widths.
pub record Narrow (s : Slot) : Type 0 where
  pub cost : s.key.cost < 4294967296
  pub steps : s.key.steps < 65536
  pub estimate : s.estimate < 1073741824
  pub parent : s.parent < 65536
  pub action : s.action < 256

-- ---- what the words 17 to 19 of a row say

abbrev pub key_in : ℕ → Key
key_in w = record { cost = w % 4294967296; steps = w / 4294967296 % 65536 }

abbrev pub parent_in : ℕ → ℕ
parent_in w = w / 281474976710656 % 65536

abbrev pub action_in : ℕ → ℕ
action_in w = w % 256

abbrev pub taken_in : ℕ → Bool
taken_in w = eqb (w / 256 % 2) 1

abbrev pub goal_in : ℕ → Bool
goal_in w = eqb (w / 512 % 2) 1

abbrev pub estimate_in : ℕ → ℕ
estimate_in w = w % 1073741824

-- the slot of a row
unfoldable pub slot_of : List ℕ → Slot
unfolding list_of
slot_of a = record {
  node = list_of (λ j. get_or a j 0) node_words;
  hints = list_of (λ j. get_or a (node_words + j) 0) 8;
  key = key_in (get_or a 17 0);
  estimate = estimate_in (get_or a 19 0);
  parent = parent_in (get_or a 17 0);
  action = action_in (get_or a 18 0);
  taken = taken_in (get_or a 18 0);
  goal = goal_in (get_or a 18 0);
}

abbrev pub key_word : ℕ → ℕ → ℕ → ℕ
key_word cost steps parent = cost + steps * 4294967296 + parent * 281474976710656

abbrev pub flag_word : ℕ → Bool → Bool → ℕ
flag_word action taken goal = action + digit taken * 256 + digit goal * 512

-- a row of its parts
unfoldable pub row_of : List ℕ → List ℕ → ℕ → ℕ → ℕ → List ℕ
unfolding list_of
row_of node hints key flags estimate = list_of (λ j. get_or node j 0) node_words ++ list_of (λ j. get_or hints j 0) 8 ++ (key ∷ flags ∷ estimate ∷ [])

-- all whole slots of the bytes
unfoldable pub slots : List ℕ → List Slot
slots l = list_of (λ i. slot_of (row l i)) (length l / slot_bytes)

-- what stands for a slot where there is none
unfoldable pub no_slot : Slot
no_slot = record {
  node = replicate node_words 0;
  hints = replicate 8 0;
  key = record { cost = 0; steps = 0 };
  estimate = 0;
  parent = 0;
  action = 0;
  taken = false;
  goal = false;
}

-- slot i of a list
abbrev pub slot_in : List Slot → ℕ → Slot
slot_in ss i = get_or ss i no_slot

-- slot i of the bytes
abbrev pub slot_at : List ℕ → ℕ → Slot
slot_at l i = slot_in (slots l) i

-- a slot that is taken now
unfoldable pub taken_slot : Slot → Slot
taken_slot s = record {
  node = s.node;
  hints = s.hints;
  key = s.key;
  estimate = s.estimate;
  parent = s.parent;
  action = s.action;
  taken = true;
  goal = s.goal;
}
