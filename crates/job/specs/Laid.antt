-- What acceptance says of a job's bytes, for the code that reads them.
use Rattle.std.specs.Prelude.{◌≡◌, ℕ, ◌+◌, ◌*◌, ◌≤◌, ◌<◌, List, length}
use Rattle.model.specs.logic.Parts.{most_bytes, most_parts, parts_of}
use Rattle.model.specs.logic.Reading.{formula, parsed}
use Rattle.model.specs.job.Layout.{task_head, action_bytes, pair_count, pair_offset, pair_length, section_bytes, task_bytes, set_count, action_offset}
use Rattle.model.specs.job.Layout.{formula_in, formula_at}
use Rattle.model.proofs.job.Accepted.{FineHead}

-- The first pair, which says where the task section is and ends at byte 8, is there, and so are the bytes of the start and the goal.
pub record HeadThere (bytes : List ℕ) : Type 0 where
  pub pair : 8 ≤ length bytes
  pub whole : pair_offset bytes 0 + task_head ≤ length bytes

-- The first pair is there, and so are the bytes of action i.
pub record ActionThere (bytes : List ℕ) (i : ℕ) : Type 0 where
  pub pair : 8 ≤ length bytes
  pub whole : action_offset bytes i + action_bytes (set_count bytes) ≤ length bytes

-- The head and the pairs are fine: all that a reader looks at is there.
pub record Laid (bytes : List ℕ) : Type 0 where
  pub head : FineHead bytes
  -- each pair and its section are whole
  pub pair : (i : ℕ) → i < pair_count bytes → 8 + 4 * i ≤ length bytes
  pub section : (i : ℕ) → i < pair_count bytes → pair_offset bytes i + pair_length bytes i ≤ length bytes
  -- the task section has as many bytes as its actions fill
  pub task : pair_length bytes 0 ≡ task_bytes bytes (set_count bytes)
  -- a formula has no more bytes than it may
  pub few_bytes : (i : ℕ) → 1 ≤ i → i < pair_count bytes → pair_length bytes i ≤ most_bytes

-- Section i holds a formula: it is read to the section's end, also where all 64 facts and actions may occur, and has no more carried parts than it may.
pub record Formulated (bytes : List ℕ) (i : ℕ) : Type 0 where
  pub size : length (section_bytes bytes i) ≡ pair_length bytes i
  pub whole : formula_in bytes i ≡ formula (formula_at bytes i) (pair_length bytes i)
  pub read : parsed 64 64 (section_bytes bytes i) 0 ≡ formula (formula_at bytes i) (pair_length bytes i)
  pub few_parts : length (parts_of (formula_at bytes i)) ≤ most_parts
