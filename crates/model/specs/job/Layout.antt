-- Where a job's bytes have what; "offsets count from the job's start".
use Rattle.std.specs.Prelude.{ℕ, ◌+◌, ◌*◌, Bool, List, drop, get_or}
use Rattle.std.proofs.Math.Dec.{eqb}
use Rattle.std.proofs.Math.ListN.{take}
use Rattle.model.specs.Bits.{number_at}
use Rattle.model.specs.logic.Formula.{Formula, constant, choose}
use Rattle.model.specs.logic.Reading.{Parsed, formula, wrong, section}
use Rattle.model.specs.declared.Constant.TheVariants.{False}
use Rattle.model.specs.job.Job.{Action, Job, list_of}

-- A set of facts has 64 bits.
abbrev pub set_bytes : ℕ
set_bytes = 8

-- In document 01 an action has three sets: the needed, the added and the deleted facts.
abbrev pub plain_sets : ℕ
plain_sets = 3

-- Card 1: "A step gains a forbidden set of 64 bits after its deleted set."
abbrev pub all_sets : ℕ
all_sets = 4

-- A cost has 16 bits.
abbrev pub cost_bytes : ℕ
cost_bytes = 2

-- The start and the goal stand before the actions.
abbrev pub task_head : ℕ
task_head = 16

-- An action is its sets and its cost: 26 bytes with three sets, 34 with four.
abbrev pub action_bytes : ℕ → ℕ
action_bytes sets = set_bytes * sets + cost_bytes

module _ (bytes : List ℕ) where
  -- "Byte 0: number of facts V, 1 to 64. Byte 1: number of steps A, 0 to 64. Byte 2: rules, 0 to 8. Byte 3: hints, 0 to 8."
  unfoldable pub fact_count : ℕ
  fact_count = get_or bytes 0 0

  unfoldable pub action_count : ℕ
  action_count = get_or bytes 1 0

  unfoldable pub constraint_count : ℕ
  constraint_count = get_or bytes 2 0

  unfoldable pub hint_count : ℕ
  hint_count = get_or bytes 3 0

  -- "Then one pair of offset and length (16 bits each) per section: task, rules, hints."
  unfoldable pub pair_count : ℕ
  unfolding constraint_count hint_count
  pair_count = 1 + constraint_count + hint_count

  unfoldable pub pair_offset : ℕ → ℕ
  unfolding number_at
  pair_offset i = number_at 2 bytes (4 + 4 * i)

  unfoldable pub pair_length : ℕ → ℕ
  unfolding number_at
  pair_length i = number_at 2 bytes (6 + 4 * i)

  -- the bytes of section i
  unfoldable pub section_bytes : ℕ → List ℕ
  unfolding pair_offset pair_length
  section_bytes i = take (pair_length i) (drop (pair_offset i) bytes)

  -- "Task section, exactly 16 + 26 × A bytes: start (64 bits, bit i is fact i), goal, then per step: needed, added, deleted (64 bits each),
  -- cost (16 bits)." It is section 0. Where each action has so many sets, it has this length.
  unfoldable pub task_bytes : ℕ → ℕ
  unfolding action_count
  task_bytes sets = task_head + action_bytes sets * action_count

  -- Card 1: "The task section is then 16 + 34 × A bytes; the old length still reads, with nothing forbidden." The length tells which it is.
  unfoldable pub forbids : Bool
  unfolding pair_length task_bytes
  forbids = eqb (pair_length 0) (task_bytes all_sets)

  -- how many sets each action has
  unfoldable pub set_count : ℕ
  unfolding forbids
  set_count = choose forbids all_sets plain_sets

  -- where action i begins
  unfoldable pub action_offset : ℕ → ℕ
  unfolding pair_offset set_count
  action_offset i = pair_offset 0 + task_head + action_bytes set_count * i

  -- where set k of action i stands
  unfoldable pub set_offset : ℕ → ℕ → ℕ
  unfolding action_offset
  set_offset i k = action_offset i + set_bytes * k

  -- where the cost of action i stands, which comes after the sets
  unfoldable pub cost_offset : ℕ → ℕ
  unfolding set_offset set_count
  cost_offset i = set_offset i set_count

  unfoldable pub action_at : ℕ → Action
  unfolding set_offset cost_offset forbids number_at
  action_at i =
      record {
        pre = number_at set_bytes bytes (set_offset i 0);
        add = number_at set_bytes bytes (set_offset i 1);
        del = number_at set_bytes bytes (set_offset i 2);
        forbidden = choose forbids (number_at set_bytes bytes (set_offset i 3)) 0;
        cost = number_at cost_bytes bytes (cost_offset i);
      }

  -- the formula in section i
  unfoldable pub formula_in : ℕ → Parsed
  unfolding section fact_count action_count section_bytes
  formula_in i = section fact_count action_count (section_bytes i)

  unfoldable pub formula_at : ℕ → Formula
  unfolding formula_in
  formula_at i = elim (formula_in i) [ formula φ n ↦ φ | wrong p ↦ constant False ]

  -- the job that accepted bytes stand for
  unfoldable pub job_of : Job
  unfolding number_at pair_offset action_count constraint_count hint_count action_at formula_at list_of
  job_of =
      record {
        start = number_at set_bytes bytes (pair_offset 0);
        goal = number_at set_bytes bytes (pair_offset 0 + set_bytes);
        actions = list_of action_at action_count;
        constraints = list_of (λ i. formula_at (1 + i)) constraint_count;
        hints = list_of (λ i. formula_at (1 + constraint_count + i)) hint_count;
      }
