-- The workspace of a call: words that the caller lends, so that what a residual leaves is worked out once.
--   words 2 i - 2 and 2 i - 1   the facts and the actions that the formula in section i names, as sets
--   from word 32 on             the memo, in entries of four words: key, residual, facts, answer
-- A key is 256 times the section, plus the action that was made, 255 for one that the formula does not name, 254 in the closing world. So no key
-- is 0, and an entry of zeros is empty. Entries are used in pairs, so a workspace of under 40 words has none, and nothing is written to it.
use Rattle.std.specs.Prelude.{◌≡◌, Bool, false, ℕ, ◌+◌, ◌*◌, ◌-◌, ◌/◌, ◌%◌, ◌≤◌, ◌<◌, Option, None, Some, List, eqb, leb, ltb, length, get_or, set, replicate}
use Rattle.std.specs.Bool.{then_some}
use Rattle.model.specs.Bits.{bit, digit}
use Rattle.model.specs.logic.Formula.{Formula, choose}
use Rattle.model.specs.logic.Names.{Names}
use Rattle.model.specs.logic.Parts.{most_parts, parts_of}
use Rattle.model.specs.logic.Progression.{progressed, closing}
use Rattle.model.specs.job.Layout.{pair_count, formula_at}
use Rattle.model.specs.job.Decoding.{job_verdict}
use Rattle.model.specs.Verdict.{no_refusal}
use Rattle.job.specs.Accepted.{formula_bytes}
use Rattle.progression.specs.declared.entries.Question.{Question}
use Rattle.residual.specs.declared.World.{World}
use Rattle.residual.specs.declared.World.TheVariants.{After, Closing}

-- the action of a key, if it is one
abbrev pub made_by : ℕ → Option ℕ
made_by a = then_some (ltb a 64) a

-- the number of a world in a key
abbrev pub made_code : World → ℕ
made_code (After (Some a)) = a
made_code (After None) = 255
made_code Closing = 254

-- an action, if it is one of a set
abbrev pub named_of : ℕ → ℕ → Option ℕ
named_of actions a = then_some (bit actions a) a

-- what a residual r of φ leaves in a state s in the world with code m, or whether it is true of the closing one
abbrev pub answer : Formula → ℕ → ℕ → ℕ → ℕ
answer φ m r s =
    choose (eqb m (made_code Closing)) (digit (closing (parts_of φ) r (record { state = s; made = None })))
    (progressed most_parts (parts_of φ) r (record { state = s; made = made_by m }))

-- an entry is empty, or its answer is right
abbrev pub Entry : List ℕ → ℕ → ℕ → ℕ → ℕ → Type 0
Entry job k r s x = (0 < k → x ≡ answer (formula_at job (k / 256)) (k % 256) r s)

-- What holds of a workspace of a job between any two calls that it is lent to.
pub record Workspace (job work : List ℕ) : Type 0 where
  pub short : length work ≤ 65536
  pub named : 40 ≤ length work → (i : ℕ) → 1 ≤ i → i < pair_count job → Names (get_or work (2 * i - 2) 0) (get_or work (2 * i - 1) 0) (formula_at job i)
  pub right : 40 ≤ length work → (e : ℕ) → 36 + 4 * e ≤ length work
      → Entry job (get_or work (32 + 4 * e) 0) (get_or work (32 + 4 * e + 1) 0) (get_or work (32 + 4 * e + 2) 0) (get_or work (32 + 4 * e + 3) 0)

-- the same, where the job is accepted
pub record Kept (job work : List ℕ) : Type 0 where
  pub accepted : job_verdict job ≡ no_refusal
  pub workspace : Workspace job work

-- there are formulas, and in so many worlds they have enough bytes
abbrev pub pays : List ℕ → ℕ → Bool
pays job worlds = choose (eqb (formula_bytes job) 0) false (leb (4096 / formula_bytes job) worlds)

-- as it is lent at first: zeros
abbrev pub Blank : List ℕ → Type 0
Blank work = (n : ℕ) × (n ≤ 65536) × (work ≡ replicate n 0)

-- an entry written at a place
abbrev pub written : List ℕ → ℕ → Question → ℕ → List ℕ
written work at q x = set (set (set (set work at q.key) (at + 1) q.residual) (at + 2) q.facts) (at + 3) x

-- the entry at a place is that of a question
abbrev pub asks : List ℕ → ℕ → Question → Type 0
asks work at q = (get_or work at 0 ≡ q.key) × (get_or work (at + 1) 0 ≡ q.residual) × (get_or work (at + 2) 0 ≡ q.facts)

-- An answer that is recalled stands in an entry of the question.
abbrev pub Recalls : List ℕ → Question → Option ℕ → Type 0
Recalls work q (Some x) = (e : ℕ) × (36 + 4 * e ≤ length work) × asks work (32 + 4 * e) q × (x ≡ get_or work (32 + 4 * e + 3) 0)
Recalls work q None = Unit {0}

-- With a right answer remembered, it is still a workspace of the job.
abbrev pub Remembers : List ℕ → Question → ℕ → List ℕ → Type 0
Remembers work q x after = (job : List ℕ) → Workspace job work → pair_count job ≤ 17 → Entry job q.key q.residual q.facts x → Workspace job after
