-- Residuals in an array of eight, and the formulas that they are of.
use Rattle.std.specs.Prelude.{◌≡◌, ℕ, ◌+◌, ◌-◌, ◌≤◌, List, ◌++◌, length, replicate}
use Rattle.model.specs.Verdict.{no_refusal}
use Rattle.model.specs.logic.Formula.{Formula}
use Rattle.model.specs.job.Job.{Job, list_of}
use Rattle.model.specs.job.Layout.{constraint_count, hint_count, pair_count, formula_at, job_of}
use Rattle.model.specs.job.Decoding.{job_verdict}
use Rattle.progression.specs.declared.Group.{Group}
use Rattle.progression.specs.declared.Group.TheVariants.{Constraints, Hints}
use Rattle.progression.specs.declared.Sections.{Sections}

-- eight entries: those of the list, and then 0
unfoldable pub padded : List ℕ → List ℕ
padded l = l ++ replicate (8 - length l) 0

-- the formulas in n sections from one on
unfoldable pub formulas_from : List ℕ → ℕ → ℕ → List Formula
unfolding formula_at list_of
formulas_from bytes from n = list_of (λ i. formula_at bytes (from + i)) n

-- the formulas of a group
abbrev pub formulas_of : Group → Job → List Formula
formulas_of Constraints j = j.constraints
formulas_of Hints j = j.hints

-- how many there are
unfoldable pub count_of : Group → List ℕ → ℕ
unfolding constraint_count hint_count
count_of Constraints bytes = constraint_count bytes
count_of Hints bytes = hint_count bytes

-- A group's formulas stand in neighbouring sections.
pub record AreSections (bytes : List ℕ) (group : Group) (r : Sections) : Type 0 where
  pub accepted : job_verdict bytes ≡ no_refusal
  pub starts : 1 ≤ r.from
  pub count : r.count ≡ count_of group bytes
  pub ends : r.from + r.count ≤ pair_count bytes
  pub few : r.count ≤ 8
  pub are : formulas_from bytes r.from r.count ≡ formulas_of group (job_of bytes)
