-- The bound of levels and ends, and what `estimate` promises.
use Rattle.std.specs.Prelude.{◌≡◌, ℕ, ◌*◌, ◌≤◌, Option, Some}
use Rattle.model.specs.job.Job.{Job}
use Rattle.model.specs.search.Estimate.{estimate_of}

-- A cost has 16 bits.
abbrev pub dearest : ℕ
dearest = 65_535

-- A turn raises the level by the cost of one action at most, and at most 64 turns do so.
abbrev pub highest : ℕ
highest = dearest * 64

-- The answer is the max estimate of the state. No estimate is above `highest`, which is under 2 ^ 22, so a path's cost and an estimate can be added.
pub record Estimates (j : Job) (s : ℕ) (r : Option ℕ) : Type 0 where
  pub is : r ≡ estimate_of j s
  pub most : (e : ℕ) → estimate_of j s ≡ Some e → e ≤ highest
