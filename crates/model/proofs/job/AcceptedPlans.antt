-- Demand 3 over the definitions: what a search answers to a job that keeps the limits, a sentence of document 01 a field.
use mathlib.Core.Path.{◌≡◌}
use mathlib.Core.Logic.{◌↔◌, ◌⊎◌}
use Prim.Native.Nat.{ℕ}
use mathlib.Core.Bool.{true}
use mathlib.Core.List.{List, []}
use Rattle.model.specs.job.Job.{Job}
use Rattle.model.specs.task.Plan.{allowed, cost_of, Best, MeetsHints}
use Rattle.model.specs.exploration.Equations.{plan, no_plan}
use Rattle.model.specs.search.JobSystem.{solve_job}
use Rattle.model.proofs.job.Accepted.{ProperJob}
use Rattle.model.proofs.job.BestPlan.{no_hints, plan_allowed, plan_best, no_plan_exactly, best_is_plan, answer_numbers, no_hints_12}

pub record AnsweredRight (j : Job) : Type 0 where
  -- every plan is allowed, and its cost is summed from its actions
  pub is_allowed : {c : ℕ} {p : List ℕ} → solve_job j ≡ plan c p → (allowed j p ≡ true) × (cost_of j p ≡ c)
  -- "one whose every allowed plan of least cost meets all its hints, has the best plan as its plan,"
  pub is_best : MeetsHints j → {c : ℕ} {p : List ℕ} → solve_job j ≡ plan c p → Best j p
  pub is_found : MeetsHints j → (p : List ℕ) → Best j p → solve_job j ≡ plan (cost_of j p) p
  -- "and has none exactly if none is allowed"
  pub none_exactly : MeetsHints j → ((n : ℕ) × (solve_job j ≡ no_plan n)) ↔ ((p : List ℕ) → allowed j p ≡ true → ⊥)
  -- "A job without hints" is such a job.
  pub without_hints : j.hints ≡ [] → MeetsHints j
  -- "'no plan' is 11 or 12, without hints always 12"
  pub numbers : {n : ℕ} → solve_job j ≡ no_plan n → (n ≡ 11) ⊎ (n ≡ 12)
  pub without_hints_12 : j.hints ≡ [] → {n : ℕ} → solve_job j ≡ no_plan n → n ≡ 12

-- Every proper job is answered right.
pub proper_right : (j : Job) → ProperJob j → AnsweredRight j
proper_right j proper = record {
  is_allowed = plan_allowed j proper;
  is_best = plan_best j proper;
  is_found = best_is_plan j proper;
  none_exactly = no_plan_exactly j proper;
  without_hints = no_hints j;
  numbers = answer_numbers j proper;
  without_hints_12 = no_hints_12 j proper;
}
