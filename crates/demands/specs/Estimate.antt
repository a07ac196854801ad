-- Card 2, an estimate of what is left: what is claimed of the estimate of every job, as it is to the caller, and of every search.
use Rattle.std.specs.Prelude.{Err, ◌≡◌, List, ◌++◌, ℕ, None}
use Rattle.model.specs.Refusal.{refusal}
use Rattle.model.specs.task.Plan.{state_after, cost_of}
use Rattle.model.specs.exploration.Explore.{solve}
use Rattle.model.specs.exploration.Guided.{Stays}
use Rattle.model.specs.search.Estimate.{estimate_of}
use Rattle.model.specs.search.MaxEstimate.{AtMost, MaxEstimate, Overlooks}
use Rattle.model.specs.search.JobSystem.{plain_system, node_estimate, solve_job}
use Rattle.model.specs.calls.Call.{Call, caller_job}
use Rattle.model.specs.calls.Search.{SearchEnd}
use Rattle.demands.specs.Demand1.{Taken}
use Rattle.demands.specs.Demand2.{AllowedPlan}

pub record Estimates (call : Call) : Type 0 where
  -- The estimate is the one that the card words, never exceeds the least cost left, and never falls by more than a step's cost along that step.
  pub is_max : (s : ℕ) → MaxEstimate (caller_job call) s
  -- So it never exceeds what is left of an allowed plan, at any of its pairs.
  pub rest : (p q : List ℕ) → AllowedPlan (caller_job call) (p ++ q)
      → AtMost (estimate_of (caller_job call) (state_after (caller_job call) (caller_job call).start p)) (cost_of (caller_job call) q)
  -- "Forbidden facts are overlooked", and so are deleted ones, rules and hints.
  pub overlooks : Overlooks (caller_job call)
  -- "Plans stay equal to those of document 01", whose search is that of `plain_system`, and "11 becomes 12 where only such pairs were cut".
  pub plans_stay : Taken call
      → Stays (plain_system (caller_job call)) (node_estimate (caller_job call)) (solve (plain_system (caller_job call))) (solve_job (caller_job call))

-- Where the start pair has no estimate, it "counts as not reached" like any other: a search gives 12, from any table.
abbrev pub StartUnreached : Call → SearchEnd → Type 0
StartUnreached call e = Taken call → estimate_of (caller_job call) (caller_job call).start ≡ None → e.result ≡ Err (refusal 12 0)
