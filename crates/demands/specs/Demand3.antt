-- Demand 3: every answer of a search is the job's plan, the cheapest, then shortest, then first; "no plan" comes exactly when there is none, and
-- "table too small" only when it is. The job is meant as it is to the caller, with the steps alone that the caller may use (card 4).
use Rattle.std.specs.Prelude.{Ok, Err, ◌≡◌, ◌⊎◌, List, [], ℕ, ◌*◌, ◌≤◌, ◌<◌, length, take, drop}
use Rattle.model.specs.Results.{planned, Searched}
use Rattle.model.specs.Refusal.{Refusal, refusal}
use Rattle.model.specs.job.Layout.{job_of}
use Rattle.model.specs.task.Plan.{cost_of, Best, MeetsHints}
use Rattle.model.specs.exploration.Equations.{plan, no_plan}
use Rattle.model.specs.search.JobSystem.{solve_job, reached_count}
use Rattle.model.specs.calls.Call.{Call, caller_job}
use Rattle.model.specs.calls.Search.{SearchEnd, slots_in, Outnumbered}
use Rattle.demands.specs.Demand1.{Taken}
use Rattle.demands.specs.Demand2.{AllowedPlan, Bytes}

-- "'no plan' is 11 or 12"
abbrev pub NoPlan : ℕ → Type 0
NoPlan k = (k ≡ 11) ⊎ (k ≡ 12)

-- "'Table too small' is 10": every other answer is not 10.
abbrev pub Other : SearchEnd → Type 0
Other e = (p : ℕ) → e.result ≡ Err (refusal 10 p) → ⊥

-- The list p is the plan of a job, as it is to the caller, with the cost c.
pub record IsPlan (call : Call) (c : ℕ) (p : List ℕ) : Type 0 where
  pub taken : Taken call
  pub is_plan : solve_job (caller_job call) ≡ plan c p
  -- It is allowed, and its cost is summed from its steps.
  pub is_allowed : AllowedPlan (caller_job call) p
  pub summed : cost_of (caller_job call) p ≡ c
  -- It has fewer steps than nodes are reached, and each costs at most 65,535.
  pub few_steps : length p < reached_count (caller_job call)
  pub cost_most : Bytes call.bytes → c ≤ 65_535 * length p
  -- "A job without hints, and one whose every allowed plan of least cost meets all its hints, has the best plan as its plan".
  pub best : MeetsHints (caller_job call) → Best (caller_job call) p

-- A plan of cost c and n steps is handed over: the first n bytes of the plan buffer.
pub record Handed (call : Call) (buffer : List ℕ) (e : SearchEnd) (c n : ℕ) : Type 0 where
  pub plan_is : IsPlan call c (take n e.plan)
  pub size : length (take n e.plan) ≡ n
  -- "bytes behind it keep their values"
  pub rest : drop n e.plan ≡ drop n buffer

-- Of a plan only the length n comes, since the buffer is shorter.
pub record Told (call : Call) (buffer : List ℕ) (n : ℕ) : Type 0 where
  pub cost : ℕ
  pub steps : List ℕ
  pub plan_is : IsPlan call cost steps
  pub size : length steps ≡ n
  pub longer : length buffer < n

-- the results of a call that is taken
pub data Result : Searched → Type 0 where
  plan_handed : (c n : ℕ) → Result (Ok (planned c n))
  table_small : Result (Err (refusal 10 0))
  some_cut : Result (Err (refusal 11 0))
  none_cut : Result (Err (refusal 12 0))
  plan_longer : (n : ℕ) → Result (Err (refusal 13 n))

pub record AnswersJob (call : Call) (table buffer : List ℕ) (e : SearchEnd) : Type 0 where
  pub results : Taken call → Result e.result
  -- ---- what each answer says

  pub plans : {c n : ℕ} → e.result ≡ Ok (planned c n) → Handed call buffer e c n
  -- From a table that is large enough it has at most 65,535 steps: "a cost sum is at most 65,535 × 65,535".
  pub steps_most : (Outnumbered call table → ⊥) → {c n : ℕ} → e.result ≡ Ok (planned c n) → (n ≤ 65_535) × (Bytes call.bytes → c ≤ 65_535 * 65_535)
  pub has_none : {k p : ℕ} → NoPlan k → e.result ≡ Err (refusal k p) → Taken call × (solve_job (caller_job call) ≡ no_plan k)
  -- 12 says that no plan is allowed, of a job with hints too, since none of its nodes was cut.
  pub twelve_none : {p : ℕ} → e.result ≡ Err (refusal 12 p) → (q : List ℕ) → AllowedPlan (caller_job call) q → ⊥
  -- "13 comes with that path's length as its place"
  pub only_length : {n : ℕ} → e.result ≡ Err (refusal 13 n) → Told call buffer n
  -- 10 comes only "when the pairs reached outnumber the places".
  pub too_small : {p : ℕ} → e.result ≡ Err (refusal 10 p) → Taken call × (slots_in table < reached_count (caller_job call))
  pub large_enough : (Outnumbered call table → ⊥) → Other e
  -- ---- when each answer comes, where it is not 10

  -- A plan that fits is handed over, of every job.
  pub plan_comes : Taken call → Other e → {c : ℕ} {p : List ℕ} → solve_job (caller_job call) ≡ plan c p → length p ≤ length buffer
      → (e.result ≡ Ok (planned c (length p))) × (take (length p) e.plan ≡ p)
  -- 13 comes where the plan is longer than the buffer.
  pub thirteen_comes : Taken call → Other e → {c : ℕ} {p : List ℕ} → solve_job (caller_job call) ≡ plan c p → length buffer < length p
      → e.result ≡ Err (refusal 13 (length p))
  -- "No plan" comes where the job has none.
  pub none_comes : Taken call → Other e → {k : ℕ} → solve_job (caller_job call) ≡ no_plan k → NoPlan k × (e.result ≡ Err (refusal k 0))
  -- ---- "A job without hints, and one whose every allowed plan of least cost meets all its hints"

  pub without_hints : (job_of call.bytes).hints ≡ [] → MeetsHints (caller_job call)
  -- "without hints always 12"
  pub without_hints_12 : (job_of call.bytes).hints ≡ [] → {k p : ℕ} → NoPlan k → e.result ≡ Err (refusal k p) → k ≡ 12
  pub best_comes : Taken call → Other e → MeetsHints (caller_job call) → (p : List ℕ) → Best (caller_job call) p → length p ≤ length buffer
      → (e.result ≡ Ok (planned (cost_of (caller_job call) p) (length p))) × (take (length p) e.plan ≡ p)
  -- "has none exactly if none is allowed"
  pub none_allowed : MeetsHints (caller_job call) → {k p : ℕ} → NoPlan k → e.result ≡ Err (refusal k p) → (q : List ℕ) → AllowedPlan (caller_job call) q → ⊥
  pub none_allowed_comes : Taken call → Other e → MeetsHints (caller_job call) → ((q : List ℕ) → AllowedPlan (caller_job call) q → ⊥)
      → (k : ℕ) × NoPlan k × (e.result ≡ Err (refusal k 0))

-- The part of the plan buffer that `search::planned` hands back is the plan, and empty on a refusal.
pub record PartIs (call : Call) (buffer : List ℕ) (e : SearchEnd) (part : List ℕ) : Type 0 where
  pub plan_part : {c n : ℕ} → e.result ≡ Ok (planned c n) → Handed call buffer e c n × (part ≡ take n e.plan)
  pub empty_part : {r : Refusal} → e.result ≡ Err r → part ≡ []
