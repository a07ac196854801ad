-- The definitions evaluated on small jobs: that they compute, and say what a reader expects.
use Rattle.std.proofs.Common.{Ok, Err, None, Some}
use Rattle.model.specs.Verdict.{no_refusal}
use Rattle.model.specs.Results.{planned, passed}
use mathlib.Core.Path.{◌≡◌, refl}
use Prim.Native.Nat.{ℕ}
use mathlib.Core.List.{List, [], ◌∷◌, ◌++◌, map}
use Rattle.model.specs.Refusal.{refusal}
use Rattle.model.specs.Cases.{facts, with_one, P, P-rule, P-hint, by_program}
use Rattle.model.specs.job.Decoding.{job_verdict}
use Rattle.model.specs.job.Job.{Action, Job}
use Rattle.model.specs.job.Layout.{job_of}
use Rattle.model.specs.job.Rights.{usable_bits, restricted}
use Rattle.model.specs.search.Estimate.{level_of, estimate_of}
use Rattle.model.specs.search.JobSystem.{solve_job, reached_count}
use Rattle.model.specs.exploration.Equations.{plan, no_plan}
use Rattle.model.specs.calls.Call.{call, call_verdict, caller_job}
use Rattle.model.specs.calls.Search.{ruled}
use Rattle.model.specs.calls.Validate.{validated}

-- read_throughs of job P: passed, with cost 16; not applicable; no such step; the goal is missing; the rule is not met; the hint is met
read_throughs : map (λ (p : List ℕ). validated (by_program P) p) ((0 ∷ 1 ∷ 2 ∷ []) ∷ (0 ∷ 2 ∷ []) ∷ (0 ∷ 3 ∷ []) ∷ (0 ∷ 1 ∷ []) ∷ [])
    ≡ Ok (passed 16 0) ∷ Err (refusal 7 1) ∷ Err (refusal 6 1) ∷ Err (refusal 8 0) ∷ []
unfolding validated P
read_throughs = refl

read_rule : validated (by_program (P-rule (0x23 ∷ 0x10 ∷ 0x04 ∷ 0x00 ∷ 0x04 ∷ 0x01 ∷ []))) (0 ∷ 1 ∷ 2 ∷ []) ≡ Err (refusal 9 0)
unfolding validated P-rule
read_rule = refl

read_hint : validated (by_program (P-hint (0x21 ∷ 0x04 ∷ 0x00 ∷ []))) (0 ∷ 1 ∷ 2 ∷ []) ≡ Ok (passed 16 1)
unfolding validated P-hint
read_hint = refl

-- six times 20, then 03 00: accepted; seven times: 5, at the byte 03
six_nexts : job_verdict (P-rule (0x20 ∷ 0x20 ∷ 0x20 ∷ 0x20 ∷ 0x20 ∷ 0x20 ∷ 0x03 ∷ 0x00 ∷ [])) ≡ no_refusal
unfolding job_verdict P-rule
six_nexts = refl

seven_nexts : job_verdict (P-rule (0x20 ∷ 0x20 ∷ 0x20 ∷ 0x20 ∷ 0x20 ∷ 0x20 ∷ 0x20 ∷ 0x03 ∷ 0x00 ∷ [])) ≡ Err (refusal 5 113)
unfolding job_verdict P-rule
seven_nexts = refl

empty_job : job_verdict [] ≡ Err (refusal 1 0)
unfolding job_verdict
empty_job = refl

-- job P reaches five nodes; a plan buffer of two bytes is too short for its plan
five_nodes : reached_count (job_of P) ≡ 5
unfolding reached_count job_of P
five_nodes = refl

short_buffer : ruled (by_program P) (7 ∷ []) (9 ∷ 9 ∷ []) ≡ record { result = Err (refusal 13 3); table = 0 ∷ []; plan = 9 ∷ 9 ∷ [] }
unfolding ruled P
short_buffer = refl

-- ---- job P with forbidden facts

-- its pair is 8, 118; the forbidden facts of sand, lamp and pass
unfoldable forbidding : ℕ → ℕ → ℕ → List ℕ
unfolding facts
forbidding sand lamp pass =
    (3 ∷ 3 ∷ 0 ∷ 0 ∷ []) ++ (8 ∷ 0 ∷ 118 ∷ 0 ∷ []) ++ facts 0 ++ facts 4
    ++ facts 0 ++ facts 1 ++ facts 0 ++ facts sand ++ (5 ∷ 0 ∷ [])
    ++ facts 0 ++ facts 2 ++ facts 0 ++ facts lamp ++ (2 ∷ 0 ∷ [])
    ++ facts 3 ++ facts 4 ++ facts 0 ++ facts pass ++ (9 ∷ 0 ∷ [])

-- with nothing forbidden it is job P
same_job : job_of (forbidding 0 0 0) ≡ job_of P
unfolding job_of forbidding P
same_job = refl

-- the lamp only before sanding: 1 0 2; also no sanding with the lamp on, or a pass that forbids what it needs: 12
planned_or_not : map (λ (job : List ℕ). (ruled (by_program job) [] (9 ∷ 9 ∷ 9 ∷ [])).result) (forbidding 0 1 0 ∷ forbidding 2 1 0 ∷ forbidding 0 0 1 ∷ [])
    ≡ Ok (planned 16 3) ∷ Err (refusal 12 0) ∷ Err (refusal 12 0) ∷ []
unfolding ruled forbidding
planned_or_not = refl

lamp_first : (ruled (by_program (forbidding 0 1 0)) [] (9 ∷ 9 ∷ 9 ∷ [])).plan ≡ 1 ∷ 0 ∷ 2 ∷ []
unfolding ruled forbidding
lamp_first = refl

not_with_lamp : validated (by_program (forbidding 2 0 0)) (1 ∷ 0 ∷ 2 ∷ []) ≡ Err (refusal 7 1)
unfolding validated forbidding
not_with_lamp = refl

-- a bit above the facts in the forbidden set of the last action: 3, at that set
unknown_fact : job_verdict (forbidding 0 0 8) ≡ Err (refusal 3 116)
unfolding job_verdict forbidding
unknown_fact = refl

-- ---- estimates

-- job P: at the start sanding (5) is dearer than the lamp (2), and the pass (9) needs both; then with sanding done, with the lamp on, with both, and at
-- the goal
estimates : map (λ (s : ℕ). estimate_of (job_of P) s) (0 ∷ 1 ∷ 2 ∷ 3 ∷ 4 ∷ []) ≡ Some 14 ∷ Some 11 ∷ Some 14 ∷ Some 9 ∷ Some 0 ∷ []
unfolding estimate_of job_of P
estimates = refl

-- what a step forbids is overlooked: the pass forbids what it needs, and the estimate stays
overlooked : estimate_of (job_of (forbidding 0 0 1)) 0 ≡ Some 14
unfolding estimate_of job_of forbidding
overlooked = refl

-- two free steps, each of which needs what the other adds; the goal is the fact of the first
unfoldable free_cycle : Job
free_cycle = record { start = 0; goal = 1; actions = free 2 1 ∷ free 1 2 ∷ []; constraints = []; hints = [] }
  where
    free : ℕ → ℕ → Action
    free pre add = record { pre = pre; add = add; del = 0; forbidden = 0; cost = 0 }

-- no fact can be built, although costs of 0 for both would solve the equations, too; without a goal the estimate is 0
built_by_each_other : estimate_of free_cycle 0 ≡ None
unfolding estimate_of free_cycle
built_by_each_other = refl

no_goal_lem : level_of free_cycle 0 0 ≡ Some 0
unfolding level_of free_cycle
no_goal_lem = refl

-- ---- rights

-- the lamp of job P needs right 1: without it there is no plan, with it there is
lamp_barred : map (λ (rights : ℕ). solve_job (caller_job (call P (0 ∷ 2 ∷ 0 ∷ []) rights))) (0 ∷ 1 ∷ 2 ∷ 3 ∷ [])
    ≡ no_plan 12 ∷ no_plan 12 ∷ plan 16 (0 ∷ 1 ∷ 2 ∷ []) ∷ plan 16 (0 ∷ 1 ∷ 2 ∷ []) ∷ []
unfolding solve_job restricted usable_bits job_of P
lamp_barred = refl

-- a step that needs two rights may be used only with both
both_needed : map (λ (rights : ℕ). usable_bits (5 ∷ 0 ∷ 4 ∷ []) rights) (0 ∷ 1 ∷ 4 ∷ 5 ∷ 255 ∷ []) ≡ 2 ∷ 2 ∷ 6 ∷ 7 ∷ 7 ∷ []
unfolding usable_bits
both_needed = refl

-- the estimate counts only steps that may be used: without sanding the goal cannot be built, without the pass it cannot either
not_counted : map (λ (u : ℕ). estimate_of (restricted u (job_of P)) 0) (7 ∷ 6 ∷ 3 ∷ []) ≡ Some 14 ∷ None ∷ None ∷ []
unfolding estimate_of restricted job_of P
not_counted = refl

-- a list of another length than the number of steps: 14, with its length; of bytes that are no job: 1
other_lengths : map (λ (needs : List ℕ). call_verdict (call P needs 255)) ([] ∷ (0 ∷ 0 ∷ []) ∷ (0 ∷ 0 ∷ 0 ∷ 0 ∷ []) ∷ [])
    ≡ Err (refusal 14 0) ∷ Err (refusal 14 2) ∷ Err (refusal 14 4) ∷ []
unfolding call_verdict P
other_lengths = refl

job_first : call_verdict (call [] (0 ∷ []) 255) ≡ Err (refusal 1 0)
unfolding call_verdict
job_first = refl

-- the pass needs right 1: without it, 15 comes before 7 and after 6
between_6_and_7 : map (λ (p : List ℕ). validated (call P (0 ∷ 0 ∷ 2 ∷ []) 1) p) ((0 ∷ 2 ∷ []) ∷ (0 ∷ 3 ∷ []) ∷ (0 ∷ 1 ∷ 2 ∷ []) ∷ [])
    ≡ Err (refusal 15 1) ∷ Err (refusal 6 1) ∷ Err (refusal 15 2) ∷ []
unfolding validated P
between_6_and_7 = refl

-- a rule that names a barred step: that the lamp is never switched on is met, that it is at some time is not
named_by_rule : map (λ (φ : List ℕ). (ruled (call (with_one 1 1 0 φ) (0 ∷ 2 ∷ 0 ∷ []) 1) [] (9 ∷ [])).result)
    ((0x22 ∷ 0x10 ∷ 0x04 ∷ 0x01 ∷ []) ∷ (0x21 ∷ 0x04 ∷ 0x01 ∷ []) ∷ []) ≡ Ok (planned 5 1) ∷ Err (refusal 12 0) ∷ []
unfolding ruled with_one
named_by_rule = refl
