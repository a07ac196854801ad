-- Card 2 holds: the estimate is the max estimate, plans stay, and a start without an estimate gives 12.
use Rattle.std.proofs.Common.{Err, Option, None, Some}
use mathlib.Core.Path.{◌≡◌, refl, sym, ap, ◌∙◌, subst}
use mathlib.Core.Bool.{true}
use mathlib.Core.List.{List, [], ◌∷◌, ◌++◌}
use Prim.Native.Nat.{ℕ}
use native.Mathlib.Omega.{arith}
use lib.ListN.{length}
use Rattle.model.specs.Refusal.{refusal}
use Rattle.model.specs.job.Job.{Job, action_of}
use Rattle.model.specs.task.State.{within, after}
use Rattle.model.specs.task.Plan.{state_after, executable, cost_of}
use Rattle.model.specs.exploration.Equations.{no_plan}
use Rattle.model.specs.exploration.Explore.{reached, solve}
use Rattle.model.specs.exploration.Guided.{has}
use Rattle.model.specs.search.Node.{Node}
use Rattle.model.specs.search.Estimate.{estimate_of}
use Rattle.model.specs.search.MaxEstimate.{AtMost}
use Rattle.model.specs.search.JobSystem.{start_node, node_estimate, system_of, solve_job, reached_count}
use Rattle.model.specs.calls.Call.{Call, caller_job}
use Rattle.model.specs.calls.Search.{SearchEnd, SearchGives}
use Rattle.model.proofs.exploration.Fuel.{reached_none}
use Rattle.model.proofs.exploration.Guiding.{kept_none, kept_out}
use Rattle.model.proofs.calls.CallLaws.{call_proper}
use Rattle.model.proofs.job.PlanLaws.{executable_cons}
use Rattle.model.proofs.job.NodeLaws.{start_some}
use Rattle.model.proofs.job.VerdictLaws.{bad_not_fine}
use Rattle.model.proofs.job.GuidedJob.{job_plans_stay}
use Rattle.model.proofs.estimate.Estimates.{max_estimate}
use Rattle.model.proofs.estimate.Overlooked.{overlooks}
use Rattle.model.proofs.calls.Ways.{Way, not_taken, none as no_answer, whole, short, small, way}
use Rattle.demands.specs.Demand2.{AllowedPlan}
use Rattle.demands.specs.Estimate.{Estimates, StartUnreached}
use Rattle.demands.proofs.Results.{plan_not_none}

module _ (j : Job) where
  -- ---- the rest of a plan

  -- Steps that are applicable one after the other are so from each state on.
  rest_executable : (p q : List ℕ) (s : ℕ) → executable j s (p ++ q) ≡ true → executable j (state_after j s p) q ≡ true
  unfolding state_after
  rest_executable [] q s e = e
  rest_executable (i ∷ p) q s e = rest_executable p q (after (action_of j i) s) ((executable_cons j s i (p ++ q)).0 e).2

  rest_state : (p q : List ℕ) (s : ℕ) → state_after j s (p ++ q) ≡ state_after j (state_after j s p) q
  unfolding state_after
  rest_state [] q s = refl
  rest_state (i ∷ p) q s = rest_state p q (after (action_of j i) s)

  rest_most : (p q : List ℕ) → AllowedPlan j (p ++ q) → AtMost (estimate_of j (state_after j j.start p)) (cost_of j q)
  rest_most p q a =
      (max_estimate j (state_after j j.start p)).admissible q (rest_executable p q j.start a.applicable)
      (subst (λ (s : ℕ). within j.goal s ≡ true) (rest_state p q j.start) a.goal)

  -- ---- a start without an estimate

  not_reached : estimate_of j j.start ≡ None → (system_of j).start ≡ None
  not_reached e = go (start_node j) refl
    where
      go : (o : Option Node) → start_node j ≡ o → (system_of j).start ≡ None
      go None d = kept_none (λ (n : Node). has (node_estimate j n)) d
      go (Some m) d =
          kept_out (λ (n : Node). has (node_estimate j n)) d
          (ap (λ (n : Node). has (node_estimate j n)) (sym ((start_some j m).0 d).1) ∙ ap has e)

  none_reached : estimate_of j j.start ≡ None → reached (system_of j) ≡ []
  none_reached e = reached_none (system_of j) (not_reached e)

  twelve : estimate_of j j.start ≡ None → solve_job j ≡ no_plan 12
  unfolding solve_job solve
  twelve e = rw (none_reached e)

  count_zero : estimate_of j j.start ≡ None → reached_count j ≡ 0
  unfolding reached_count
  count_zero e = ap length (none_reached e)

module _ (call : Call) (table buffer : List ℕ) where
  -- Every way out of a search but 12 is shut.
  unreached : {e : SearchEnd} → Way call table buffer e → StartUnreached call e
  unreached (not_taken b) fine h = absurd (bad_not_fine (sym b ∙ fine))
  unreached (no_answer f {k} s) fine h = let t = twelve (caller_job call) h in let d : k ≡ 12 = cc in ap (λ (n : ℕ). Err (refusal n 0)) d
  unreached (whole f s l) fine h = plan_not_none (sym s ∙ twelve (caller_job call) h)
  unreached (short f s l) fine h = plan_not_none (sym s ∙ twelve (caller_job call) h)
  unreached (small f l) fine h = absurd (omega (arith, count_zero (caller_job call) h))

  pub start_unreached : (e : SearchEnd) → SearchGives call table buffer e → StartUnreached call e
  start_unreached e g = unreached (way call table buffer g)

pub estimates : (call : Call) → Estimates call
unfolding solve_job
estimates call = record {
  is_max = max_estimate (caller_job call);
  rest = rest_most (caller_job call);
  overlooks = overlooks (caller_job call);
  plans_stay = λ fine. job_plans_stay (caller_job call) (call_proper call fine);
}
