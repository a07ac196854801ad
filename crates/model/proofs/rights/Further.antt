-- Without hints, further rights never make a caller's plan dearer.
use Rattle.model.specs.Verdict.{no_refusal}
use mathlib.Core.Path.{◌≡◌, refl, sym, ap, ◌∙◌}
use mathlib.Core.Logic.{inl, inr}
use Prim.Native.Nat.{ℕ, ◌≤◌, ◌<◌}
use native.Mathlib.Omega.{arith}
use native.Mathlib.Decide.{dec_lt}
use mathlib.Core.Bool.{true}
use mathlib.Core.List.{List, []}
use Rattle.model.specs.Bits.{bit}
use Rattle.model.specs.job.Job.{Job}
use Rattle.model.specs.job.Layout.{job_of}
use Rattle.model.specs.job.Decoding.{job_verdict}
use Rattle.model.specs.job.Rights.{usable_bits, restricted}
use Rattle.model.specs.task.State.{within}
use Rattle.model.specs.task.Plan.{allowed, cost_of, Worse, MeetsHints}
use Rattle.model.specs.exploration.Equations.{Answer, plan, no_plan}
use Rattle.model.specs.search.JobSystem.{solve_job}
use Rattle.model.specs.calls.Call.{call, caller_job}
use Rattle.model.proofs.exploration.Each.{all_map}
use Rattle.model.proofs.job.Accepted.{ProperJob, accepted_proper}
use Rattle.model.proofs.job.AcceptedPlans.{AnsweredRight, proper_right}
use Rattle.model.proofs.rights.Steps.{restricted_proper}
use Rattle.model.proofs.rights.Plans.{Usable, cost_restricted, allowed_restricted}
use Rattle.model.proofs.rights.Lists.{usable_more}

worse_costs : (j : Job) (p q : List ℕ) → Worse j p q → cost_of j p ≤ cost_of j q
worse_costs j p q (inl a) = omega arith
worse_costs j p q (inr (inl a)) = omega arith
worse_costs j p q (inr (inr a)) = omega arith

-- With more steps that may be used the plan is as cheap or cheaper: the plan with fewer of them stays allowed, at its cost.
module _ (u w : ℕ) (more : (i : ℕ) → bit u i ≡ true → bit w i ≡ true) (j : Job) (proper : ProperJob j) (unhinted : j.hints ≡ []) where
  pub more_usable : {c : ℕ} {p : List ℕ} → solve_job (restricted u j) ≡ plan c p
      → (d : ℕ) × (q : List ℕ) × (solve_job (restricted w j) ≡ plan d q) × (d ≤ c)
  unfolding restricted
  more_usable {c} {p} e = go (solve_job (restricted w j)) refl
    where
      right_u : AnsweredRight (restricted u j)
      right_u = proper_right (restricted u j) (restricted_proper u j proper)

      right_w : AnsweredRight (restricted w j)
      right_w = proper_right (restricted w j) (restricted_proper w j proper)

      own : (allowed j p ≡ true) × Usable u p
      own = (allowed_restricted u j p).0 (right_u.is_allowed e).0

      wider : Usable w p
      wider = all_map _ _ more p own.1

      also : allowed (restricted w j) p ≡ true
      also = (allowed_restricted w j p).1 (own.0, wider)

      cost : cost_of (restricted w j) p ≡ c
      cost = cost_restricted w j p wider ∙ sym (cost_restricted u j p own.1) ∙ (right_u.is_allowed e).1

      meets : MeetsHints (restricted w j)
      meets = right_w.without_hints unhinted

      least : (d : ℕ) (q : List ℕ) → solve_job (restricted w j) ≡ plan d q → Dec (c < d) → d ≤ c
      least d q f (no l) = omega arith
      least d q f (yes l) =
          let k : cost_of (restricted w j) q ≡ d = (right_w.is_allowed f).1 in
          let other : q ≡ p → ⊥ = λ r. omega (arith, ap (cost_of (restricted w j)) r, cost) in
          omega (arith, cost, worse_costs (restricted w j) q p ((right_w.is_best meets f).against p also other))

      go : (x : Answer) → solve_job (restricted w j) ≡ x → (d : ℕ) × (q : List ℕ) × (solve_job (restricted w j) ≡ plan d q) × (d ≤ c)
      go (no_plan n) f = absurd ((right_w.none_exactly meets).0 (n, f) p also)
      go (plan d q) f = (d, q, f, least d q f (dec_lt c d))

-- "Without hints, .. further rights never make a caller's plan dearer."
pub further_rights : (bytes needs : List ℕ) (r s : ℕ) → job_verdict bytes ≡ no_refusal → (job_of bytes).hints ≡ [] → within r s ≡ true
    → {c : ℕ} {p : List ℕ} → solve_job (caller_job (call bytes needs r)) ≡ plan c p
    → (d : ℕ) × (q : List ℕ) × (solve_job (caller_job (call bytes needs s)) ≡ plan d q) × (d ≤ c)
further_rights bytes needs r s fine unhinted h e =
    more_usable (usable_bits needs r) (usable_bits needs s) (usable_more needs r s h) (job_of bytes) (accepted_proper bytes fine) unhinted e
