-- Demand 3 over the definitions: the plan of a job is allowed, is the best one unless hints cut it off, and is there exactly if one is allowed.
use mathlib.Core.Path.{◌≡◌, refl, sym, ap, ◌∙◌, subst}
use mathlib.Core.Logic.{◌↔◌, ◌⊎◌, inl, inr, ⊎_map}
use Prim.Native.Nat.{ℕ, ◌≤◌, ◌<◌}
use native.Mathlib.Omega.{arith}
use native.Mathlib.Decide.{dec_lt}
use mathlib.Core.Bool.{Bool, true, false, true≢false}
use mathlib.Core.List.{List, [], ◌∷◌}
use lib.ListN.{length}
use Rattle.model.specs.logic.Truth.{all_hold}
use Rattle.model.specs.job.Job.{Job}
use Rattle.model.specs.task.Plan.{allowed, meets_hints, cost_of, Worse, Best, MeetsHints}
use Rattle.model.specs.exploration.Key.{Key, Le, earlier, First}
use Rattle.model.specs.exploration.System.{System}
use Rattle.model.specs.exploration.Equations.{unbounded, Answer, plan, no_plan, Entries, Explores, Plan, NoGoal, SomeCut, Answers, with_plan, some_cut}
use Rattle.model.specs.exploration.Equations.{none_cut}
use Rattle.model.specs.exploration.Explore.{Of, reached}
use Rattle.model.specs.search.Node.{some_dead, same_numbers}
use Rattle.model.specs.search.JobSystem.{system_of, solve_job}
use Rattle.model.proofs.exploration.KeyLaws.{earlier_irrefl, earlier_trans}
use Rattle.model.proofs.exploration.Solves.{reached_solves}
use Rattle.model.proofs.exploration.Answered.{solve_answers}
use Rattle.model.proofs.exploration.Paths.{path_run}
use Rattle.model.proofs.exploration.Optimality.{Kept, best_plan, no_goal_run}
use Rattle.model.proofs.job.Accepted.{ProperJob}
use Rattle.model.proofs.job.NodeLaws.{numbers_eq, numbers_same}
use Rattle.model.proofs.job.GuidedJob.{job_laws, job_finite, job_hints, meets_start, allowed_run, run_allowed}
use Rattle.model.proofs.job.PlansAsRuns.{key_of}

-- ---- answers taken apart

module _ (S : System) (L : Entries S) where
  plan_of : {c : ℕ} {p : List ℕ} → Answers S L (plan c p) → Plan S L c p
  plan_of (with_plan x) = x

  no_goal_of : {n : ℕ} → Answers S L (no_plan n) → NoGoal S L
  no_goal_of (some_cut g c) = g
  no_goal_of (none_cut g c) = g

  number_of : {n : ℕ} → Answers S L (no_plan n) → ((n ≡ 11) × SomeCut S L) ⊎ (n ≡ 12)
  number_of (some_cut g c) = inl (refl, c)
  number_of (none_cut g c) = inr refl

none_dead : (h : List ℕ) → length h ≡ 0 → some_dead h ≡ false
unfolding some_dead
none_dead [] l = refl
none_dead (r ∷ h) l = absurd (omega arith)

module _ (j : Job) where
  -- "A job without hints" is one whose plans of least cost meet all its hints.
  pub no_hints : j.hints ≡ [] → MeetsHints j
  unfolding meets_hints all_hold
  no_hints e p a l = rw e refl

  -- ---- the order of plans

  -- Of two plans not each is worse than the other.
  worse_asym : (p q : List ℕ) → Worse j p q → Worse j q p → ⊥
  worse_asym p q (inl a) (inl b) = omega arith
  worse_asym p q (inl a) (inr (inl b)) = omega arith
  worse_asym p q (inl a) (inr (inr b)) = omega arith
  worse_asym p q (inr (inl a)) (inl b) = omega arith
  worse_asym p q (inr (inl a)) (inr (inl b)) = omega arith
  worse_asym p q (inr (inl a)) (inr (inr b)) = omega arith
  worse_asym p q (inr (inr a)) (inl b) = omega arith
  worse_asym p q (inr (inr a)) (inr (inl b)) = omega arith
  worse_asym p q (inr (inr a)) (inr (inr b)) = true≢false (sym (earlier_trans p q p a.2 b.2) ∙ earlier_irrefl p)

  -- There is one best plan.
  best_unique : (p q : List ℕ) → Best j p → Best j q → p ≡ q
  best_unique p q a b = go (same_numbers p q) refl
    where
      go : (t : Bool) → same_numbers p q ≡ t → p ≡ q
      go true e = numbers_eq p q e
      go false e = absurd (worse_asym p q (a.against q b.is_allowed other) (b.against p a.is_allowed (λ r. other (sym r))))
        where
          other : p ≡ q → ⊥
          other r = true≢false (sym (numbers_same p) ∙ ap (same_numbers p) r ∙ e)

  -- A plan whose key is not above another's, and that is the first of equal keys, is better or the same.
  first_worse : (p q : List ℕ) → Le (key_of j p) (key_of j q) → (key_of j p ≡ key_of j q → First p q) → (p ≡ q → ⊥) → Worse j p q
  first_worse p q le first other = go (dec_lt (cost_of j p) (cost_of j q)) (dec_lt (length p) (length q))
    where
      go : Dec (cost_of j p < cost_of j q) → Dec (length p < length q) → Worse j p q
      go (yes a) b = inl a
      go (no a) (yes b) = inr (inl (omega arith, b))
      go (no a) (no b) = inr (inr (c, l, comes (first (λ i. record { cost = c i; steps = l i }))))
        where
          c : cost_of j p ≡ cost_of j q
          c = omega (arith, le.0)

          l : length p ≡ length q
          l = omega (arith, le.1 c)

          comes : First p q → earlier p q ≡ true
          comes (inl e) = absurd (other e)
          comes (inr e) = e

  module _ (proper : ProperJob j) where
    -- the entries that the search reaches
    abbrev entries : Entries (system_of j)
    entries = Of (system_of j) (reached (system_of j))

    explored : Explores (system_of j) unbounded entries
    explored = reached_solves (system_of j) (job_laws j) (job_finite j proper)

    answers : {a : Answer} → solve_job j ≡ a → Answers (system_of j) entries a
    unfolding solve_job
    answers e = subst (λ (z : Answer). Answers (system_of j) entries z) e (solve_answers (system_of j) (job_laws j) (job_finite j proper))

    -- In such a job the runs of least cost meet the hint residuals from the start on.
    kept : MeetsHints j → Kept (system_of j) (job_hints j proper)
    kept meet p k r least m s =
        let a = run_allowed j proper p k r in
        meets_start j proper m p s
        ∙ meet p a.0 (λ q b. subst (λ (z : Key). z.cost ≤ cost_of j q) a.1 (least q (key_of j q) (allowed_run j proper q b)))

    -- The path of an answer is a run to a goal, so an allowed plan, and its key is the plan's.
    plan_is_allowed : {c : ℕ} {p : List ℕ} (y : Plan (system_of j) entries c p) → (allowed j p ≡ true) × (y.key ≡ key_of j p)
    plan_is_allowed {c} {p} y = let r = path_run (system_of j) y.path in run_allowed j proper p y.key (r.0, y.node, r.1, r.2, y.goal)

    -- Every plan answered is allowed, and its cost is the one answered.
    pub plan_allowed : {c : ℕ} {p : List ℕ} → solve_job j ≡ plan c p → (allowed j p ≡ true) × (cost_of j p ≡ c)
    plan_allowed e =
        let y = plan_of (system_of j) entries (answers e) in
        let a = plan_is_allowed y in
        (a.0, sym (ap (λ (z : Key). z.cost) a.1) ∙ y.cost_is)

    -- The plan of such a job is the best one.
    pub plan_best : MeetsHints j → {c : ℕ} {p : List ℕ} → solve_job j ≡ plan c p → Best j p
    plan_best meet {c} {p} e = record { is_allowed = own.0; against = λ q a other. first_worse p q (before q a).0 (before q a).1 other }
      where
        y : Plan (system_of j) entries c p
        y = plan_of (system_of j) entries (answers e)

        own : (allowed j p ≡ true) × (y.key ≡ key_of j p)
        own = plan_is_allowed y

        before : (q : List ℕ) → allowed j q ≡ true → Le (key_of j p) (key_of j q) × (key_of j p ≡ key_of j q → First p q)
        before q a =
            subst (λ (z : Key). Le z (key_of j q) × (z ≡ key_of j q → First p q)) own.1
            (best_plan (system_of j) (job_laws j) (job_hints j proper) explored (kept meet) y q (key_of j q) (allowed_run j proper q a))

    -- Where such a job has no plan, none is allowed.
    pub none_allowed : MeetsHints j → {n : ℕ} → solve_job j ≡ no_plan n → (p : List ℕ) → allowed j p ≡ true → ⊥
    none_allowed meet e p a =
        no_goal_run (system_of j) (job_laws j) (job_hints j proper) explored (kept meet) (no_goal_of (system_of j) entries (answers e)) p (key_of j p) (allowed_run j proper p a)

    -- "and has none exactly if none is allowed"
    pub no_plan_exactly : MeetsHints j → ((n : ℕ) × (solve_job j ≡ no_plan n)) ↔ ((p : List ℕ) → allowed j p ≡ true → ⊥)
    no_plan_exactly meet = (λ h. none_allowed meet h.1, go (solve_job j) refl)
      where
        go : (a : Answer) → solve_job j ≡ a → ((p : List ℕ) → allowed j p ≡ true → ⊥) → (n : ℕ) × (solve_job j ≡ no_plan n)
        go (plan c p) e none = absurd (none p (plan_allowed e).0)
        go (no_plan n) e none = (n, e)

    -- The best plan is the one answered, with its cost.
    pub best_is_plan : MeetsHints j → (p : List ℕ) → Best j p → solve_job j ≡ plan (cost_of j p) p
    best_is_plan meet p b = go (solve_job j) refl
      where
        go : (a : Answer) → solve_job j ≡ a → solve_job j ≡ plan (cost_of j p) p
        go (plan c q) e =
            let d : cost_of j q ≡ c = (plan_allowed e).1 in
            let s : q ≡ p = best_unique q p (plan_best meet e) b in
            cc
        go (no_plan n) e = absurd (none_allowed meet e p b.is_allowed)

    -- "'no plan' is 11 or 12,"
    pub answer_numbers : {n : ℕ} → solve_job j ≡ no_plan n → (n ≡ 11) ⊎ (n ≡ 12)
    answer_numbers e = ⊎_map (λ h. h.0) (λ h. h) (number_of (system_of j) entries (answers e))

    -- "without hints always 12"
    pub no_hints_12 : j.hints ≡ [] → {n : ℕ} → solve_job j ≡ no_plan n → n ≡ 12
    no_hints_12 none e = go (number_of (system_of j) entries (answers e))
      where
        go : {n : ℕ} → ((n ≡ 11) × SomeCut (system_of j) entries) ⊎ (n ≡ 12) → n ≡ 12
        go (inl (a, (m, k, h, l, cut))) = absurd (true≢false (sym cut ∙ none_dead h ((explored.proper l).0 ∙ ap length none)))
        go (inr a) = a
