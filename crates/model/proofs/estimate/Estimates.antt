-- The estimate is the max estimate: the largest solution of the card's equations, admissible and consistent.
use Rattle.std.proofs.Common.{Option, None, Some}
use mathlib.Core.Path.{◌≡◌, refl, sym, ap, ◌∙◌, subst}
use mathlib.Core.Logic.{◌↔◌}
use Prim.Native.Nat.{ℕ, ◌+◌, ◌<◌}
use native.Mathlib.Omega.{arith}
use mathlib.Core.Bool.{Bool, true, false, true≢false}
use mathlib.Core.List.{List, [], ◌∷◌}
use lib.ListN.{length}
use Rattle.model.specs.Bits.{bit}
use Rattle.model.specs.job.Job.{Job, Action, action_of}
use Rattle.model.specs.task.State.{within, applicable, after}
use Rattle.model.specs.task.Plan.{state_after, executable, cost_of}
use Rattle.model.specs.search.Estimate.{level_from, level_of, estimate_of}
use Rattle.model.specs.search.MaxEstimate.{AtMost, Costs, Ready, Solves, MaxEstimate}
use Rattle.model.proofs.task.StateLaws.{applicable_needs}
use Rattle.model.proofs.job.PlanLaws.{executable_cons}
use Rattle.model.proofs.estimate.Built.{Built, stands, made, AllBuilt, before_it}
use Rattle.model.proofs.estimate.OneFact.{only, only_it, only_one}
use Rattle.model.proofs.estimate.Levels.{level_most}

module _ (j : Job) where
  abbrev act : ℕ → Action
  act i = action_of j i

  -- ---- the estimate

  -- It is at most t exactly if all goal facts can be built at t.
  pub estimate_most : (s t : ℕ) → AtMost (estimate_of j s) t ↔ AllBuilt j s j.goal t
  unfolding estimate_of
  estimate_most s t = level_most j j.goal s t

  -- "never to fall by more than a step's cost along that step"
  pub falls_least : (s i t : ℕ) → i < length j.actions → applicable (act i) s ≡ true → AtMost (estimate_of j (after (act i) s)) t
      → AtMost (estimate_of j s) ((act i).cost + t)
  falls_least s i t b a h =
      (estimate_most s ((act i).cost + t)).1 (λ g p. before_it j s i b (applicable_needs (act i) s a) ((estimate_most (after (act i) s) t).0 h g p))

  -- A state with the goal is estimated at nothing.
  pub goal_zero : (s : ℕ) → within j.goal s ≡ true → estimate_of j s ≡ Some 0
  unfolding estimate_of level_of level_from
  goal_zero s h = rw (h, level_from)

  -- "never to exceed the least cost left": that of any actions that can be made from the state and lead to the goal
  estimate_admissible : (p : List ℕ) (s : ℕ) → executable j s p ≡ true → within j.goal (state_after j s p) ≡ true
      → AtMost (estimate_of j s) (cost_of j p)
  unfolding state_after cost_of
  estimate_admissible [] s e g = subst (λ (o : Option ℕ). AtMost o 0) (sym (goal_zero s g)) (omega arith)
  estimate_admissible (i ∷ p) s e g =
      let c = (executable_cons j s i p).0 e in
      falls_least s i (cost_of j p) c.0 c.1 (estimate_admissible p (after (act i) s) c.2 g)

  -- ---- the card's equations

  -- the cost of each fact from a state
  unfoldable pub cost_from : ℕ → ℕ → Option ℕ
  cost_from s f = level_of j (only f) s

  -- It is at most t exactly if the fact can be built at t.
  cost_most : (s f t : ℕ) → AtMost (cost_from s f) t ↔ Built j s f t
  unfolding cost_from
  cost_most s f t = (
    λ h. (level_most j (only f) s t).0 h f (only_it f),
    λ b. (level_most j (only f) s t).1 (λ g p. subst (λ (k : ℕ). Built j s k t) (sym (only_one f g p)) b),
  )

  at_most_zero : (o : Option ℕ) → AtMost o 0 → o ≡ Some 0
  at_most_zero None h = absurd h
  at_most_zero (Some c) h = let e : c ≡ 0 = omega arith in ap Some e

  cost_solves : (s : ℕ) → Solves j s (cost_from s)
  cost_solves s = record {
    true_fact = λ f h. at_most_zero (cost_from s f) ((cost_most s f 0).1 (stands h));
    other = λ f t o. (λ h. from f t o ((cost_most s f t).0 h), to f t);
  }
    where
      to : (f t : ℕ) → (i : ℕ) × (i < length j.actions) × (bit (act i).add f ≡ true) × Ready j (cost_from s) i t → AtMost (cost_from s f) t
      to f t (i, l, a, (u, n, c)) = (cost_most s f t).1 (made {t = u} {u = t} i l a (λ g p. (cost_most s g u).0 (n g p)) c)

      from : (f t : ℕ) → bit s f ≡ false → Built j s f t → (i : ℕ) × (i < length j.actions) × (bit (act i).add f ≡ true) × Ready j (cost_from s) i t
      from f t o (stands h) = absurd (true≢false (sym h ∙ o))
      from f t o (made {t = u} i l a n c) = (i, l, a, (u, (λ g p. (cost_most s g u).1 (n g p)), c))

  -- No solution has a larger cost anywhere.
  cost_largest : (s : ℕ) (w : Costs) → Solves j s w → {f t : ℕ} → Built j s f t → AtMost (w f) t
  cost_largest s w x {f} {t} (stands h) = subst (λ (o : Option ℕ). AtMost o t) (sym (x.true_fact f h)) (omega arith)
  cost_largest s w x {f} {t} (made {t = u} i l a n c) = go (bit s f) refl (λ g p. cost_largest s w x (n g p))
    where
      go : (b : Bool) → bit s f ≡ b → ((g : ℕ) → bit (action_of j i).pre g ≡ true → AtMost (w g) u) → AtMost (w f) t
      go true e ih = subst (λ (o : Option ℕ). AtMost o t) (sym (x.true_fact f e)) (omega arith)
      go false e ih = (x.other f t e).1 (i, l, a, (u, ih, c))

  -- What is shown of the estimate holds of every state.
  pub max_estimate : (s : ℕ) → MaxEstimate j s
  max_estimate s = record {
    costs = cost_from s;
    costs_largest = record { solves = cost_solves s; largest = λ w x f t h. cost_largest s w x ((cost_most s f t).0 h) };
    dearest = λ t. (
      λ h g p. (cost_most s g t).1 ((estimate_most s t).0 h g p),
      λ h. (estimate_most s t).1 (λ g p. (cost_most s g t).0 (h g p)),
    );
    admissible = λ p. estimate_admissible p s;
    consistent = λ i t. falls_least s i t;
  }
