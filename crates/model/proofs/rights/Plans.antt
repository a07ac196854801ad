-- The plans of a restricted job are those of the job whose steps may all be used.
use Rattle.std.proofs.Common.{None}
use mathlib.Core.Path.{◌≡◌, refl, sym, ap, ap₂, ◌∙◌, subst}
use mathlib.Core.Logic.{◌↔◌}
use Prim.Native.Nat.{ℕ, ◌+◌, ◌<◌}
use mathlib.Core.Bool.{true}
use mathlib.Core.List.{List, [], ◌∷◌}
use lib.ListN.{length}
use Rattle.model.specs.Bits.{bit}
use Rattle.model.specs.logic.Truth.{World, all_hold}
use Rattle.model.specs.job.Job.{Job, Action, action_of}
use Rattle.model.specs.job.Rights.{restricted}
use Rattle.model.specs.task.State.{within, applicable, after}
use Rattle.model.specs.task.Plan.{state_after, worlds_after, worlds, executable, allowed, cost_of}
use Rattle.model.proofs.exploration.Each.{All}
use Rattle.model.proofs.job.PlanLaws.{executable_cons, allowed_split}
use Rattle.model.proofs.rights.Steps.{length-restricted, action_usable, applicable_usable}

-- Each step of a list may be used.
abbrev pub Usable : ℕ → List ℕ → Type 0
Usable u p = All (λ i. bit u i ≡ true) p

module _ (u : ℕ) (j : Job) where
  -- ---- a list of steps that may be used is in both jobs the same

  states_same : (p : List ℕ) (s : ℕ) → Usable u p → state_after (restricted u j) s p ≡ state_after j s p
  unfolding state_after
  states_same [] s h = refl
  states_same (i ∷ p) s h = rw (action_usable u j i h.0) (states_same p (after (action_of j i) s) h.1)

  worlds_after_lem : (p : List ℕ) (s : ℕ) → Usable u p → worlds_after (restricted u j) s p ≡ worlds_after j s p
  unfolding worlds_after
  worlds_after_lem [] s h = refl
  worlds_after_lem (i ∷ p) s h = rw (action_usable u j i h.0, worlds_after_lem p (after (action_of j i) s) h.1)

  pub cost_restricted : (p : List ℕ) → Usable u p → cost_of (restricted u j) p ≡ cost_of j p
  unfolding cost_of
  cost_restricted [] h = refl
  cost_restricted (i ∷ p) h = ap₂ ◌+◌ (ap (λ (a : Action). a.cost) (action_usable u j i h.0)) (cost_restricted p h.1)

  end_same : (p : List ℕ) → Usable u p → state_after (restricted u j) (restricted u j).start p ≡ state_after j j.start p
  unfolding restricted
  end_same p v = states_same p j.start v

  pub worlds_same : (p : List ℕ) → Usable u p → worlds (restricted u j) p ≡ worlds j p
  unfolding worlds restricted
  worlds_same p v = ap (λ (ws : List World). record { state = j.start; made = None } ∷ ws) (worlds_after_lem p j.start v)

  -- ---- which lists can be made

  -- Steps that can be made in the restricted job can be made in the job, and may be used.
  makes : (p : List ℕ) (s : ℕ) → executable (restricted u j) s p ≡ true → (executable j s p ≡ true) × Usable u p
  unfolding executable
  makes [] s h = (refl, tt)
  makes (i ∷ p) s h =
      let c = (executable_cons (restricted u j) s i p).0 h in
      let inside : i < length j.actions = rw length-restricted at c.0 in
      let e = applicable_usable u j i inside s c.1 in
      let a = action_usable u j i e in
      let r = makes p (after (action_of j i) s) (subst (λ (x : Action). executable (restricted u j) (after x s) p ≡ true) a c.2) in
      ((executable_cons j s i p).1 (inside, subst (λ (x : Action). applicable x s ≡ true) a c.1, r.0), (e, r.1))

  -- Steps that can be made in the job and may be used can be made in the restricted job.
  made : (p : List ℕ) (s : ℕ) → executable j s p ≡ true → Usable u p → executable (restricted u j) s p ≡ true
  unfolding executable
  made [] s h v = refl
  made (i ∷ p) s h v =
      let c = (executable_cons j s i p).0 h in
      let a : action_of j i ≡ action_of (restricted u j) i = sym (action_usable u j i v.0) in
      let l : i < length (restricted u j).actions = rw length-restricted c.0 in
      (executable_cons (restricted u j) s i p).1 (
        l,
        subst (λ (x : Action). applicable x s ≡ true) a c.1,
        subst (λ (x : Action). executable (restricted u j) (after x s) p ≡ true) a (made p _ c.2 v.1),
      )

  -- "An allowed plan has only steps whose needed bits are all held": the restricted job allows what the job allows by steps that may all be used.
  pub allowed_restricted : (p : List ℕ) → (allowed (restricted u j) p ≡ true) ↔ ((allowed j p ≡ true) × Usable u p)
  unfolding restricted
  allowed_restricted p = (to, from)
    where
      to : allowed (restricted u j) p ≡ true → (allowed j p ≡ true) × Usable u p
      to h =
          let c = (allowed_split (restricted u j) p).0 h in
          let m = makes p j.start c.0 in (
            (allowed_split j p).1
                (m.0, ap (within j.goal) (sym (end_same p m.1)) ∙ c.1, ap (all_hold j.constraints) (sym (worlds_same p m.1)) ∙ c.2),
            m.1,
          )

      from : (allowed j p ≡ true) × Usable u p → allowed (restricted u j) p ≡ true
      from h =
          let c = (allowed_split j p).0 h.0 in
          (allowed_split (restricted u j) p).1
          (made p j.start c.0 h.1, ap (within j.goal) (end_same p h.1) ∙ c.1, ap (all_hold j.constraints) (worlds_same p h.1) ∙ c.2)
