-- A step list passes the read-through exactly if it is an allowed plan of steps that the caller may use.
use Rattle.std.proofs.Common.{Ok, Err}
use Rattle.model.specs.Results.{passed}
use mathlib.Core.Path.{◌≡◌, refl, sym, ◌∙◌}
use mathlib.Core.Logic.{◌↔◌}
use Prim.Native.Nat.{ℕ, zero, suc, ◌≤◌, ◌<◌}
use native.Mathlib.Omega.{arith}
use mathlib.Core.Bool.{true}
use mathlib.Core.List.{List, [], ◌∷◌}
use lib.Dec.{ltb}
use lib.ListN.{length, get_or, take}
use borrow.Author.Tests.{ltb-true, lt-ltb, leb-true, le-leb}
use Rattle.model.specs.declared.Constant.TheVariants.{True}
use Rattle.model.specs.Verdict.{no_refusal, Verdict, unless, or_else, in_turn}
use Rattle.model.specs.Bits.{bit}
use Rattle.model.specs.logic.Formula.{Formula, constant}
use Rattle.model.specs.logic.Truth.{holds, all_hold}
use Rattle.model.specs.job.Job.{Job, action_of}
use Rattle.model.specs.job.Layout.{job_of}
use Rattle.model.specs.job.Rights.{restricted}
use Rattle.model.specs.task.State.{applicable, after}
use Rattle.model.specs.task.Plan.{state_after, worlds, executable, allowed, cost_of}
use Rattle.model.specs.calls.Call.{Call, call_verdict, usable_in, caller_job}
use Rattle.model.specs.calls.Validate.{length_verdict, step_verdict, goal_verdict, constraint_verdict, steps_verdict, hint_bits, validated}
use Rattle.model.proofs.job.VerdictLaws.{bad_not_fine, or_else_fine, unless_fine, in_turn_fine, all_get_d, get_or-all}
use Rattle.model.proofs.job.PlanLaws.{all_hold_each, executable_cons, allowed_split}
use Rattle.model.proofs.rights.Plans.{Usable, allowed_restricted}

module _ (j : Job) where
  -- from state s, action i of the list is one of the job's and applicable after those before it
  abbrev CanMake : ℕ → List ℕ → ℕ → Type 0
  CanMake s p i = (get_or p i 0 < length j.actions) × (applicable (action_of j (get_or p i 0)) (state_after j s (take i p)) ≡ true)

  -- Actions can be made exactly if each can after those before it.
  each_made : (p : List ℕ) (s : ℕ) → executable j s p ≡ true → (i : ℕ) → i < length p → CanMake s p i
  unfolding state_after
  each_made [] s h i l = absurd (omega arith)
  each_made (a ∷ p) s h zero l = let c = (executable_cons j s a p).0 h in (c.0, c.1)
  each_made (a ∷ p) s h (suc i) l = each_made p (after (action_of j a) s) ((executable_cons j s a p).0 h).2 i (omega arith)

  all_made : (p : List ℕ) (s : ℕ) → ((i : ℕ) → i < length p → CanMake s p i) → executable j s p ≡ true
  unfolding state_after executable
  all_made [] s h = refl
  all_made (a ∷ p) s h =
      let c = h 0 (omega arith) in
      (executable_cons j s a p).1 (c.0, c.1, all_made p (after (action_of j a) s) (λ i l. h (suc i) (omega arith)))

  -- The check of a step passes if it can be made and may be used.
  step_passes : (u : ℕ) (p : List ℕ) (i : ℕ) → (step_verdict j p u i ≡ no_refusal) ↔ (CanMake j.start p i × (bit u (get_or p i 0) ≡ true))
  unfolding step_verdict
  step_passes u p i = (
    λ h.
        let a = (or_else_fine number _).0 h in
        let b = (or_else_fine right last).0 a.1 in
        ((ltb-true _ _ ((unless_fine _ 6 i).0 a.0), (unless_fine _ 7 i).0 b.1), (unless_fine _ 15 i).0 b.0),
    λ h. (or_else_fine number _).1
        ((unless_fine _ 6 i).1 (lt-ltb _ _ h.0.0), (or_else_fine right last).1 ((unless_fine _ 15 i).1 h.1, (unless_fine _ 7 i).1 h.0.1)),
  )
    where
      number : Verdict
      number = unless (ltb (get_or p i 0) (length j.actions)) 6 i

      right : Verdict
      right = unless (bit u (get_or p i 0)) 15 i

      last : Verdict
      last = unless (applicable (action_of j (get_or p i 0)) (state_after j j.start (take i p))) 7 i

  steps_pass : (u : ℕ) (p : List ℕ) → (in_turn (length p) (step_verdict j p u) ≡ no_refusal) ↔ ((executable j j.start p ≡ true) × Usable u p)
  steps_pass u p = (
    λ h. (all_made p j.start (λ i l. (each h i l).0), get_or-all (λ i. bit u i ≡ true) 0 p (λ i l. (each h i l).1)),
    λ h. (in_turn_fine (length p) (step_verdict j p u)).1
        (λ i l. (step_passes u p i).1 (each_made p j.start h.0 i l, all_get_d (λ i. bit u i ≡ true) 0 p h.1 i l)),
  )
    where
      each : in_turn (length p) (step_verdict j p u) ≡ no_refusal → (i : ℕ) → i < length p → CanMake j.start p i × (bit u (get_or p i 0) ≡ true)
      each h i l = (step_passes u p i).0 ((in_turn_fine (length p) (step_verdict j p u)).0 h i l)

  -- The checks of the constraints pass if all hold.
  constraints_pass : (p : List ℕ) → (in_turn (length j.constraints) (constraint_verdict j p) ≡ no_refusal) ↔ (all_hold j.constraints (worlds j p) ≡ true)
  unfolding constraint_verdict
  constraints_pass p = (to, from)
    where
      cs : List Formula
      cs = j.constraints

      Met : Formula → Type 0
      Met φ = holds φ (worlds j p) ≡ true

      to : in_turn (length cs) (constraint_verdict j p) ≡ no_refusal → all_hold cs (worlds j p) ≡ true
      to h =
          (all_hold_each cs (worlds j p)).1 (get_or-all Met (constant True) cs
          (λ i l. (unless_fine _ 9 i).0 ((in_turn_fine (length cs) (constraint_verdict j p)).0 h i l)))

      from : all_hold cs (worlds j p) ≡ true → in_turn (length cs) (constraint_verdict j p) ≡ no_refusal
      from h =
          (in_turn_fine (length cs) (constraint_verdict j p)).1
          (λ i l. (unless_fine _ 9 i).1 (all_get_d Met (constant True) cs ((all_hold_each cs (worlds j p)).0 h) i l))

  -- A step list that is not too long passes exactly if it is an allowed plan of steps that may be used.
  pub passes : (u : ℕ) (p : List ℕ) → length p ≤ 65_535 → (steps_verdict j p u ≡ no_refusal) ↔ ((allowed j p ≡ true) × Usable u p)
  unfolding steps_verdict length_verdict goal_verdict
  passes u p l = (to, from)
    where
      steps : Verdict
      steps = in_turn (length p) (step_verdict j p u)

      ends : Verdict
      ends = or_else (goal_verdict j p) (in_turn (length j.constraints) (constraint_verdict j p))

      to : or_else (length_verdict j p) (or_else steps ends) ≡ no_refusal → (allowed j p ≡ true) × Usable u p
      to h =
          let a = (or_else_fine (length_verdict j p) (or_else steps ends)).0 h in
          let b = (or_else_fine steps ends).0 a.1 in
          let c = (or_else_fine (goal_verdict j p) _).0 b.1 in
          let d = (steps_pass u p).0 b.0 in
          ((allowed_split j p).1 (d.0, (unless_fine _ 8 0).0 c.0, (constraints_pass p).0 c.1), d.1)

      from : (allowed j p ≡ true) × Usable u p → or_else (length_verdict j p) (or_else steps ends) ≡ no_refusal
      from h =
          let a = (allowed_split j p).0 h.0 in
          (or_else_fine (length_verdict j p) (or_else steps ends)).1 (
            (unless_fine _ 6 65_535).1 (le-leb _ _ l),
            (or_else_fine steps ends).1 (
              (steps_pass u p).1 (a.0, h.1),
              (or_else_fine (goal_verdict j p) _).1 ((unless_fine _ 8 0).1 a.1, (constraints_pass p).1 a.2),
            ),
          )

  -- What passes is not too long.
  passes_short : (u : ℕ) (p : List ℕ) → steps_verdict j p u ≡ no_refusal → length p ≤ 65_535
  unfolding steps_verdict length_verdict
  passes_short u p h = leb-true _ _ ((unless_fine _ 6 65_535).0 ((or_else_fine (length_verdict j p) _).0 h).0)

-- A read-through gives cost and hint bits exactly if the job and the list of rights are accepted and the step list is an allowed plan of the job as it is
-- to the caller, not too long.
pub validated_passes : (c : Call) (p : List ℕ) → (validated c p ≡ Ok (passed (cost_of (job_of c.bytes) p) (hint_bits (job_of c.bytes) p)))
    ↔ ((call_verdict c ≡ no_refusal) × (length p ≤ 65_535) × (allowed (caller_job c) p ≡ true))
unfolding validated
validated_passes c p = go (or_else (call_verdict c) (steps_verdict j p u)) refl
  where
    j : Job
    j = job_of c.bytes

    u : ℕ
    u = usable_in c

    Good : Type 0
    Good = (call_verdict c ≡ no_refusal) × (length p ≤ 65_535) × (allowed (restricted u j) p ≡ true)

    good : or_else (call_verdict c) (steps_verdict j p u) ≡ no_refusal → Good
    good h =
        let a = (or_else_fine (call_verdict c) (steps_verdict j p u)).0 h in
        let l = passes_short j u p a.1 in
        (a.0, l, (allowed_restricted u j p).1 ((passes j u p l).0 a.1))

    fine : Good → or_else (call_verdict c) (steps_verdict j p u) ≡ no_refusal
    fine g = (or_else_fine (call_verdict c) (steps_verdict j p u)).1 (g.0, (passes j u p g.1).1 ((allowed_restricted u j p).0 g.2))

    go : (v : Verdict) → or_else (call_verdict c) (steps_verdict j p u) ≡ v → (validated c p ≡ Ok (passed (cost_of j p) (hint_bits j p))) ↔ Good
    go (Ok _) e = (λ h. good e, λ g. rw (e, validated) refl)
    go (Err r) e = (
      λ h. absurd (let f : Err r ≡ Ok (passed (cost_of j p) (hint_bits j p)) = rw (e, validated) at h in let z : ◌≡◌ {A = ℕ} 0 1 = cc in omega arith),
      λ g. absurd (bad_not_fine (sym e ∙ fine g)),
    )
