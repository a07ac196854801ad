-- The steps of a restricted job: those that may be used are the job's own, and the others are never applicable.
use Rattle.std.proofs.Common.{None, Some}
use mathlib.Core.Path.{◌≡◌, refl, sym, ap, ◌∙◌}
use Prim.Native.Nat.{ℕ, ◌^◌, ◌≤◌, ◌<◌}
use native.Mathlib.Omega.{arith}
use native.Mathlib.Decide.{dec_lt}
use mathlib.Core.Bool.{Bool, true, false, ◌&&◌, true≢false}
use mathlib.Core.List.{List}
use lib.Bits.{bit_and}
use lib.Dec.{eqb}
use lib.ListN.{length, get_or-eq_default}
use borrow.Author.Tests.{eqb-true}
use Rattle.model.specs.Bits.{bit}
use Rattle.model.specs.logic.Formula.{choose}
use Rattle.model.specs.job.Job.{Job, Action, no_action, action_of}
use Rattle.model.specs.job.Rights.{no_fact, barred, restricted}
use Rattle.model.specs.task.State.{within, apart, applicable, after}
use Rattle.model.specs.search.Node.{Node, progressed_all}
use Rattle.model.specs.search.JobSystem.{alive, start_node, next_node, is_goal, start_hints, carry_hints}
use Rattle.model.proofs.Tests.{and_both, same_truth}
use Rattle.model.proofs.job.VerdictLaws.{length-list_of, get_or-list_of}
use Rattle.model.proofs.job.Accepted.{FewParts, ProperJob}

-- No number is that of a fact and of none.
not_both : (x : ℕ) → eqb x no_fact && eqb x 0 ≡ false
not_both x = same_truth (eqb x no_fact && eqb x 0) false (λ h. absurd (differ ((and_both (eqb x no_fact) (eqb x 0)).0 h))) (λ h. absurd (true≢false (sym h)))
  where
    differ : (eqb x no_fact ≡ true) × (eqb x 0 ≡ true) → ⊥
    differ h = let a : x ≡ no_fact = eqb-true x no_fact h.0 in let b : x ≡ 0 = eqb-true x 0 h.1 in omega arith

-- A barred step is never applicable.
pub barred_never : (s : ℕ) → applicable barred s ≡ false
unfolding applicable barred within apart
barred_never s = not_both (bit_and no_fact s)

module _ (u : ℕ) (j : Job) where
  -- There are as many steps.
  pub length-restricted : length (restricted u j).actions ≡ length j.actions
  unfolding restricted
  length-restricted = length-list_of _ (length j.actions)

  action_inside : (i : ℕ) → i < length j.actions → action_of (restricted u j) i ≡ choose (bit u i) (action_of j i) barred
  unfolding restricted action_of
  action_inside i l = get_or-list_of (λ (k : ℕ). choose (bit u k) (action_of j k) barred) (length j.actions) i no_action l

  -- A number that no step has stands for the same in both jobs.
  pub action_outside : (i : ℕ) → length j.actions ≤ i → action_of (restricted u j) i ≡ action_of j i
  unfolding action_of
  action_outside i l =
      get_or-eq_default (restricted u j).actions no_action (rw length-restricted l) ∙ sym (get_or-eq_default j.actions no_action l)

  -- A step that may be used is the job's.
  pub action_usable : (i : ℕ) → bit u i ≡ true → action_of (restricted u j) i ≡ action_of j i
  action_usable i h = go (dec_lt i (length j.actions))
    where
      go : Dec (i < length j.actions) → action_of (restricted u j) i ≡ action_of j i
      go (yes l) = action_inside i l ∙ ap (λ (b : Bool). choose b (action_of j i) barred) h
      go (no l) = action_outside i (omega arith)

  -- A step that may not be used is barred.
  pub action_barred : (i : ℕ) → i < length j.actions → bit u i ≡ false → action_of (restricted u j) i ≡ barred
  action_barred i l h = action_inside i l ∙ ap (λ (b : Bool). choose b (action_of j i) barred) h

  module _ (i : ℕ) (l : i < length j.actions) where
    -- A step that may not be used is never applicable.
    pub barred_not : (s : ℕ) → bit u i ≡ false → applicable (action_of (restricted u j) i) s ≡ false
    barred_not s h = ap (λ (a : Action). applicable a s) (action_barred i l h) ∙ barred_never s

    -- A step that is applicable may be used.
    pub applicable_usable : (s : ℕ) → applicable (action_of (restricted u j) i) s ≡ true → bit u i ≡ true
    applicable_usable s h = go (bit u i) refl
      where
        go : (b : Bool) → bit u i ≡ b → bit u i ≡ true
        go true e = e
        go false e = absurd (true≢false (sym h ∙ barred_not s e))

  -- ---- nodes

  -- "no other step leads to a pair"
  pub barred_nowhere : (n : Node) (i : ℕ) → i < length j.actions → bit u i ≡ false → next_node (restricted u j) n i ≡ None
  unfolding next_node
  barred_nowhere n i l h = rw (barred_not i l n.state h, next_node) refl

  -- A step that may be used leads where it leads in the job.
  pub next_usable : (n : Node) (i : ℕ) → bit u i ≡ true → next_node (restricted u j) n i ≡ next_node j n i
  unfolding next_node restricted
  next_usable n i h = ap (λ (a : Action). elim (applicable a n.state) [
    | false ↦ None
    | true ↦ (let s = after a n.state in alive s (progressed_all j.constraints n.residuals (record { state = s; made = Some i })))
  ]) (action_usable i h)

  -- The start, the goal and the hints do not depend on which steps may be used.
  pub start_same : start_node (restricted u j) ≡ start_node j
  unfolding start_node restricted
  start_same = refl

  pub goal_same : (n : Node) → is_goal (restricted u j) n ≡ is_goal j n
  unfolding is_goal restricted
  goal_same n = refl

  pub hints_same : start_hints (restricted u j) ≡ start_hints j
  unfolding start_hints restricted
  hints_same = refl

  pub carry_same : (h : List ℕ) (n : Node) (i : ℕ) → carry_hints (restricted u j) h n i ≡ carry_hints j h n i
  unfolding carry_hints restricted
  carry_same h n i = refl

  -- ---- limits

  same_fields : ProperJob j → ((restricted u j).start < 2 ^ 64) × (length (restricted u j).constraints ≤ 8) × (length (restricted u j).hints ≤ 8)
      × FewParts (restricted u j).constraints × FewParts (restricted u j).hints
  unfolding restricted
  same_fields proper = (proper.start_lt, proper.few_constraints, proper.few_hints, proper.constraint_parts, proper.hint_parts)

  -- A proper job is proper after the restriction.
  pub restricted_proper : ProperJob j → ProperJob (restricted u j)
  unfolding barred
  restricted_proper proper = record {
    start_lt = (same_fields proper).0;
    add_lt = λ i. add i (dec_lt i (length j.actions));
    few_actions = rw length-restricted proper.few_actions;
    few_constraints = (same_fields proper).1;
    few_hints = (same_fields proper).2;
    constraint_parts = (same_fields proper).3;
    hint_parts = (same_fields proper).4;
  }
    where
      add : (i : ℕ) → Dec (i < length j.actions) → (action_of (restricted u j) i).add < 2 ^ 64
      add i (yes l) = go (bit u i) refl
        where
          go : (b : Bool) → bit u i ≡ b → (action_of (restricted u j) i).add < 2 ^ 64
          go true e = rw (action_usable i e) (proper.add_lt i)
          go false e = rw (action_barred i l e) (omega arith)
      add i (no l) = rw (action_outside i (omega arith)) (proper.add_lt i)
