-- An accepted job keeps the limits that its search relies on.
use Rattle.model.specs.Verdict.{no_refusal}
use mathlib.Core.Path.{◌≡◌, refl, sym, ap, ◌∙◌}
use Prim.Native.Nat.{ℕ, ◌+◌, ◌-◌, ◌^◌, ◌≤◌, ◌<◌}
use native.Mathlib.Omega.{arith}
use native.Mathlib.Decide.{dec_lt}
use native.Mathlib.Nat.{lt_of_lt_of_le, add_assoc}
use mathlib.Core.Bool.{Bool, true, false, ◌&&◌, true≢false}
use mathlib.Core.List.{List, [], ◌∷◌}
use lib.Dec.{leb}
use lib.ListN.{length, get_or, drop, length-drop, get_or-eq_default}
use lib.Pow.{pow_mono}
use borrow.Author.Tests.{ltb-true, leb-true}
use Rattle.model.specs.Bits.{number_at}
use Rattle.model.specs.logic.Formula.{Formula}
use Rattle.model.specs.logic.Parts.{most_parts, Part, parts_of}
use Rattle.model.specs.logic.Reading.{Parsed, formula, wrong}
use Rattle.model.specs.job.Job.{Job, Action, no_action, action_of, list_of}
use Rattle.model.specs.job.Layout.{set_bytes, set_count, fact_count, action_count, constraint_count, hint_count, pair_offset, set_offset, action_at, formula_in}
use Rattle.model.specs.job.Layout.{formula_at, job_of}
use Rattle.model.specs.job.Decoding.{counts_in_range, parts_verdict, formula_verdict, head_verdict, pairs_verdict, set_verdict, action_verdict, task_verdict}
use Rattle.model.specs.job.Decoding.{formulas_verdict, job_verdict}
use Rattle.model.proofs.exploration.Each.{All}
use Rattle.model.proofs.Tests.{and_both}
use Rattle.model.proofs.job.Forms.{plain_there}
use Rattle.model.proofs.job.VerdictLaws.{bad_not_fine, or_else_fine, unless_fine, in_turn_fine, length-list_of, get_or-list_of, all_list_of}

-- No formula has more carried parts than it may.
abbrev pub FewParts : List Formula → Type 0
FewParts φs = All (λ φ. length (parts_of φ) ≤ most_parts) φs

-- The limits: states of 64 bits, tables of 64 bits for each of 8 constraints and 8 hints.
pub record ProperJob (j : Job) : Type 0 where
  pub start_lt : j.start < 2 ^ 64
  pub add_lt : (i : ℕ) → (action_of j i).add < 2 ^ 64
  pub few_actions : length j.actions ≤ 64
  pub few_constraints : length j.constraints ≤ 8
  pub few_hints : length j.hints ≤ 8
  pub constraint_parts : FewParts j.constraints
  pub hint_parts : FewParts j.hints

-- There are as many actions and formulas as the head says.
module _ (bytes : List ℕ) where
  pub length-actions : length (job_of bytes).actions ≡ action_count bytes
  unfolding job_of
  length-actions = length-list_of _ (action_count bytes)

  pub length-constraints : length (job_of bytes).constraints ≡ constraint_count bytes
  unfolding job_of
  length-constraints = length-list_of _ (constraint_count bytes)

  pub length-hints : length (job_of bytes).hints ≡ hint_count bytes
  unfolding job_of
  length-hints = length-list_of _ (hint_count bytes)

-- Four tests are true together only if each is.
pub four_true : (a b c d : Bool) → a && b && c && d ≡ true → (a ≡ true) × (b ≡ true) × (c ≡ true) × (d ≡ true)
four_true true true true d h = (refl, refl, refl, h)
four_true true true false d h = absurd (true≢false (sym h))
four_true true false c d h = absurd (true≢false (sym h))
four_true false b c d h = absurd (true≢false (sym h))

-- Counts that pass are in their ranges.
pub counts_fine : (v a : ℕ) → counts_in_range v a ≡ true → (1 ≤ v) × (v ≤ 64) × (a ≤ 64)
unfolding counts_in_range
counts_fine v a h =
    let p = (and_both (leb 1 v && leb v 64) (leb a 64)).0 h in
    let q = (and_both (leb 1 v) (leb v 64)).0 p.0 in
    (leb-true 1 v q.0, leb-true v 64 q.1, leb-true a 64 p.1)

-- A head that passes has its four bytes, and its counts are in their ranges.
pub record FineHead (bytes : List ℕ) : Type 0 where
  pub whole : 4 ≤ length bytes
  pub some_facts : 1 ≤ fact_count bytes
  pub few_facts : fact_count bytes ≤ 64
  pub few_actions : action_count bytes ≤ 64
  pub few_constraints : constraint_count bytes ≤ 8
  pub few_hints : hint_count bytes ≤ 8

-- What passes the checks of a section is a formula.
pub formula_fine : (o : ℕ) (x : Parsed) → formula_verdict o x ≡ no_refusal → (φ : Formula) × (n : ℕ) × (x ≡ formula φ n)
unfolding formula_verdict
formula_fine o (formula φ n) h = (φ, n, refl)
formula_fine o (wrong p) h = absurd (bad_not_fine h)

no_seventh : (ps : List Part) → drop most_parts ps ≡ [] → length ps ≤ most_parts
no_seventh ps e = let l : length ps - most_parts ≡ 0 = sym (length-drop most_parts ps) ∙ ap length e in omega arith

parts_few : (o : ℕ) (ps : List Part) → parts_verdict o ps ≡ no_refusal → length ps ≤ most_parts
unfolding parts_verdict
parts_few o ps h = go (drop most_parts ps) refl
  where
    go : (qs : List Part) → drop most_parts ps ≡ qs → length ps ≤ most_parts
    go [] e = no_seventh ps e
    go (q ∷ qs) e = absurd (bad_not_fine (rw (e, parts_verdict) at h))

module _ (bytes : List ℕ) where
  pub head_fine : head_verdict bytes ≡ no_refusal → FineHead bytes
  unfolding head_verdict
  head_fine h = record {
    whole = leb-true 4 (length bytes) tests.0;
    some_facts = counts.0;
    few_facts = counts.1;
    few_actions = counts.2;
    few_constraints = leb-true _ 8 tests.2;
    few_hints = leb-true _ 8 tests.3;
  }
    where
      tests : (leb 4 (length bytes) ≡ true) × (counts_in_range (fact_count bytes) (action_count bytes) ≡ true) × (leb (constraint_count bytes) 8 ≡ true)
          × (leb (hint_count bytes) 8 ≡ true)
      tests = four_true _ _ _ _ ((unless_fine _ 1 0).0 h)

      counts : (1 ≤ fact_count bytes) × (fact_count bytes ≤ 64) × (action_count bytes ≤ 64)
      counts = counts_fine (fact_count bytes) (action_count bytes) tests.1

  -- An accepted set has no bit 64 or above.
  set_lt : fact_count bytes ≤ 64 → (o : ℕ) → set_verdict bytes o ≡ no_refusal → number_at set_bytes bytes o < 2 ^ 64
  unfolding set_verdict
  set_lt v o h = lt_of_lt_of_le (ltb-true (number_at set_bytes bytes o) (2 ^ fact_count bytes) ((unless_fine _ 3 o).0 h)) (pow_mono v)

  -- A section that passes holds its formula, which has no more carried parts than it may.
  pub section_fine : (o i : ℕ) → formula_verdict o (formula_in bytes i) ≡ no_refusal
      → ((n : ℕ) × (formula_in bytes i ≡ formula (formula_at bytes i) n)) × (length (parts_of (formula_at bytes i)) ≤ most_parts)
  unfolding formula_verdict formula_at
  section_fine o i h = go (formula_in bytes i) refl
    where
      go : (x : Parsed) → formula_in bytes i ≡ x
          → ((n : ℕ) × (formula_in bytes i ≡ formula (formula_at bytes i) n)) × (length (parts_of (formula_at bytes i)) ≤ most_parts)
      go (formula φ n) e =
          let a : formula_at bytes i ≡ φ = rw (e, formula_at) in
          ((n, e ∙ ap (λ (x : Formula). formula x n) (sym a)), rw a (parts_few o (parts_of φ) (rw (e, formula_verdict) at h)))
      go (wrong p) e = absurd (bad_not_fine (rw (e, formula_verdict) at h))

  -- Each set of each action of an accepted task has no bit 64 or above.
  sets-lt : fact_count bytes ≤ 64 → task_verdict bytes ≡ no_refusal → (i k : ℕ) → i < action_count bytes → k < set_count bytes
      → number_at set_bytes bytes (set_offset bytes i k) < 2 ^ 64
  unfolding task_verdict action_verdict
  sets-lt v h i k l m =
      let a = (or_else_fine (set_verdict bytes (pair_offset bytes 0)) _).0 h in
      let b = (or_else_fine (set_verdict bytes (pair_offset bytes 0 + set_bytes)) _).0 a.1 in
      let c = (in_turn_fine (action_count bytes) (action_verdict bytes)).0 b.1 i l in
      set_lt v (set_offset bytes i k) ((in_turn_fine (set_count bytes) (λ j. set_verdict bytes (set_offset bytes i j))).0 c k m)

  -- The facts that an accepted action adds are below 64.
  action_add : fact_count bytes ≤ 64 → task_verdict bytes ≡ no_refusal → (i : ℕ) → i < action_count bytes → (action_at bytes i).add < 2 ^ 64
  unfolding action_at
  action_add v h i l = sets-lt v h i 1 l (omega (arith, plain_there bytes))

  -- So are those of every action number: an action that the job does not have adds none.
  add_below : fact_count bytes ≤ 64 → task_verdict bytes ≡ no_refusal → (i : ℕ) → (action_of (job_of bytes) i).add < 2 ^ 64
  unfolding action_of job_of no_action
  add_below v h i = go (dec_lt i (action_count bytes))
    where
      list : List Action
      list = list_of (action_at bytes) (action_count bytes)

      go : Dec (i < action_count bytes) → (get_or list i no_action).add < 2 ^ 64
      go (yes l) = rw (get_or-list_of (action_at bytes) (action_count bytes) i no_action l) (action_add v h i l)
      go (no l) =
          let e : length list ≤ i = rw length-list_of (omega arith) in
          rw (get_or-eq_default list no_action e) (omega arith)

  -- The checks of an accepted job, one after the other.
  pub accepted_checks : job_verdict bytes ≡ no_refusal
      → (head_verdict bytes ≡ no_refusal) × (pairs_verdict bytes ≡ no_refusal) × (task_verdict bytes ≡ no_refusal) × (formulas_verdict bytes ≡ no_refusal)
  unfolding job_verdict
  accepted_checks h =
      let p = (or_else_fine (head_verdict bytes) _).0 h in
      let q = (or_else_fine (pairs_verdict bytes) _).0 p.1 in
      let r = (or_else_fine (task_verdict bytes) (formulas_verdict bytes)).0 q.1 in
      (p.0, q.0, r.0, r.1)

  -- Each formula of an accepted job passes.
  pub each_formula : job_verdict bytes ≡ no_refusal → (i : ℕ) → i < constraint_count bytes + hint_count bytes
      → formula_verdict (pair_offset bytes (1 + i)) (formula_in bytes (1 + i)) ≡ no_refusal
  unfolding formulas_verdict
  each_formula h = (in_turn_fine (constraint_count bytes + hint_count bytes) _).0 (accepted_checks h).3

  -- A job that is accepted is a proper one.
  pub accepted_proper : job_verdict bytes ≡ no_refusal → ProperJob (job_of bytes)
  unfolding job_of task_verdict
  accepted_proper h = record {
    start_lt = set_lt head.few_facts (pair_offset bytes 0) ((or_else_fine (set_verdict bytes (pair_offset bytes 0)) _).0 task).0;
    add_lt = add_below head.few_facts task;
    few_actions = rw length-list_of head.few_actions;
    few_constraints = rw length-list_of head.few_constraints;
    few_hints = rw length-list_of head.few_hints;
    constraint_parts = all_list_of _ _ (constraint_count bytes) (λ i l. few i (omega arith));
    hint_parts = all_list_of _ _ (hint_count bytes) (λ i l. rw add_assoc (few (constraint_count bytes + i) (omega arith)));
  }
    where
      head : FineHead bytes
      head = head_fine (accepted_checks h).0

      task : task_verdict bytes ≡ no_refusal
      task = (accepted_checks h).2

      few : (i : ℕ) → i < constraint_count bytes + hint_count bytes → length (parts_of (formula_at bytes (1 + i))) ≤ most_parts
      few i l = (section_fine (pair_offset bytes (1 + i)) (1 + i) (each_formula h i l)).1
