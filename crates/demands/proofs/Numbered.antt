-- The numbers that checks can refuse with.
use Rattle.std.proofs.Common.{Ok, Err}
use mathlib.Core.Path.{◌≡◌, refl, subst}
use mathlib.Core.Bool.{Bool, true, false, ◌&&◌}
use mathlib.Core.Logic.{◌⊎◌, inl, inr}
use mathlib.Core.List.{List, [], ◌∷◌}
use Prim.Native.Nat.{ℕ, zero, suc, ◌+◌, ◌-◌, ◌*◌, ◌^◌}
use native.Mathlib.Omega.{arith}
use lib.ListN.{length, get_or, take, drop}
use lib.Dec.{leb, ltb, eqb}
use Rattle.model.specs.Refusal.{Refusal}
use Rattle.model.specs.Verdict.{no_refusal, Verdict, unless, or_else, in_turn}
use Rattle.model.specs.declared.Constant.TheVariants.{True}
use Rattle.model.specs.Bits.{bit, number_at}
use Rattle.model.specs.logic.Parts.{most_parts, Part, parts_of}
use Rattle.model.specs.logic.Reading.{Parsed, formula, wrong, section}
use Rattle.model.specs.logic.Formula.{constant}
use Rattle.model.specs.logic.Truth.{holds}
use Rattle.model.specs.job.Decoding.{counts_in_range, parts_verdict, formula_verdict, head_verdict, section_start, right_length, pair_verdict, pairs_verdict}
use Rattle.model.specs.job.Decoding.{set_verdict, action_verdict, task_verdict, formulas_verdict, job_verdict}
use Rattle.model.specs.job.Job.{Job, action_of}
use Rattle.model.specs.job.Layout.{set_bytes, set_count, fact_count, action_count, constraint_count, hint_count, pair_count, pair_offset, pair_length}
use Rattle.model.specs.job.Layout.{set_offset, formula_in}
use Rattle.model.specs.task.State.{within, applicable}
use Rattle.model.specs.task.Plan.{state_after, worlds}
use Rattle.model.specs.calls.Call.{Call, needs_verdict, call_verdict}
use Rattle.model.specs.calls.Validate.{length_verdict, step_verdict, goal_verdict, constraint_verdict, steps_verdict}
use Rattle.model.specs.calls.WriteBack.{rule_verdict}
use Rattle.demands.specs.Demand1.{Between}
use Rattle.demands.proofs.Results.{ok_not_err, same_err}

module _ (P : ℕ → Type 0) where
  -- A check refuses only with numbers of which P holds.
  abbrev pub Numbered : Verdict → Type 0
  Numbered v = (r : Refusal) → v ≡ Err r → P r.number

  pub with_number : (b : Bool) (n p : ℕ) → P n → Numbered (unless b n p)
  unfolding unless
  with_number true n p h r e = ok_not_err e
  with_number false n p h r e = subst (λ (x : Refusal). P x.number) (same_err e) h

  pub or_else_lem : (u v : Verdict) → Numbered u → Numbered v → Numbered (or_else u v)
  unfolding or_else
  or_else_lem (Ok _) v a b = b
  or_else_lem (Err q) v a b = a

  pub in_turn_lem : (n : ℕ) (f : ℕ → Verdict) → ((i : ℕ) → Numbered (f i)) → Numbered (in_turn n f)
  unfolding in_turn
  in_turn_lem zero f h = λ r e. ok_not_err e
  in_turn_lem (suc n) f h = or_else_lem (in_turn n f) (f n) (in_turn_lem n f h) (h n)

-- ---- the numbers of formulas

module _ (P : ℕ → Type 0) (four : P 4) (five : P 5) where
  parts_numbered : (o : ℕ) (ps : List Part) → Numbered P (parts_verdict o ps)
  unfolding parts_verdict
  parts_numbered o ps = go (drop most_parts ps)
    where
      go : (qs : List Part) → Numbered P (elim qs as (λ x. Verdict) [ [] ↦ no_refusal | p ∷ qs ↦ Err (record { number = 5; place = o + p.position }) ])
      go [] r e = ok_not_err e
      go (q ∷ qs) r e = subst (λ (x : Refusal). P x.number) (same_err e) five

  pub formula_numbered : (o : ℕ) (x : Parsed) → Numbered P (formula_verdict o x)
  unfolding formula_verdict
  formula_numbered o (formula φ n) = parts_numbered o (parts_of φ)
  formula_numbered o (wrong p) = λ r e. subst (λ (x : Refusal). P x.number) (same_err e) four

-- ---- jobs, step lists, and rules to write back

module _ (bytes : List ℕ) where
  abbrev Early : ℕ → Type 0
  Early = Between 1 5

  set_numbered : (o : ℕ) → Numbered Early (set_verdict bytes o)
  unfolding set_verdict
  set_numbered o = with_number Early (ltb (number_at set_bytes bytes o) (2 ^ fact_count bytes)) 3 o (omega arith, omega arith)

  action_numbered : (i : ℕ) → Numbered Early (action_verdict bytes i)
  unfolding action_verdict
  action_numbered i = in_turn_lem Early (set_count bytes) (λ k. set_verdict bytes (set_offset bytes i k)) (λ k. set_numbered (set_offset bytes i k))

  task_numbered : Numbered Early (task_verdict bytes)
  unfolding task_verdict
  task_numbered =
      or_else_lem Early _ _ (set_numbered (pair_offset bytes 0))
      (or_else_lem Early _ _ (set_numbered (pair_offset bytes 0 + set_bytes)) (in_turn_lem Early (action_count bytes) (action_verdict bytes) action_numbered))

  pair_numbered : (i : ℕ) → Numbered Early (pair_verdict bytes i)
  unfolding pair_verdict
  pair_numbered i = with_number Early whole 2 i (omega arith, omega arith)
    where
      whole : Bool
      whole =
          leb (8 + 4 * i) (length bytes) && eqb (pair_offset bytes i) (section_start bytes i) && right_length bytes i (pair_length bytes i)
          && leb (pair_offset bytes i + pair_length bytes i) (length bytes)

  pairs_numbered : Numbered Early (pairs_verdict bytes)
  unfolding pairs_verdict
  pairs_numbered =
      or_else_lem Early (in_turn (pair_count bytes) (pair_verdict bytes)) _ (in_turn_lem Early (pair_count bytes) (pair_verdict bytes) pair_numbered)
      (with_number Early (eqb (section_start bytes (pair_count bytes)) (length bytes)) 2 (pair_count bytes - 1) (omega arith, omega arith))

  formulas_numbered : Numbered Early (formulas_verdict bytes)
  unfolding formulas_verdict
  formulas_numbered =
      in_turn_lem Early (constraint_count bytes + hint_count bytes) (λ i. formula_verdict (pair_offset bytes (1 + i)) (formula_in bytes (1 + i)))
      (λ i. formula_numbered Early (omega arith, omega arith) (omega arith, omega arith) (pair_offset bytes (1 + i)) (formula_in bytes (1 + i)))

  head_numbered : Numbered Early (head_verdict bytes)
  unfolding head_verdict
  head_numbered = with_number Early fits 1 0 (omega arith, omega arith)
    where
      fits : Bool
      fits = leb 4 (length bytes) && counts_in_range (fact_count bytes) (action_count bytes) && leb (constraint_count bytes) 8 && leb (hint_count bytes) 8

  -- A job is refused with 1 to 5.
  pub job_numbered : Numbered Early (job_verdict bytes)
  unfolding job_verdict
  job_numbered = or_else_lem Early _ _ head_numbered (or_else_lem Early _ _ pairs_numbered (or_else_lem Early _ _ task_numbered formulas_numbered))

-- A call is refused with 1 to 5 or 14.
pub call_numbered : (P : ℕ → Type 0) → ((k : ℕ) → Between 1 5 k → P k) → P 14 → (c : Call) → Numbered P (call_verdict c)
unfolding call_verdict needs_verdict
call_numbered P early fourteen c =
    or_else_lem P _ _ (λ r e. early r.number (job_numbered c.bytes r e))
    (with_number P (eqb (length c.needs) (action_count c.bytes)) 14 (length c.needs) fourteen)

module _ (j : Job) (p : List ℕ) (u : ℕ) where
  abbrev Late : ℕ → Type 0
  Late k = Between 6 9 k ⊎ (k ≡ 15)

  length-numbered : Numbered Late (length_verdict j p)
  unfolding length_verdict
  length-numbered = with_number Late (leb (length p) 65_535) 6 65_535 (inl (omega arith, omega arith))

  step_numbered : (i : ℕ) → Numbered Late (step_verdict j p u i)
  unfolding step_verdict
  step_numbered i =
      or_else_lem Late _ _ (with_number Late (ltb (get_or p i 0) (length j.actions)) 6 i (inl (omega arith, omega arith)))
      (or_else_lem Late _ _ (with_number Late (bit u (get_or p i 0)) 15 i (inr refl))
      (with_number Late (applicable (action_of j (get_or p i 0)) (state_after j j.start (take i p))) 7 i (inl (omega arith, omega arith))))

  goal_numbered : Numbered Late (goal_verdict j p)
  unfolding goal_verdict
  goal_numbered = with_number Late (within j.goal (state_after j j.start p)) 8 0 (inl (omega arith, omega arith))

  constraint_numbered : (i : ℕ) → Numbered Late (constraint_verdict j p i)
  unfolding constraint_verdict
  constraint_numbered i = with_number Late (holds (get_or j.constraints i (constant True)) (worlds j p)) 9 i (inl (omega arith, omega arith))

  -- A step list is refused with 6 to 9 or 15.
  pub steps_numbered : Numbered Late (steps_verdict j p u)
  unfolding steps_verdict
  steps_numbered =
      or_else_lem Late _ _ length-numbered
      (or_else_lem Late _ _ (in_turn_lem Late (length p) (step_verdict j p u) step_numbered)
      (or_else_lem Late _ _ goal_numbered (in_turn_lem Late (length j.constraints) (constraint_verdict j p) constraint_numbered)))

-- A rule to write back is refused with 1, 2, 4 or 5 before its buffer is looked at.
pub rule_numbered : (P : ℕ → Type 0) → P 1 → P 2 → P 4 → P 5 → (v a : ℕ) (rule : List ℕ) → Numbered P (rule_verdict v a rule)
unfolding rule_verdict
rule_numbered P one two four five v a rule =
    or_else_lem P _ _ (with_number P (counts_in_range v a) 1 0 one)
    (or_else_lem P _ _ (with_number P (leb 1 (length rule) && leb (length rule) 128) 2 0 two) (formula_numbered P four five 0 (section v a rule)))
