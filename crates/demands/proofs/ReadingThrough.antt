-- Demand 2, the read-through: what passes, and what it gives.
use Rattle.std.proofs.Common.{Ok, Err}
use Rattle.model.specs.Results.{passed}
use mathlib.Core.Path.{◌≡◌, refl, sym, ◌∙◌, subst}
use mathlib.Core.Bool.{Bool, true, false≢true}
use mathlib.Core.Logic.{◌↔◌}
use mathlib.Core.List.{List}
use Prim.Native.Nat.{ℕ, ◌*◌, ◌^◌, ◌≤◌, ◌<◌}
use native.Mathlib.Decide.{dec_lt}
use native.Mathlib.Omega.{arith}
use native.Mathlib.Nat.{lt_of_lt_of_le}
use lib.ListN.{length, get_or}
use lib.Pow.{pow_mono}
use Rattle.model.specs.declared.Constant.TheVariants.{False}
use Rattle.model.specs.Verdict.{Verdict, or_else}
use Rattle.model.specs.Bits.{bit, bits_of}
use Rattle.model.specs.logic.Formula.{Formula, constant}
use Rattle.model.specs.logic.Truth.{holds}
use Rattle.model.specs.logic.Sat.{Sat}
use Rattle.model.specs.job.Job.{Job}
use Rattle.model.specs.job.Layout.{job_of}
use Rattle.model.specs.task.Plan.{worlds, allowed, cost_of}
use Rattle.model.specs.calls.Call.{Call, call_verdict, usable_in, caller_job}
use Rattle.model.specs.calls.Validate.{steps_verdict, hint_bits, validated}
use Rattle.model.proofs.bits.BitsOf.{bits_of_lt, bits_of_at, bits_of_past}
use Rattle.model.proofs.exploration.Each.{all_at, all_mem}
use Rattle.model.proofs.logic.SatLaws.{sat_holds}
use Rattle.model.proofs.job.Accepted.{accepted_proper}
use Rattle.model.proofs.job.PlanLaws.{all_hold_each, allowed_split}
use Rattle.model.proofs.job.ReadThrough.{validated_passes}
use Rattle.model.proofs.calls.CallLaws.{call_job}
use Rattle.demands.specs.Demand1.{Taken}
use Rattle.demands.specs.Demand2.{AllowedPlan, ReadsThrough}
use Rattle.demands.proofs.Results.{same_passed, err_not_ok}
use Rattle.demands.proofs.CostSums.{cost_at_most}

module _ (j : Job) (p : List ℕ) where
  -- The worlds of a step list satisfy a formula exactly if it holds of them.
  pub at_start : (φ : Formula) → Sat (worlds j p) 0 φ ↔ (holds φ (worlds j p) ≡ true)
  unfolding worlds
  at_start φ = sat_holds (worlds j p) φ 0 (omega arith)

  -- A list is allowed, as the definitions test it, exactly if it is an allowed plan.
  pub allowed_is_plan : (allowed j p ≡ true) ↔ AllowedPlan j p
  allowed_is_plan = (to, from)
    where
      Met : Formula → Type 0
      Met φ = holds φ (worlds j p) ≡ true

      to : allowed j p ≡ true → AllowedPlan j p
      to h =
          let s = (allowed_split j p).0 h in
          record {
            applicable = s.0;
            goal = s.1;
            rules = λ φ m. (at_start φ).1 (all_at Met j.constraints m ((all_hold_each j.constraints (worlds j p)).0 s.2));
          }

      from : AllowedPlan j p → allowed j p ≡ true
      from a =
          (allowed_split j p).1
          (a.applicable, a.goal, (all_hold_each j.constraints (worlds j p)).1 (all_mem Met j.constraints (λ φ m. (at_start φ).0 (a.rules φ m))))

-- Bit i of a list's tests is the test of element i, where there is one.
bits_of_lem : {A : Type 0} (f : A → Bool) (d : A) (xs : List A) (i : ℕ) → (bit (bits_of f xs) i ≡ true) ↔ ((i < length xs) × (f (get_or xs i d) ≡ true))
bits_of_lem f d xs i = go (dec_lt i (length xs))
  where
    go : Dec (i < length xs) → (bit (bits_of f xs) i ≡ true) ↔ ((i < length xs) × (f (get_or xs i d) ≡ true))
    go (yes l) = (λ h. (l, sym (bits_of_at f d xs i l) ∙ h), λ h. bits_of_at f d xs i l ∙ h.1)
    go (no l) = (λ h. absurd (false≢true (sym (bits_of_past f xs i (omega arith)) ∙ h)), λ h. absurd (l h.0))

module _ (call : Call) (p : List ℕ) where
  abbrev j : Job
  j = job_of call.bytes

  -- What passes has its own cost and bits.
  own_numbers : {c b : ℕ} → validated call p ≡ Ok (passed c b) → (c ≡ cost_of j p) × (b ≡ hint_bits j p)
  unfolding validated
  own_numbers {c} {b} h = go (or_else (call_verdict call) (steps_verdict j p (usable_in call))) refl
    where
      go : (v : Verdict) → or_else (call_verdict call) (steps_verdict j p (usable_in call)) ≡ v → (c ≡ cost_of j p) × (b ≡ hint_bits j p)
      go (Ok _) e = let f = same_passed (rw (e, validated) at h) in (sym f.0, sym f.1)
      go (Err r) e = err_not_ok {r = r} (rw (e, validated) at h)

  -- So it is an allowed plan in a call that is taken, and not too long.
  good : {c b : ℕ} → validated call p ≡ Ok (passed c b) → Taken call × (length p ≤ 65_535) × (allowed (caller_job call) p ≡ true)
  good h = let n = own_numbers h in (validated_passes call p).0 (h ∙ (λ i. Ok (passed (n.0 i) (n.1 i))))

  hint_met : (i : ℕ) → (bit (hint_bits j p) i ≡ true) ↔ ((i < length j.hints) × Sat (worlds j p) 0 (get_or j.hints i (constant False)))
  unfolding hint_bits
  hint_met i =
      let b = bits_of_lem (λ (φ : Formula). holds φ (worlds j p)) (constant False) j.hints i in
      let s = at_start j p (get_or j.hints i (constant False)) in
      (λ h. let x = b.0 h in (x.0, s.1 x.1), λ x. b.1 (x.0, s.0 x.1))

  bits_few : Taken call → hint_bits j p < 2 ^ 8
  unfolding hint_bits
  bits_few fine =
      lt_of_lt_of_le (bits_of_lt (λ (φ : Formula). holds φ (worlds j p)) j.hints) (pow_mono (accepted_proper call.bytes (call_job call fine)).few_hints)

  few_steps : (n c : ℕ) → n ≤ 65_535 → c ≤ 65_535 * n → c ≤ 65_535 * 65_535
  few_steps n c l h = omega arith

  pub reads_through : ReadsThrough call p
  reads_through = record {
    passes = λ fine l. (
      λ x. (allowed_is_plan (caller_job call) p).0 (good x.2).2,
      λ a. (cost_of j p, hint_bits j p, (validated_passes call p).1 (fine, l, (allowed_is_plan (caller_job call) p).1 a)),
    );
    only = λ h. let g = good h in (g.0, g.1);
    cost = λ h. (own_numbers h).0;
    cost_most = λ bs h. few_steps (length p) _ (good h).1
        (subst (λ (n : ℕ). n ≤ 65_535 * length p) (sym (own_numbers h).0) (cost_at_most call.bytes bs p));
    bits = λ h i.
        subst (λ (n : ℕ). (bit n i ≡ true) ↔ ((i < length j.hints) × Sat (worlds j p) 0 (get_or j.hints i (constant False))))
        (sym (own_numbers h).1) (hint_met i);
    eight = λ h. subst (λ (n : ℕ). n < 2 ^ 8) (sym (own_numbers h).1) (bits_few (good h).0);
  }
