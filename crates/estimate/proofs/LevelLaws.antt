-- The turns: with each the level rises to the soonest gain, and what the turns that are left come to is the estimate.
use Rattle.std.proofs.Common.{◌≡◌, refl, sym, ap, ◌∙◌, ℕ, zero, suc, ◌-◌, ◌*◌, ◌≤◌, ◌<◌, arith, true, false, Option, None, Some, [], length, get_or, replicate}
use Rattle.std.proofs.Common.{bit_or}
use Rattle.std.proofs.lemmas.Option.{IfSome_then}
use Rattle.model.specs.job.Job.{Job}
use Rattle.model.specs.task.State.{within}
use Rattle.model.specs.search.Estimate.{Ends, Gain, end_of, readied, soonest, level_from, level_of, estimate_of}
use Rattle.model.proofs.job.VerdictLaws.{list_of_cong}
use Rattle.estimate.specs.Meaning.{dearest, Estimates}
use Rattle.estimate.specs.Turns.{AllLow, LowGain, Passed}
use Rattle.estimate.proofs.AnswerLaws.{answers_some, answers_none}
use Rattle.estimate.proofs.PassLaws.{readied_at}

-- No level or end is above this where so many turns are left.
abbrev pub ceiling : ℕ → ℕ
ceiling left = dearest * (65 - left)

no_end : (n k : ℕ) → get_or (replicate {A = Option ℕ} n None) k None ≡ None
no_end zero k = refl
no_end (suc n) zero = refl
no_end (suc n) (suc k) = no_end n k

module _ (j : Job) where
  abbrev A : ℕ
  A = length j.actions

  -- What turns come to depends on the ends of the job's actions alone.
  level_same : (n goal built level : ℕ) (xs ys : Ends) → ((k : ℕ) → k < A → get_or xs k None ≡ get_or ys k None)
      → level_from j n goal built level xs ≡ level_from j n goal built level ys
  unfolding level_from readied
  level_same zero goal built level xs ys h = refl
  level_same (suc n) goal built level xs ys h = ap turn (list_of_cong _ _ A (λ k l. ap (λ o. end_of j built level o k) (h k l)))
    where
      turn : Ends → Option ℕ
      turn ends = elim (within goal built) [
        | true ↦ Some level
        | false ↦ elim (soonest j built ends A) [
          | None ↦ None
          | Some g ↦ level_from j n goal (bit_or built g.adds) g.level ends
        ]
      ]

  module _ (s goal : ℕ) where
    -- What the turns that are left come to is the estimate.
    pub record Rising (left built level : ℕ) (ends : Ends) : Type 0 where
      pub few : left ≤ 65
      pub is : level_from j left goal built level ends ≡ estimate_of j s
      pub level_low : level ≤ ceiling left
      pub ends_low : AllLow (ceiling left) ends

    -- The definition begins with no ends, and the code with a list of none.
    pub rising_first : (left : ℕ) → goal ≡ j.goal → left ≡ suc A → A ≤ 64 → Rising left s 0 (replicate 64 None)
    unfolding estimate_of level_of
    rising_first left g e l = record {
      few = omega arith;
      is = rw (g, e) (level_same (suc A) j.goal s 0 (replicate 64 None) [] (λ k l. no_end 64 k));
      level_low = omega arith;
      ends_low = λ k. rw (no_end 64 k) tt;
    }

    -- No turn is left.
    pub rising_over : {left built level : ℕ} {ends : Ends} → Rising left built level ends → left ≡ 0 → Estimates j s None
    unfolding level_from
    rising_over r e = answers_none j s (sym (rw e at r.is))

    -- ---- at least one turn is left

    module _ {more built level : ℕ} {ends : Ends} (r : Rising (suc more) built level ends) where
      -- The goal is built.
      pub rising_done : within goal built ≡ true → Estimates j s (Some level)
      unfolding level_from
      rising_done w = answers_some j s level (sym (rw (w, level_from) at r.is)) (omega (arith, r.level_low))

      -- Nothing more can be built.
      pub rising_ends : within goal built ≡ false → {after : Ends} → Passed j built level ends after A None → Estimates j s None
      unfolding level_from
      rising_ends w p = answers_none j s (sym (rw (w, ← p.gain, level_from) at r.is))

      -- The soonest gain.
      pub rising_more : within goal built ≡ false → {after : Ends} {g : Gain} → Passed j built level ends after A (Some g)
          → Rising more (bit_or built g.adds) g.level after
      unfolding level_from
      rising_more w {after} {g} p = record {
        few = omega (arith, r.few);
        is = level_same more goal (bit_or built g.adds) g.level after (readied j built level ends)
            (λ k l. p.ends k l ∙ sym (readied_at j built level ends k l)) ∙ rw (w, ← p.gain, level_from) at r.is;
        level_low = bounds.1;
        ends_low = bounds.0;
      }
        where
          bounds : AllLow (ceiling more) after × LowGain (ceiling more) (Some g)
          bounds = p.low (ceiling more) (omega (arith, r.few, r.level_low)) (λ k. IfSome_then (get_or ends k None) (r.ends_low k) (λ e l. omega (arith, r.few)))
