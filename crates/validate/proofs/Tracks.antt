-- What formulas have left of a step list is true of the closing world exactly if they are true of the step list's worlds.
use Rattle.std.proofs.Common.{◌≡◌, refl, ap, ◌∙◌, ℕ, zero, suc, ◌≤◌, ◌<◌, arith, List, [], ◌∷◌, length, take, get_or, length-take-le}
use Rattle.std.proofs.lemmas.List.{get_or-take}
use Rattle.model.specs.declared.Constant.TheVariants.{True}
use Rattle.model.specs.logic.Formula.{Formula, constant}
use Rattle.model.specs.logic.Parts.{most_parts, parts_of}
use Rattle.model.specs.logic.Truth.{World, holds}
use Rattle.model.specs.logic.Progression.{residual, progressed, residual_holds, closing}
use Rattle.model.specs.job.Job.{Job, action_of}
use Rattle.model.specs.task.State.{after}
use Rattle.model.specs.task.Plan.{state_after, worlds_after, worlds}
use Rattle.model.specs.search.Node.{residuals, progressed_all}
use Rattle.model.proofs.logic.ProgressionLaws.{residual_right, progressed_right}
use Rattle.model.proofs.job.VerdictLaws.{all_get_d}
use Rattle.model.proofs.job.ResidualLists.{length-residuals, length-progressed_all}
use Rattle.model.proofs.job.Accepted.{FewParts}
use Rattle.progression.specs.Padded.{padded}
use Rattle.progression.proofs.Padding.{length-padded, get_or-padded}
use Rattle.validate.specs.Walk.{still, carried, reached, closed_at}
use Rattle.validate.proofs.Walks.{tracked, left_by}

-- ---- one formula, before the worlds of a step list, of which there is always one

module _ (j : Job) (φ : Formula) (few : length (parts_of φ) ≤ most_parts) (w : World) (s : ℕ) where
  residual_on : (p : List ℕ) → residual_holds (parts_of φ) (residual most_parts φ w) (worlds_after j s p) ≡ holds φ (w ∷ worlds_after j s p)
  unfolding worlds_after
  residual_on [] = residual_right most_parts φ few w _ []
  residual_on (a ∷ p) = residual_right most_parts φ few w _ (worlds_after j (after (action_of j a) s) p)

  progressed_on : (p : List ℕ) (r : ℕ)
      → residual_holds (parts_of φ) (progressed most_parts (parts_of φ) r w) (worlds_after j s p) ≡ residual_holds (parts_of φ) r (w ∷ worlds_after j s p)
  unfolding worlds_after
  progressed_on [] r = progressed_right most_parts φ few r w _ []
  progressed_on (a ∷ p) r = progressed_right most_parts φ few r w _ (worlds_after j (after (action_of j a) s) p)

-- ---- one of several formulas

abbrev formula : List Formula → ℕ → Formula
formula φs i = get_or φs i (constant True)

get_or-residuals : (φs : List Formula) (w : World) (i : ℕ) → i < length φs → get_or (residuals φs w) i 0 ≡ residual most_parts (formula φs i) w
unfolding residuals
get_or-residuals [] w i l = absurd (omega arith)
get_or-residuals (φ ∷ φs) w zero l = refl
get_or-residuals (φ ∷ φs) w (suc i) l = get_or-residuals φs w i (omega arith)

get_or-progressed_all : (φs : List Formula) (rs : List ℕ) (w : World) (i : ℕ) → length rs ≡ length φs → i < length φs
    → get_or (progressed_all φs rs w) i 0 ≡ progressed most_parts (parts_of (formula φs i)) (get_or rs i 0) w
unfolding progressed_all
get_or-progressed_all [] rs w i e l = absurd (omega arith)
get_or-progressed_all (φ ∷ φs) [] w i e l = absurd (omega arith)
get_or-progressed_all (φ ∷ φs) (r ∷ rs) w zero e l = refl
get_or-progressed_all (φ ∷ φs) (r ∷ rs) w (suc i) e l = get_or-progressed_all φs rs w i (omega arith) (omega arith)

-- at most eight, of few parts
module _ (j : Job) (φs : List Formula) (few : FewParts φs) (short : length φs ≤ 8) where
  module _ (rs : List ℕ) (w : World) (full : length rs ≡ 8) where
    entries : length (take (length φs) rs) ≡ length φs
    entries = length-take-le (length φs) rs (omega arith)

    carried_full : length (carried φs rs w) ≡ 8
    unfolding carried
    carried_full = length-padded (progressed_all φs (take (length φs) rs) w) (omega (arith, length-progressed_all φs (take (length φs) rs) w entries))

    carried_at : (i : ℕ) → i < length φs → get_or (carried φs rs w) i 0 ≡ progressed most_parts (parts_of (formula φs i)) (get_or rs i 0) w
    unfolding carried
    carried_at i l =
        get_or-padded (progressed_all φs (take (length φs) rs) w) i (omega (arith, length-progressed_all φs (take (length φs) rs) w entries))
        ∙ get_or-progressed_all φs (take (length φs) rs) w i entries l
        ∙ ap (λ (r : ℕ). progressed most_parts (parts_of (formula φs i)) r w) (get_or-take (length φs) rs i 0 l)

  module _ (i : ℕ) (l : i < length φs) where
    few_at : length (parts_of (formula φs i)) ≤ most_parts
    few_at = all_get_d (λ φ. length (parts_of φ) ≤ most_parts) (constant True) φs few i l

    -- What is left after steps is true of the closing world exactly if what was left before is true of the steps' worlds.
    tracked_right : (p : List ℕ) (s : ℕ) (rs : List ℕ) → length rs ≡ 8
        → closed_at φs (tracked j φs s rs p) (state_after j s p) i ≡ residual_holds (parts_of (formula φs i)) (get_or rs i 0) (worlds_after j s p)
    unfolding closed_at closing tracked state_after worlds_after
    tracked_right [] s rs e = refl
    tracked_right (a ∷ p) s rs e =
        let w : World = reached j s a in
        tracked_right p (after (action_of j a) s) (carried φs rs w) (carried_full rs w e)
        ∙ ap (λ (r : ℕ). residual_holds (parts_of (formula φs i)) r (worlds_after j (after (action_of j a) s) p)) (carried_at rs w e i l)
        ∙ progressed_on j (formula φs i) few_at w (after (action_of j a) s) p (get_or rs i 0)

    pub left_right : (p : List ℕ) → closed_at φs (left_by j φs p) (state_after j j.start p) i ≡ holds (formula φs i) (worlds j p)
    unfolding worlds
    left_right p =
        let w : World = still j.start in
        let n = length-residuals φs w in
        tracked_right p j.start (padded (residuals φs w)) (length-padded (residuals φs w) (omega arith))
        ∙ ap (λ (r : ℕ). residual_holds (parts_of (formula φs i)) r (worlds_after j j.start p))
        (get_or-padded (residuals φs w) i (omega arith) ∙ get_or-residuals φs w i l)
        ∙ residual_on j (formula φs i) few_at w j.start p
