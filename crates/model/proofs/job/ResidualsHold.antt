-- The truth of a list of residuals on worlds: what formulas leave is true exactly if they are, from one world to the next.
use Rattle.std.proofs.Common.{None}
use mathlib.Core.Path.{◌≡◌, refl, sym, ap, ap₂, ◌∙◌}
use mathlib.Core.Logic.{◌↔◌}
use Prim.Native.Nat.{ℕ, zero, suc, ◌<◌}
use native.Mathlib.Omega.{arith}
use mathlib.Core.Bool.{Bool, true, false, ◌&&◌, and-false, true≢false}
use mathlib.Core.List.{List, [], ◌∷◌}
use lib.ListN.{length, get_or}
use Rattle.model.specs.Bits.{bit, bits_of}
use Rattle.model.specs.declared.Constant.TheVariants.{True}
use Rattle.model.specs.logic.Formula.{Formula, constant}
use Rattle.model.specs.logic.Parts.{most_parts, Part, parts_of}
use Rattle.model.specs.logic.Truth.{World, holds, all_hold}
use Rattle.model.specs.logic.Progression.{dead, residual_holds, closing}
use Rattle.model.specs.job.Job.{Job, action_of}
use Rattle.model.specs.task.State.{after}
use Rattle.model.specs.task.Plan.{worlds_after}
use Rattle.model.specs.search.Node.{residuals, progressed_all, closing_all, some_dead}
use Rattle.model.proofs.logic.ProgressionLaws.{residual_right, progressed_right}
use Rattle.model.proofs.logic.ResidualLaws.{dead_holds}
use Rattle.model.proofs.Tests.{and_both}
use Rattle.model.proofs.job.Accepted.{FewParts}
use Rattle.model.proofs.job.PlanLaws.{all_hold_cons}
use Rattle.model.proofs.job.NodeLaws.{world_after}

-- all residuals are true, where their formulas' parts have their truth on the worlds
unfoldable pub residuals_hold : List Formula → List ℕ → List World → Bool
unfolding residual_holds parts_of
residuals_hold [] rs ws = true
residuals_hold (φ ∷ φs) [] ws = true
residuals_hold (φ ∷ φs) (r ∷ rs) ws = residual_holds (parts_of φ) r ws && residuals_hold φs rs ws

-- What formulas leave after the first world holds of the others exactly if they hold of all.
residuals_right : (φs : List Formula) → FewParts φs → (w v : World) (rest : List World)
    → residuals_hold φs (residuals φs w) (v ∷ rest) ≡ all_hold φs (w ∷ v ∷ rest)
unfolding residuals_hold residuals all_hold
residuals_right [] f w v rest = refl
residuals_right (φ ∷ φs) f w v rest =
    ap₂ ◌&&◌ (residual_right most_parts φ f.0 w v rest) (residuals_right φs f.1 w v rest) ∙ sym (all_hold_cons φ φs (w ∷ v ∷ rest))

-- What residuals leave after a world holds of the others exactly if they hold of all.
progressed_all_right : (φs : List Formula) → FewParts φs → (rs : List ℕ) (w v : World) (rest : List World)
    → residuals_hold φs (progressed_all φs rs w) (v ∷ rest) ≡ residuals_hold φs rs (w ∷ v ∷ rest)
unfolding residuals_hold progressed_all
progressed_all_right [] f rs w v rest = refl
progressed_all_right (φ ∷ φs) f [] w v rest = refl
progressed_all_right (φ ∷ φs) f (r ∷ rs) w v rest = ap₂ ◌&&◌ (progressed_right most_parts φ f.0 r w v rest) (progressed_all_right φs f.1 rs w v rest)

-- In the closing world alone it is `closing_all`.
pub closing_right : (φs : List Formula) (rs : List ℕ) (w : World) → closing_all φs rs w ≡ residuals_hold φs rs (w ∷ [])
unfolding residuals_hold closing_all closing
closing_right [] rs w = refl
closing_right (φ ∷ φs) [] w = refl
closing_right (φ ∷ φs) (r ∷ rs) w = go (closing (parts_of φ) r w) refl (closing_right φs rs w)
  where
    go : (b : Bool) → closing (parts_of φ) r w ≡ b → closing_all φs rs w ≡ residuals_hold φs rs (w ∷ [])
        → closing_all (φ ∷ φs) (r ∷ rs) w ≡ closing (parts_of φ) r w && residuals_hold φs rs (w ∷ [])
    go true e ih = rw (e, closing_all) ih
    go false e ih = rw (e, closing_all) refl

-- A dead one among them is true of no worlds.
pub dead_right : (φs : List Formula) (rs : List ℕ) (ws : List World) → length rs ≡ length φs → some_dead rs ≡ true → residuals_hold φs rs ws ≡ false
unfolding residuals_hold some_dead
dead_right [] [] ws l h = absurd (true≢false (sym h))
dead_right [] (r ∷ rs) ws l h = absurd (omega arith)
dead_right (φ ∷ φs) [] ws l h = absurd (omega arith)
dead_right (φ ∷ φs) (r ∷ rs) ws l h = go (dead r) refl (dead_right φs rs ws (omega arith))
  where
    go : (b : Bool) → dead r ≡ b → (some_dead rs ≡ true → residuals_hold φs rs ws ≡ false) → residual_holds (parts_of φ) r ws && residuals_hold φs rs ws ≡ false
    go true e ih = rw (dead_holds (parts_of φ) r ws e) refl
    go false e ih = ap (λ (b : Bool). residual_holds (parts_of φ) r ws && b) (ih (rw (e, some_dead) at h)) ∙ and-false (residual_holds (parts_of φ) r ws)

-- ---- residuals along a job's worlds, of which there is always a next one

module _ (j : Job) (φs : List Formula) (few : FewParts φs) where
  pub right_first : (w : World) (s : ℕ) (p : List ℕ) → residuals_hold φs (residuals φs w) (worlds_after j s p) ≡ all_hold φs (w ∷ worlds_after j s p)
  unfolding worlds_after
  right_first w s [] = residuals_right φs few w (record { state = s; made = None }) []
  right_first w s (i ∷ p) = residuals_right φs few w (world_after j s i) (worlds_after j (after (action_of j i) s) p)

  pub right_next : (rs : List ℕ) (w : World) (s : ℕ) (p : List ℕ) → residuals_hold φs (progressed_all φs rs w) (worlds_after j s p) ≡ residuals_hold φs rs (w ∷ worlds_after j s p)
  unfolding worlds_after
  right_next rs w s [] = progressed_all_right φs few rs w (record { state = s; made = None }) []
  right_next rs w s (i ∷ p) = progressed_all_right φs few rs w (world_after j s i) (worlds_after j (after (action_of j i) s) p)

-- ---- residuals by settings

-- the setting of a formula's parts that is their truth on the worlds
abbrev pub setting_of : Formula → List World → ℕ
setting_of φ ws = bits_of (λ (p : Part). holds p.shape ws) (parts_of φ)

-- each residual is true at the setting that the worlds give its formula's parts
abbrev pub TrueThere : List Formula → List ℕ → List World → Type 0
TrueThere φs rs ws = (i : ℕ) → i < length φs → bit (get_or rs i 0) (setting_of (get_or φs i (constant True)) ws) ≡ true

-- Residuals hold of worlds exactly if each is true at its setting.
pub hold_there : (φs : List Formula) (rs : List ℕ) (ws : List World) → length rs ≡ length φs → (residuals_hold φs rs ws ≡ true) ↔ TrueThere φs rs ws
unfolding residuals_hold residual_holds
hold_there [] [] ws l = (λ h i b. absurd (omega arith), λ h. refl)
hold_there [] (r ∷ rs) ws l = absurd (omega arith)
hold_there (φ ∷ φs) [] ws l = absurd (omega arith)
hold_there (φ ∷ φs) (r ∷ rs) ws l = (to (hold_there φs rs ws (omega arith)), from (hold_there φs rs ws (omega arith)))
  where
    first : Bool
    first = residual_holds (parts_of φ) r ws

    to : (residuals_hold φs rs ws ≡ true) ↔ TrueThere φs rs ws → first && residuals_hold φs rs ws ≡ true → TrueThere (φ ∷ φs) (r ∷ rs) ws
    to ih h zero b = ((and_both first _).0 h).0
    to ih h (suc i) b = ih.0 ((and_both first (residuals_hold φs rs ws)).0 h).1 i (omega arith)

    from : (residuals_hold φs rs ws ≡ true) ↔ TrueThere φs rs ws → TrueThere (φ ∷ φs) (r ∷ rs) ws → first && residuals_hold φs rs ws ≡ true
    from ih h = (and_both first (residuals_hold φs rs ws)).1 (h 0 (omega arith), ih.1 (λ i b. h (suc i) (omega arith)))
