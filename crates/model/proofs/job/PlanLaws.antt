-- What an allowed plan is, taken apart: its actions one by one, its goal, its constraints one by one.
use mathlib.Core.Path.{◌≡◌, refl, sym, ◌∙◌}
use mathlib.Core.Logic.Iff
use mathlib.Core.Logic.{◌↔◌}
use Prim.Native.Nat.{ℕ, ◌<◌}
use mathlib.Core.Bool.{Bool, true, false, ◌&&◌, true≢false}
use mathlib.Core.List.{List, [], ◌∷◌}
use lib.Dec.{ltb}
use lib.ListN.{length}
use borrow.Author.Tests.{ltb-true, lt-ltb}
use Rattle.model.specs.logic.Formula.{Formula}
use Rattle.model.specs.logic.Truth.{World, holds, all_hold}
use Rattle.model.specs.job.Job.{Job, action_of}
use Rattle.model.specs.task.State.{within, applicable, after}
use Rattle.model.specs.task.Plan.{state_after, worlds, executable, allowed}
use Rattle.model.proofs.exploration.Each.{All}
use Rattle.model.proofs.Tests.{and_both}

pub all_hold_cons : (φ : Formula) (φs : List Formula) (ws : List World) → all_hold (φ ∷ φs) ws ≡ holds φ ws && all_hold φs ws
unfolding all_hold
all_hold_cons φ φs ws = go (holds φ ws) refl
  where
    go : (b : Bool) → holds φ ws ≡ b → all_hold (φ ∷ φs) ws ≡ holds φ ws && all_hold φs ws
    go true e = rw (e, all_hold) refl
    go false e = rw (e, all_hold) refl

-- Formulas hold together if each holds.
pub all_hold_each : (φs : List Formula) (ws : List World) → (all_hold φs ws ≡ true) ↔ All (λ φ. holds φ ws ≡ true) φs
unfolding all_hold
all_hold_each [] ws = (λ h. tt, λ h. refl)
all_hold_each (φ ∷ φs) ws = rw all_hold_cons (Iff.trans (and_both (holds φ ws) (all_hold φs ws)) (Iff.and Iff.rfl (all_hold_each φs ws)))

module _ (j : Job) where
  -- Actions can be made one after the other if the first is one of the job's, is applicable, and the others can be made after it.
  pub executable_cons : (s i : ℕ) (is : List ℕ) → (executable j s (i ∷ is) ≡ true)
      ↔ ((i < length j.actions) × (applicable (action_of j i) s ≡ true) × (executable j (after (action_of j i) s) is ≡ true))
  unfolding executable
  executable_cons s i is = go (ltb i (length j.actions)) (applicable (action_of j i) s) refl refl
    where
      go : (a b : Bool) → ltb i (length j.actions) ≡ a → applicable (action_of j i) s ≡ b → (executable j s (i ∷ is) ≡ true)
          ↔ ((i < length j.actions) × (applicable (action_of j i) s ≡ true) × (executable j (after (action_of j i) s) is ≡ true))
      go true true e f = rw (e, f, executable) (λ h. (ltb-true _ _ e, refl, h), λ h. h.2)
      go true false e f = rw (e, f, executable) (λ h. absurd (true≢false (sym h)), λ h. h.1)
      go false b e f = rw (e, executable) (λ h. absurd (true≢false (sym h)), λ h. sym e ∙ lt-ltb _ _ h.0)

  -- A plan is allowed if it can be made, reaches the goal and meets the constraints.
  pub allowed_split : (p : List ℕ) → (allowed j p ≡ true)
      ↔ ((executable j j.start p ≡ true) × (within j.goal (state_after j j.start p) ≡ true) × (all_hold j.constraints (worlds j p) ≡ true))
  unfolding allowed
  allowed_split p = (to, from)
    where
      e : Bool
      e = executable j j.start p

      g : Bool
      g = within j.goal (state_after j j.start p)

      c : Bool
      c = all_hold j.constraints (worlds j p)

      to : e && g && c ≡ true → (e ≡ true) × (g ≡ true) × (c ≡ true)
      to h = let a = (and_both (e && g) c).0 h in let b = (and_both e g).0 a.0 in (b.0, b.1, a.1)

      from : (e ≡ true) × (g ≡ true) × (c ≡ true) → e && g && c ≡ true
      from h = (and_both (e && g) c).1 ((and_both e g).1 (h.0, h.1), h.2)
