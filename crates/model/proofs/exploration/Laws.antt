-- What is asked of a system, so that its exploration has one result, comes to its end and finds the best plan.
use Rattle.std.proofs.Common.{Some}
use mathlib.Core.Path.{◌≡◌}
use Prim.Native.Nat.{ℕ, ◌+◌, ◌≤◌, ◌<◌}
use mathlib.Core.Bool.{Bool, true, false, ◌&&◌}
use mathlib.Core.Logic.{◌↔◌}
use mathlib.Core.List.{List, ◌∷◌}
use Rattle.model.specs.exploration.System.{System}

-- The test of nodes is equality, `meet` is the conjunction, and proper hint residuals are equal if they are true at the same settings.
pub record Laws (S : System) : Type 0 where
  pub same_eq : (m n : S.Node) → S.same m n ≡ true → m ≡ n
  pub same_refl : (m : S.Node) → S.same m m ≡ true
  pub meet_true : (g h : S.Hints) (s : S.Setting) → S.true_at (S.meet g h) s ≡ (S.true_at g s && S.true_at h s)
  pub start_proper : S.Proper S.start_hints
  pub carry_proper : (h : S.Hints) (n : S.Node) (i : ℕ) → S.Proper h → S.Proper (S.carry h n i)
  pub meet_proper : (g h : S.Hints) → S.Proper g → S.Proper h → S.Proper (S.meet g h)
  -- the estimate never falls by more than an action's cost, and nothing is left at a goal
  pub consistent : (m n : S.Node) (i : ℕ) → i < S.actions → S.step m i ≡ Some n → S.estimate m ≤ S.cost i + S.estimate n
  pub at_goal : (n : S.Node) → S.goal n ≡ true → S.estimate n ≡ 0
  pub ext : (g h : S.Hints) → S.Proper g → S.Proper h → ((s : S.Setting) → S.true_at g s ≡ S.true_at h s) → g ≡ h

-- The nodes that are reached have different codes below the bound.
pub record Finite (S : System) : Type 1 where
  pub Ok : S.Node → Type 0
  pub start_ok : {m : S.Node} → S.start ≡ Some m → Ok m
  pub step_ok : (m : S.Node) {n : S.Node} (i : ℕ) → Ok m → S.step m i ≡ Some n → Ok n
  pub code : S.Node → ℕ
  pub code_lt : (m : S.Node) → Ok m → code m < S.bound
  pub code_eq : (m n : S.Node) → Ok m → Ok n → code m ≡ code n → m ≡ n

-- What hint residuals say of the rest of a run.
pub record HintLaws (S : System) : Type 1 where
  -- the continuation by these actions from the node meets what the hint residuals leave
  pub meets : S.Node → S.Hints → List ℕ → Bool
  -- the settings that the continuation gives the hints' parts
  pub made : S.Node → List ℕ → S.Setting → Type 0
  pub meets_made : (n : S.Node) (h : S.Hints) (as' : List ℕ) → S.Proper h
      → (meets n h as' ≡ true) ↔ ((s : S.Setting) → made n as' s → S.true_at h s ≡ true)
  pub carried : (m : S.Node) {n : S.Node} (h : S.Hints) (i : ℕ) (as' : List ℕ) → S.Proper h → S.step m i ≡ Some n → meets n (S.carry h n i) as' ≡ meets m h (i ∷ as')
  pub dead : (n : S.Node) (h : S.Hints) (as' : List ℕ) → S.Proper h → S.cut h ≡ true → meets n h as' ≡ false
