-- What a formula leaves depends on a world only through the facts and the actions that the formula names, and so does its truth in the closing
-- world.
use mathlib.Core.Path.{◌≡◌, refl, ap, ap₂}
use Prim.Native.Nat.{ℕ, suc, ◌+◌, ◌^◌}
use mathlib.Core.Bool.{Bool, true, false, not, ◌&&◌, ◌||◌}
use mathlib.Core.List.{[], ◌∷◌}
use Rattle.model.specs.declared.Constant.TheVariants.{False, True, Last}
use Rattle.model.specs.declared.Unary.TheVariants.{Not, Next, Eventually, Always}
use Rattle.model.specs.declared.Binary.TheVariants.{And, Or, Until, Release}
use Rattle.model.specs.Bits.{bit, bits_of}
use Rattle.model.specs.logic.Formula.{Formula, constant, fact, action, unary, binary}
use Rattle.model.specs.logic.Parts.{count, Part, parts_of}
use Rattle.model.specs.logic.Truth.{World, holds}
use Rattle.model.specs.logic.Progression.{progress, progressed, residual_holds, closing}
use Rattle.model.specs.logic.Names.{Names, Alike}
use Rattle.model.proofs.bits.Bits.{of_bits_cong}
use Rattle.model.proofs.logic.EachPart.{parts_same}

module _ (f a : ℕ) where
  -- a test that agrees on all formulas that name nothing else agrees on the parts of such a formula, which name nothing else
  parts_alike : (p q : Part → Bool) → ((x : Part) → Names f a x.shape → p x ≡ q x) → (φ : Formula) → Names f a φ
      → bits_of p (parts_of φ) ≡ bits_of q (parts_of φ)
  parts_alike = parts_same (λ φ at. Names f a φ) (λ o φ at g. g) (λ o φ ψ at g. g.0) (λ o φ ψ at g. g.1)

  module _ (w v : World) (h : Alike f a w v) where
    -- ---- a world that is not the closing one

    pub progress_alike : (φ : Formula) → Names f a φ → (n : ℕ) (s : ℕ → Bool) → progress φ n w s ≡ progress φ n v s
    unfolding progress
    progress_alike (constant False) g n s = refl
    progress_alike (constant True) g n s = refl
    progress_alike (constant Last) g n s = refl
    progress_alike (fact i) g n s = h.facts i g
    progress_alike (action i) g n s = h.actions i g
    progress_alike (unary Not φ) g n s = ap not (progress_alike φ g n s)
    progress_alike (unary Next φ) g n s = refl
    progress_alike (unary Eventually φ) g n s = ap (λ (b : Bool). b || s n) (progress_alike φ g (suc n) s)
    progress_alike (unary Always φ) g n s = ap (λ (b : Bool). b && s n) (progress_alike φ g (suc n) s)
    progress_alike (binary And φ ψ) g n s = ap₂ ◌&&◌ (progress_alike φ g.0 n s) (progress_alike ψ g.1 (n + count φ) s)
    progress_alike (binary Or φ ψ) g n s = ap₂ ◌||◌ (progress_alike φ g.0 n s) (progress_alike ψ g.1 (n + count φ) s)
    progress_alike (binary Until φ ψ) g n s =
        ap₂ (λ (p q : Bool). q || (p && s n)) (progress_alike φ g.0 (suc n) s) (progress_alike ψ g.1 (suc n + count φ) s)
    progress_alike (binary Release φ ψ) g n s =
        ap₂ (λ (p q : Bool). q && (p || s n)) (progress_alike φ g.0 (suc n) s) (progress_alike ψ g.1 (suc n + count φ) s)

    pub progressed_alike : (φ : Formula) → Names f a φ → (n r : ℕ) → progressed n (parts_of φ) r w ≡ progressed n (parts_of φ) r v
    unfolding progressed
    progressed_alike φ g n r =
        of_bits_cong (2 ^ n) _ _
        (λ k l. ap (bit r)
        (parts_alike (λ p. progress p.shape p.first w (bit k)) (λ p. progress p.shape p.first v (bit k))
        (λ p e. progress_alike p.shape e p.first (bit k)) φ g))

    -- ---- the closing world

    holds_alike : (φ : Formula) → Names f a φ → holds φ (w ∷ []) ≡ holds φ (v ∷ [])
    unfolding holds
    holds_alike (constant False) g = refl
    holds_alike (constant True) g = refl
    holds_alike (constant Last) g = refl
    holds_alike (fact i) g = h.facts i g
    holds_alike (action i) g = h.actions i g
    holds_alike (unary Not φ) g = ap not (holds_alike φ g)
    holds_alike (unary Next φ) g = refl
    holds_alike (unary Eventually φ) g = ap (λ (b : Bool). b || false) (holds_alike φ g)
    holds_alike (unary Always φ) g = ap (λ (b : Bool). b && true) (holds_alike φ g)
    holds_alike (binary And φ ψ) g = ap₂ ◌&&◌ (holds_alike φ g.0) (holds_alike ψ g.1)
    holds_alike (binary Or φ ψ) g = ap₂ ◌||◌ (holds_alike φ g.0) (holds_alike ψ g.1)
    holds_alike (binary Until φ ψ) g = ap₂ (λ (p q : Bool). q || (p && false)) (holds_alike φ g.0) (holds_alike ψ g.1)
    holds_alike (binary Release φ ψ) g = ap₂ (λ (p q : Bool). q && (p || true)) (holds_alike φ g.0) (holds_alike ψ g.1)

    pub closing_alike : (φ : Formula) → Names f a φ → (r : ℕ) → closing (parts_of φ) r w ≡ closing (parts_of φ) r v
    unfolding closing residual_holds
    closing_alike φ g r =
        ap (bit r)
        (parts_alike (λ p. holds p.shape (w ∷ [])) (λ p. holds p.shape (v ∷ [])) (λ p e. holds_alike p.shape e) φ g)
