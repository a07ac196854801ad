-- Evaluating a formula by the truths of its fact codes gives the same remainder as evaluating it in the world where they were read.
use Rattle.std.proofs.Common.{◌≡◌, refl, ap, ap₂, ℕ, suc, ◌+◌, ◌^◌, Bool, true, false, not, ◌&&◌, ◌||◌, [], ◌∷◌}
use Rattle.model.specs.declared.Constant.TheVariants.{False, True, Last}
use Rattle.model.specs.declared.Unary.TheVariants.{Not, Next, Eventually, Always}
use Rattle.model.specs.declared.Binary.TheVariants.{And, Or, Until, Release}
use Rattle.model.specs.Bits.{bit, bits_of}
use Rattle.model.specs.logic.Formula.{Formula, constant, fact, action, unary, binary}
use Rattle.model.specs.logic.Parts.{size, count, Part, parts_of}
use Rattle.model.specs.logic.Truth.{World, holds}
use Rattle.model.specs.logic.Progression.{progress, progressed, residual, residual_holds, closing}
use Rattle.model.proofs.bits.Bits.{of_bits_cong}
use Rattle.model.proofs.logic.EachPart.{parts_same}
use Rattle.residual.specs.Facts.{Valuation, fact_truths, read_in}
use Rattle.residual.specs.Node.{truth}
use Rattle.residual.specs.SameRemainder.{SameRemainder, residual_by, progressed_by, closing_by}
use Rattle.residual.proofs.Told.{Tells, told}

module _ (f : ℕ) (w : World) where
  -- what is known of the world when f are the truths
  abbrev known : Valuation
  known = record { truths = f; made = w.made }

  -- ---- a formula whose fact codes have these truths

  -- before the closing world
  by_progress : (φ : Formula) (at n : ℕ) (σ : ℕ → Bool) → Tells f φ at w.state → truth false known φ at n σ ≡ progress φ n w σ
  unfolding truth progress
  by_progress (constant False) at n σ t = refl
  by_progress (constant True) at n σ t = refl
  by_progress (constant Last) at n σ t = refl
  by_progress (fact i) at n σ t = t
  by_progress (action a) at n σ t = refl
  by_progress (unary Not φ) at n σ t = ap not (by_progress φ (suc at) n σ t)
  by_progress (unary Next φ) at n σ t = refl
  by_progress (unary Eventually φ) at n σ t = ap (λ (b : Bool). b || σ n) (by_progress φ (suc at) (suc n) σ t)
  by_progress (unary Always φ) at n σ t = ap (λ (b : Bool). b && σ n) (by_progress φ (suc at) (suc n) σ t)
  by_progress (binary And φ ψ) at n σ t =
      ap₂ ◌&&◌ (by_progress φ (suc at) n σ t.0) (by_progress ψ (suc at + size φ) (n + count φ) σ t.1)
  by_progress (binary Or φ ψ) at n σ t =
      ap₂ ◌||◌ (by_progress φ (suc at) n σ t.0) (by_progress ψ (suc at + size φ) (n + count φ) σ t.1)
  by_progress (binary Until φ ψ) at n σ t =
      ap₂ (λ (p q : Bool). q || (p && σ n)) (by_progress φ (suc at) (suc n) σ t.0) (by_progress ψ (suc at + size φ) (suc n + count φ) σ t.1)
  by_progress (binary Release φ ψ) at n σ t =
      ap₂ (λ (p q : Bool). q && (p || σ n)) (by_progress φ (suc at) (suc n) σ t.0) (by_progress ψ (suc at + size φ) (suc n + count φ) σ t.1)

  -- in the closing world, where the unknowns count for nothing
  by_holds : (φ : Formula) (at n : ℕ) (σ : ℕ → Bool) → Tells f φ at w.state → truth true known φ at n σ ≡ holds φ (w ∷ [])
  unfolding truth holds
  by_holds (constant False) at n σ t = refl
  by_holds (constant True) at n σ t = refl
  by_holds (constant Last) at n σ t = refl
  by_holds (fact i) at n σ t = t
  by_holds (action a) at n σ t = refl
  by_holds (unary Not φ) at n σ t = ap not (by_holds φ (suc at) n σ t)
  by_holds (unary Next φ) at n σ t = refl
  by_holds (unary Eventually φ) at n σ t = ap (λ (b : Bool). b || false) (by_holds φ (suc at) (suc n) σ t)
  by_holds (unary Always φ) at n σ t = ap (λ (b : Bool). b && true) (by_holds φ (suc at) (suc n) σ t)
  by_holds (binary And φ ψ) at n σ t = ap₂ ◌&&◌ (by_holds φ (suc at) n σ t.0) (by_holds ψ (suc at + size φ) (n + count φ) σ t.1)
  by_holds (binary Or φ ψ) at n σ t = ap₂ ◌||◌ (by_holds φ (suc at) n σ t.0) (by_holds ψ (suc at + size φ) (n + count φ) σ t.1)
  by_holds (binary Until φ ψ) at n σ t =
      ap₂ (λ (p q : Bool). q || (p && false)) (by_holds φ (suc at) (suc n) σ t.0) (by_holds ψ (suc at + size φ) (suc n + count φ) σ t.1)
  by_holds (binary Release φ ψ) at n σ t =
      ap₂ (λ (p q : Bool). q && (p || true)) (by_holds φ (suc at) (suc n) σ t.0) (by_holds ψ (suc at + size φ) (suc n + count φ) σ t.1)

  -- a test that agrees on all formulas with these truths agrees on the carried parts, whose fact codes are among the formula's own
  parts_told : (p q : Part → Bool) → ((x : Part) → Tells f x.shape x.position w.state → p x ≡ q x) → (φ : Formula) → Tells f φ 0 w.state
      → bits_of p (parts_of φ) ≡ bits_of q (parts_of φ)
  parts_told = parts_same (λ φ at. Tells f φ at w.state) (λ o φ at g. g) (λ o φ ψ at g. g.0) (λ o φ ψ at g. g.1)

-- ---- the three claims of `SameRemainder`

same_first : (n : ℕ) (φ : Formula) (w : World) → residual_by n φ (read_in w φ) ≡ residual n φ w
unfolding residual_by residual
same_first n φ w = of_bits_cong (2 ^ n) _ _ (λ k l. by_progress (fact_truths φ 0 w.state) w φ 0 0 (bit k) (told φ 0 w.state))

same_next : (n : ℕ) (φ : Formula) (w : World) (r : ℕ) → progressed_by n (parts_of φ) r (read_in w φ) ≡ progressed n (parts_of φ) r w
unfolding progressed_by progressed
same_next n φ w r =
    let f : ℕ = fact_truths φ 0 w.state in
    of_bits_cong (2 ^ n) _ _
    (λ k l. ap (bit r)
    (parts_told f w (λ p. truth false (known f w) p.shape p.position p.first (bit k)) (λ p. progress p.shape p.first w (bit k))
    (λ p t. by_progress f w p.shape p.position p.first (bit k) t) φ (told φ 0 w.state)))

same_closes : (φ : Formula) (w : World) (r : ℕ) → closing_by (parts_of φ) r (read_in w φ) ≡ closing (parts_of φ) r w
unfolding closing_by closing residual_holds
same_closes φ w r =
    let f : ℕ = fact_truths φ 0 w.state in
    ap (bit r)
    (parts_told f w (λ p. truth true (known f w) p.shape p.position p.first (bit 0)) (λ p. holds p.shape (w ∷ []))
    (λ p t. by_holds f w p.shape p.position p.first (bit 0) t) φ (told φ 0 w.state))

-- evaluating by truths leaves what evaluating in the world leaves
pub same_remainder : (n : ℕ) (φ : Formula) (w : World) → SameRemainder n φ w
same_remainder n φ w = record { first = same_first n φ w; next = same_next n φ w; closes = same_closes φ w }
