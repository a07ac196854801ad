-- "For every rule, state and step (or none) its result is shown to be the same remainder as before": what is claimed of evaluating a formula by the
-- truths of its fact codes. A world has the state, and the step that was made or none.
use Rattle.std.specs.Prelude.{◌≡◌, ℕ, ◌^◌, Bool, true, false, List}
use Rattle.model.specs.Bits.{bit, of_bits, bits_of}
use Rattle.model.specs.logic.Formula.{Formula}
use Rattle.model.specs.logic.Parts.{Part, parts_of}
use Rattle.model.specs.logic.Truth.{World}
use Rattle.model.specs.logic.Progression.{residual, progressed, closing}
use Rattle.residual.specs.Facts.{Valuation, read_in}
use Rattle.residual.specs.Node.{truth}

-- ---- what runs over the settings of the carried parts, by truths and without a state: `residual`, `progressed` and `closing` of the model
unfoldable pub residual_by : ℕ → Formula → Valuation → ℕ
unfolding truth bit of_bits
residual_by n φ v = of_bits (2 ^ n) (λ k. truth false v φ 0 0 (bit k))

unfoldable pub progressed_by : ℕ → List Part → ℕ → Valuation → ℕ
unfolding truth bit of_bits bits_of
progressed_by n ps r v = of_bits (2 ^ n) (λ k. bit r (bits_of (λ (p : Part). truth false v p.shape p.position p.first (bit k)) ps))

-- the truth in the closing world is the same at every setting
unfoldable pub closing_by : List Part → ℕ → Valuation → Bool
unfolding truth bit bits_of
closing_by ps r v = bit r (bits_of (λ (p : Part). truth true v p.shape p.position p.first (bit 0)) ps)

-- ---- the same remainder, for n parts
pub record SameRemainder (n : ℕ) (φ : Formula) (w : World) : Type 0 where
  -- of the formula itself
  pub first : residual_by n φ (read_in w φ) ≡ residual n φ w
  -- of a residual that was left before
  pub next : (r : ℕ) → progressed_by n (parts_of φ) r (read_in w φ) ≡ progressed n (parts_of φ) r w
  -- and the truth of a residual in the closing world
  pub closes : (r : ℕ) → closing_by (parts_of φ) r (read_in w φ) ≡ closing (parts_of φ) r w
