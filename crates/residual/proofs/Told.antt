-- The truths that were read in a state are those of the state, since each fact code of a formula has a bit of its own.
use Rattle.std.proofs.Common.{◌≡◌, refl, ap, ap₂, ◌∙◌, ℕ, suc, ◌+◌, ◌*◌, ◌^◌, ◌<◌, ◌≤◌, Bool, true, false, ◌||◌, arith, pow_pos}
use Rattle.std.proofs.Math.Bool.{or-false}
use Rattle.model.specs.Bits.{bit, digit}
use Rattle.model.specs.logic.Formula.{Formula, constant, fact, action, unary, binary}
use Rattle.model.specs.logic.Parts.{size}
use Rattle.model.proofs.bits.Bits.{bit_zero}
use Rattle.model.proofs.bits.Bitwise.{bit_or_lem}
use Rattle.bits.proofs.BitLaws.{bit_high, bit_shl, bit_shl_low}
use Rattle.residual.specs.Facts.{truth_bit, fact_truths}

-- these truths are those of the state s, for the fact codes of the formula at a position
abbrev pub Tells : ℕ → Formula → ℕ → ℕ → Type 0
Tells f (constant c) at s = Unit {0}
Tells f (fact i) at s = bit f (truth_bit at) ≡ bit s i
Tells f (action a) at s = Unit {0}
Tells f (unary o φ) at s = Tells f φ (suc at) s
Tells f (binary o φ ψ) at s = Tells f φ (suc at) s × Tells f ψ (suc at + size φ) s

-- ---- a digit at bit m

digit_at : (b : Bool) (m : ℕ) → bit (digit b * 2 ^ m) m ≡ b
unfolding bit digit
digit_at b m = let e : m ≡ m + 0 = omega arith in ap (bit (digit b * 2 ^ m)) e ∙ bit_shl (digit b) m 0 ∙ lowest b
  where
    lowest : (b : Bool) → bit (digit b) 0 ≡ b
    lowest true = refl
    lowest false = refl

digit_above : (b : Bool) (m k : ℕ) → m < k → bit (digit b * 2 ^ m) k ≡ false
unfolding digit
digit_above b m k l = bit_high (suc m) _ k (small b) (omega arith)
  where
    small : (b : Bool) → digit b * 2 ^ m < 2 ^ suc m
    small true = omega (arith, pow_pos m)
    small false = omega (arith, pow_pos (suc m))

module _ (s : ℕ) where
  -- ---- only bits of the formula's own bytes are set, so the bits of two operands stay apart

  below : (φ : Formula) (at k : ℕ) → k < truth_bit at → bit (fact_truths φ at s) k ≡ false
  unfolding fact_truths
  below (constant c) at k l = bit_zero k
  below (fact i) at k l = bit_shl_low _ (truth_bit at) k l
  below (action a) at k l = bit_zero k
  below (unary o φ) at k l = below φ (suc at) k (omega arith)
  below (binary o φ ψ) at k l =
      bit_or_lem (fact_truths φ (suc at) s) _ k ∙ ap₂ ◌||◌ (below φ (suc at) k (omega arith)) (below ψ (suc at + size φ) k (omega arith))

  above : (φ : Formula) (at k : ℕ) → truth_bit (at + size φ) ≤ k → bit (fact_truths φ at s) k ≡ false
  unfolding fact_truths
  above (constant c) at k l = bit_zero k
  above (fact i) at k l = digit_above (bit s i) (truth_bit at) k (omega arith)
  above (action a) at k l = bit_zero k
  above (unary o φ) at k l = above φ (suc at) k (omega arith)
  above (binary o φ ψ) at k l =
      bit_or_lem (fact_truths φ (suc at) s) _ k ∙ ap₂ ◌||◌ (above φ (suc at) k (omega arith)) (above ψ (suc at + size φ) k (omega arith))

  -- only the bits of the formula's own bytes count, since the truths may be those of a larger formula
  tells : (f : ℕ) (φ : Formula) (at : ℕ) → ((k : ℕ) → truth_bit at ≤ k → k < truth_bit (at + size φ) → bit f k ≡ bit (fact_truths φ at s) k) → Tells f φ at s
  unfolding fact_truths
  tells f (constant c) at h = tt
  tells f (fact i) at h = h (truth_bit at) (omega arith) (omega arith) ∙ digit_at (bit s i) (truth_bit at)
  tells f (action a) at h = tt
  tells f (unary o φ) at h = tells f φ (suc at) (λ k l m. h k (omega arith) (omega arith))
  tells f (binary o φ ψ) at h =
      let x : ℕ = fact_truths φ (suc at) s in
      let y : ℕ = fact_truths ψ (suc at + size φ) s in (
        tells f φ (suc at)
            (λ k l m. h k (omega arith) (omega arith) ∙ bit_or_lem x y k
            ∙ ap (λ (b : Bool). bit x k || b) (below ψ (suc at + size φ) k m) ∙ or-false (bit x k)),
        tells f ψ (suc at + size φ)
            (λ k l m. h k (omega arith) (omega arith) ∙ bit_or_lem x y k ∙ ap (λ (b : Bool). b || bit y k) (above φ (suc at) k l)),
      )

-- the truths that were read are those of the state
pub told : (φ : Formula) (at s : ℕ) → Tells (fact_truths φ at s) φ at s
told φ at s = tells s _ φ at (λ k l m. refl)
