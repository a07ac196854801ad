-- The set of one fact, as a number: only that bit.
use mathlib.Core.Path.{◌≡◌, sym, ap, ◌∙◌, refl}
use Prim.Native.Nat.{ℕ, suc, ◌%◌, ◌<◌}
use native.Mathlib.Omega.{arith}
use native.Mathlib.Nat.{div-eq_of_lt, lt_of_lt_of_le}
use native.Mathlib.Decide.{dec_lt}
use lib.Pow.{pow_mono}
use lib.Dec.{eqb}
use borrow.Author.Tests.{eqb-true, eq-eqb}
use mathlib.Core.Bool.{true, false, true≢false}
use Rattle.model.specs.Bits.{bit, of_bits}
use Rattle.model.proofs.bits.Bits.{bit_of_bits, of_bits_lt}

-- ---- the set of one fact

-- as a number: only that bit
unfoldable pub only : ℕ → ℕ
only f = of_bits (suc f) (λ i. eqb i f)

pub only_it : (f : ℕ) → bit (only f) f ≡ true
unfolding only
only_it f = bit_of_bits (suc f) (λ i. eqb i f) f (omega arith) ∙ eq-eqb f f refl

only_high : (f g : ℕ) → f < g → bit (only f) g ≡ false
unfolding only bit
only_high f g l = ap (λ (y : ℕ). eqb (y % 2) 1) (div-eq_of_lt (lt_of_lt_of_le (of_bits_lt (suc f) (λ i. eqb i f)) (pow_mono l)))

pub only_one : (f g : ℕ) → bit (only f) g ≡ true → g ≡ f
unfolding only
only_one f g h = go (dec_lt f g)
  where
    go : Dec (f < g) → g ≡ f
    go (yes l) = absurd (true≢false (sym h ∙ only_high f g l))
    go (no l) = eqb-true g f (sym (bit_of_bits (suc f) (λ i. eqb i f) g (omega arith)) ∙ h)
