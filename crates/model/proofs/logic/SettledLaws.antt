-- A residual that is the same at every setting stays as it is, and the closing world does not change its truth.
use mathlib.Core.Path.{◌≡◌, refl, sym, ap, ◌∙◌}
use Prim.Native.Nat.{ℕ, zero, suc, ◌-◌, ◌^◌, ◌<◌, ◌≤◌}
use native.Mathlib.Nat.{lt_of_lt_of_le}
use native.Mathlib.Omega.{arith}
use mathlib.Core.Bool.{Bool, true, false, not, ◌||◌}
use mathlib.Core.List.{List, [], ◌∷◌}
use lib.Dec.{eqb}
use lib.ListN.{length}
use lib.Pow.{pow_pos, pow_mono}
use borrow.Author.Tests.{eqb-true}
use Rattle.model.specs.Bits.{bit, digit, of_bits, bits_of}
use Rattle.model.specs.logic.Parts.{Part}
use Rattle.model.specs.logic.Truth.{World, holds}
use Rattle.model.specs.logic.Progression.{progress, progressed, dead, all_true, settled, residual_holds, closing}
use Rattle.model.proofs.bits.Bits.{bit_of_bits, of_bits_cong}
use Rattle.model.proofs.bits.BitsOf.{bits_of_lt}
use Rattle.model.proofs.logic.ResidualLaws.{dead_zero, dead_stays, dead_holds}

-- the number whose m bits are all set
ones : (m : ℕ) → of_bits m (λ k. true) ≡ 2 ^ m - 1
unfolding of_bits digit
ones zero = refl
ones (suc m) = let e : of_bits m (λ k. true) ≡ 2 ^ m - 1 = ones m in omega (arith, e, pow_pos m)

ones_bit : (m k : ℕ) → k < m → bit (2 ^ m - 1) k ≡ true
ones_bit m k h = ap (λ (x : ℕ). bit x k) (sym (ones m)) ∙ bit_of_bits m (λ i. true) k h

module _ (n : ℕ) (ps : List Part) (few : length ps ≤ n) where
  -- every setting of the parts is one of the table
  setting_true : (f : Part → Bool) → bit (all_true n) (bits_of f ps) ≡ true
  setting_true f = ones_bit (2 ^ n) (bits_of f ps) (lt_of_lt_of_le (bits_of_lt f ps) (pow_mono few))

  true_stays : (w : World) → progressed n ps (all_true n) w ≡ all_true n
  unfolding progressed
  true_stays w = of_bits_cong (2 ^ n) _ (λ k. true) (λ k l. setting_true (λ (p : Part). progress p.shape p.first w (bit k))) ∙ ones (2 ^ n)

  true_closing : (w : World) → closing ps (all_true n) w ≡ true
  unfolding closing residual_holds
  true_closing w = setting_true (λ (p : Part). holds p.shape (w ∷ []))

  pub settled_stays : (r : ℕ) (w : World) → settled n r ≡ true → progressed n ps r w ≡ r
  unfolding settled
  settled_stays r w h = go (dead r) refl h
    where
      go : (b : Bool) → dead r ≡ b → b || eqb r (all_true n) ≡ true → progressed n ps r w ≡ r
      go true d e = dead_zero _ (dead_stays n ps r w d) ∙ sym (dead_zero r d)
      go false d e = let a : r ≡ all_true n = eqb-true r (all_true n) e in rw a (true_stays w)

  pub settled_closing : (r : ℕ) (w : World) → settled n r ≡ true → closing ps r w ≡ not (dead r)
  unfolding settled closing
  settled_closing r w h = go (dead r) refl h
    where
      go : (b : Bool) → dead r ≡ b → b || eqb r (all_true n) ≡ true → closing ps r w ≡ not b
      go true d e = dead_holds ps r _ d
      go false d e = let a : r ≡ all_true n = eqb-true r (all_true n) e in rw a (true_closing w)
