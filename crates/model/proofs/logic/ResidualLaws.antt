-- Residuals as numbers: they are truth tables, the same if they agree at every setting, dead if no continuation meets them.
use mathlib.Core.Path.{◌≡◌, sym, ap, ◌∙◌}
use mathlib.Core.Logic.{◌↔◌}
use Prim.Native.Nat.{ℕ, ◌^◌, ◌<◌}
use mathlib.Core.Bool.{true, false}
use mathlib.Core.List.{List, [], ◌∷◌}
use lib.Pow.{pow_pos}
use borrow.Author.Tests.{eqb-true, eq-eqb}
use Rattle.model.specs.Bits.{bit}
use Rattle.model.specs.logic.Formula.{Formula}
use Rattle.model.specs.logic.Parts.{Part}
use Rattle.model.specs.logic.Truth.{World}
use Rattle.model.specs.logic.Progression.{residual, progressed, progressed_by, dead, residual_holds, closing}
use Rattle.model.proofs.bits.Bits.{of_bits_lt, bit_of_bits, bits_ext, bit_zero}

-- a residual is a table of 2 ^ n bits
pub residual_lt : (n : ℕ) (φ : Formula) (w : World) → residual n φ w < 2 ^ (2 ^ n)
unfolding residual
residual_lt n φ w = of_bits_lt (2 ^ n) _

-- what a residual leaves is a table of 2 ^ n bits, too
pub progressed_lt : (n : ℕ) (ps : List Part) (r : ℕ) (w : World) → progressed n ps r w < 2 ^ (2 ^ n)
unfolding progressed
progressed_lt n ps r w = of_bits_lt (2 ^ n) _

-- two residuals are the same number if every setting gives them the same truth
pub same_residual : (n r q : ℕ) → r < 2 ^ (2 ^ n) → q < 2 ^ (2 ^ n) → (r ≡ q) ↔ ((k : ℕ) → k < 2 ^ n → bit r k ≡ bit q k)
same_residual n r q hr hq = (λ e k l. ap (λ (x : ℕ). bit x k) e, bits_ext (2 ^ n) r q hr hq)

pub dead_zero : (r : ℕ) → dead r ≡ true → r ≡ 0
unfolding dead
dead_zero r d = eqb-true r 0 d

-- a dead residual is false at every setting
dead_bit : (r : ℕ) → dead r ≡ true → (k : ℕ) → bit r k ≡ false
dead_bit r d k = ap (λ (x : ℕ). bit x k) (dead_zero r d) ∙ bit_zero k

-- a table that is false at every setting is dead
none_dead : (n r : ℕ) → r < 2 ^ (2 ^ n) → ((k : ℕ) → k < 2 ^ n → bit r k ≡ false) → dead r ≡ true
unfolding dead
none_dead n r h f = eq-eqb r 0 (bits_ext (2 ^ n) r 0 h (pow_pos (2 ^ n)) (λ k l. f k l ∙ sym (bit_zero k)))

-- dead is: all settings give false
pub dead_everywhere : (n r : ℕ) → r < 2 ^ (2 ^ n) → (dead r ≡ true) ↔ ((k : ℕ) → k < 2 ^ n → bit r k ≡ false)
dead_everywhere n r h = (λ d k l. dead_bit r d k, none_dead n r h)

-- a dead residual holds of no worlds
pub dead_holds : (ps : List Part) (r : ℕ) (ws : List World) → dead r ≡ true → residual_holds ps r ws ≡ false
unfolding residual_holds
dead_holds ps r ws d = dead_bit r d _

-- what a dead residual leaves is dead
pub dead_stays : (n : ℕ) (ps : List Part) (r : ℕ) (w : World) → dead r ≡ true → dead (progressed n ps r w) ≡ true
unfolding progressed
dead_stays n ps r w d = none_dead n (progressed n ps r w) (progressed_lt n ps r w) (λ k l. bit_of_bits (2 ^ n) _ k l ∙ dead_bit r d _)

-- a dead residual is met by no continuation
pub dead_closing : (n : ℕ) (ps : List Part) (ws : List World) (r : ℕ) (c : World) → dead r ≡ true → closing ps (progressed_by n ps r ws) c ≡ false
unfolding closing progressed_by
dead_closing n ps [] r c d = dead_holds ps r (c ∷ []) d
dead_closing n ps (w ∷ ws) r c d = dead_closing n ps ws (progressed n ps r w) c (dead_stays n ps r w d)
