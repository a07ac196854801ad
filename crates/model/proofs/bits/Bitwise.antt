-- The machine's `&` and `|` of numbers (lib.Bits) against their bits. `or` below 2 ^ n is lib.Bits.or_lt.
use mathlib.Core.Path.{◌≡◌, refl, sym, ap, ◌∙◌}
use Prim.Native.Nat.{ℕ, zero, suc, ◌+◌, ◌/◌, ◌%◌, ◌^◌, ◌<◌}
use native.Mathlib.Nat.{lt_of_le_of_lt}
use native.Mathlib.Omega.{arith}
use mathlib.Core.Bool.{Bool, ◌&&◌, ◌||◌, or_assoc}
use lib.Dec.{eqb}
use lib.Bits.{bit_and, bit_or, and_shr, and_mod, and_le_l, or_shr, or_mod, or_lt}
use Rattle.model.specs.Bits.{bit}
use Rattle.model.proofs.bits.Bits.{bits_ext, below_power}

and_digit : (x y : ℕ) → x < 2 → y < 2 → eqb (bit_and x y) 1 ≡ eqb x 1 && eqb y 1
and_digit zero y hx hy = refl
and_digit (suc zero) zero hx hy = refl
and_digit (suc zero) (suc zero) hx hy = refl
and_digit (suc zero) (suc (suc y)) hx hy = absurd (omega arith)
and_digit (suc (suc x)) y hx hy = absurd (omega arith)

or_digit : (x y : ℕ) → x < 2 → y < 2 → eqb (bit_or x y) 1 ≡ eqb x 1 || eqb y 1
or_digit zero y hx hy = refl
or_digit (suc zero) zero hx hy = refl
or_digit (suc zero) (suc zero) hx hy = refl
or_digit (suc zero) (suc (suc y)) hx hy = absurd (omega arith)
or_digit (suc (suc x)) y hx hy = absurd (omega arith)

-- `&` goes by bits
pub bit_and_lem : (x y i : ℕ) → bit (bit_and x y) i ≡ bit x i && bit y i
unfolding bit
bit_and_lem x y i =
    ap (λ (z : ℕ). eqb (z % 2) 1) (and_shr x y i) ∙ ap (λ (z : ℕ). eqb z 1) (and_mod (x / 2 ^ i) (y / 2 ^ i) 1)
    ∙ and_digit (x / 2 ^ i % 2) (y / 2 ^ i % 2) (omega arith) (omega arith)

-- `|` goes by bits
pub bit_or_lem : (x y i : ℕ) → bit (bit_or x y) i ≡ bit x i || bit y i
unfolding bit
bit_or_lem x y i =
    ap (λ (z : ℕ). eqb (z % 2) 1) (or_shr x y i) ∙ ap (λ (z : ℕ). eqb z 1) (or_mod (x / 2 ^ i) (y / 2 ^ i) 1)
    ∙ or_digit (x / 2 ^ i % 2) (y / 2 ^ i % 2) (omega arith) (omega arith)

-- a number of n bits stays one under `&`
pub and_lt : (n x y : ℕ) → x < 2 ^ n → bit_and x y < 2 ^ n
and_lt n x y h = lt_of_le_of_lt (and_le_l x y) h

-- `|` can be taken in any order, as `||` of each bit
pub bit_or_assoc : (x y z : ℕ) → bit_or (bit_or x y) z ≡ bit_or x (bit_or y z)
bit_or_assoc x y z =
    let n : ℕ = suc (x + y + z) in
    let a : x < 2 ^ n = below_power x n (omega arith) in
    let b : y < 2 ^ n = below_power y n (omega arith) in
    let c : z < 2 ^ n = below_power z n (omega arith) in
    bits_ext n _ _ (or_lt n (bit_or x y) z (or_lt n x y a b) c) (or_lt n x (bit_or y z) a (or_lt n y z b c))
    (λ i l. bit_or_lem (bit_or x y) z i ∙ ap (λ (t : Bool). t || bit z i) (bit_or_lem x y i) ∙ or_assoc (bit x i) (bit y i) (bit z i)
    ∙ sym (bit_or_lem x (bit_or y z) i ∙ ap (λ (t : Bool). bit x i || t) (bit_or_lem y z i)))
