-- Bits of complements and of shifted numbers, over the width.
use Rattle.std.proofs.Common.{◌≡◌, refl, sym, ap, ◌∙◌, ℕ, zero, suc, ◌+◌, ◌-◌, ◌*◌, ◌/◌, ◌%◌, ◌^◌, ◌≤◌, ◌<◌, Bool, true, false, not, eqb, arith}
use Rattle.std.proofs.Math.Nat.{pow-suc, mul_assoc, lt_of_lt_of_le, add-mul-div_right, div-eq_of_lt}
use Rattle.std.proofs.Math.Pow.{pow_pos, pow-add, pow_mono, shr-shr, shl-shr, field, mod-mod-pow}
use Rattle.model.specs.Bits.{bit, digit, of_bits}
use Rattle.model.proofs.bits.Bits.{of_bits_lt, bit_of_bits, of_bits_bit}

-- the complement of a number is the number of the negated bits
not_of_bits : (n : ℕ) (f : ℕ → Bool) → (2 ^ n - 1) - of_bits n f ≡ of_bits n (λ i. not (f i))
unfolding of_bits digit
not_of_bits zero f = refl
not_of_bits (suc n) f = go (f n) (not_of_bits n f) (of_bits_lt n f)
  where
    go : (b : Bool) → (2 ^ n - 1) - of_bits n f ≡ of_bits n (λ i. not (f i)) → of_bits n f < 2 ^ n
        → (2 ^ suc n - 1) - (of_bits n f + digit b * 2 ^ n) ≡ of_bits n (λ i. not (f i)) + digit (not b) * 2 ^ n
    go true e l = omega arith
    go false e l = omega arith

pub bit_not : (n x k : ℕ) → x < 2 ^ n → k < n → bit ((2 ^ n - 1) - x) k ≡ not (bit x k)
bit_not n x k hx hk =
    ap (λ (y : ℕ). bit ((2 ^ n - 1) - y) k) (sym (of_bits_bit n x hx)) ∙ ap (λ (y : ℕ). bit y k) (not_of_bits n (bit x))
    ∙ bit_of_bits n (λ i. not (bit x i)) k hk

-- a number below 2 ^ n has no bit n or above
pub bit_high : (n x k : ℕ) → x < 2 ^ n → n ≤ k → bit x k ≡ false
unfolding bit
bit_high n x k hx hk = ap (λ (y : ℕ). eqb (y % 2) 1) (div-eq_of_lt (lt_of_lt_of_le hx (pow_mono hk)))

-- shifted down
pub bit_shr : (x s k : ℕ) → bit (x / 2 ^ s) k ≡ bit x (s + k)
unfolding bit
bit_shr x s k = ap (λ (y : ℕ). eqb (y % 2) 1) (shr-shr x s k)

-- the bits below n stay when a number is cut to n bits
pub bit_mod : (n x k : ℕ) → k < n → bit (x % 2 ^ n) k ≡ bit x k
unfolding bit
bit_mod n x k h =
    let e : n ≡ suc (n - suc k) + k = omega arith in
    let f : suc (n - suc k) ≡ (n - suc k) + 1 = omega arith in
    ap (λ (y : ℕ). eqb (y % 2) 1) (ap (λ (m : ℕ). x % 2 ^ m / 2 ^ k) e ∙ field x (suc (n - suc k)) k)
    ∙ ap (λ (y : ℕ). eqb y 1) (ap (λ (m : ℕ). x / 2 ^ k % 2 ^ m % 2) f ∙ mod-mod-pow (x / 2 ^ k) (n - suc k) 1)

-- shifted up
pub bit_shl : (x s k : ℕ) → bit (x * 2 ^ s) (s + k) ≡ bit x k
unfolding bit
bit_shl x s k = ap (λ (y : ℕ). eqb (y % 2) 1) (sym (shr-shr (x * 2 ^ s) s k) ∙ ap (λ (y : ℕ). y / 2 ^ k) (shl-shr x s))

pub bit_shl_low : (x s k : ℕ) → k < s → bit (x * 2 ^ s) k ≡ false
unfolding bit
bit_shl_low x s k h =
    let e : s ≡ suc (s - suc k) + k = omega arith in
    let p : x * 2 ^ s / 2 ^ k ≡ x * 2 ^ (s - suc k) * 2 =
    ap (λ (m : ℕ). x * 2 ^ m / 2 ^ k) e
    ∙ ap (λ (y : ℕ). x * y / 2 ^ k) (pow-add 2 (suc (s - suc k)) k)
    ∙ ap (λ (y : ℕ). y / 2 ^ k) (sym (mul_assoc x (2 ^ suc (s - suc k)) (2 ^ k)))
    ∙ shl-shr (x * 2 ^ suc (s - suc k)) k
    ∙ ap (λ (y : ℕ). x * y) (pow-suc 2 (s - suc k)) ∙ sym (mul_assoc x (2 ^ (s - suc k)) 2) in
    let q : x * 2 ^ s / 2 ^ k % 2 ≡ 0 = omega arith in
    ap (λ (y : ℕ). eqb y 1) q

-- adding 2 ^ i turns bit i over
pub bit_add : (k i : ℕ) → bit (k + 2 ^ i) i ≡ not (bit k i)
unfolding bit
bit_add k i =
    let e : (k + 2 ^ i) / 2 ^ i ≡ k / 2 ^ i + 1 = ap (λ (y : ℕ). (k + y) / 2 ^ i) (omega arith) ∙ add-mul-div_right k 1 (pow_pos i) in
    ap (λ (y : ℕ). eqb (y % 2) 1) e ∙ turned (k / 2 ^ i)
  where
    turned : (q : ℕ) → eqb ((q + 1) % 2) 1 ≡ not (eqb (q % 2) 1)
    turned q = go (q % 2) refl (omega arith)
      where
        go : (r : ℕ) → q % 2 ≡ r → r < 2 → eqb ((q + 1) % 2) 1 ≡ not (eqb (q % 2) 1)
        go zero e h = let p : (q + 1) % 2 ≡ 1 = omega arith in rw (p, e)
        go (suc zero) e h = let p : (q + 1) % 2 ≡ 0 = omega arith in rw (p, e)
        go (suc (suc r)) e h = absurd (omega arith)
