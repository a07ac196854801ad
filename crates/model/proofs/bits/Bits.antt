-- Laws of `bit` and `of_bits`, over the width: a number below 2 ^ n is its bits below n.
use mathlib.Core.Path.{◌≡◌, refl, sym, ap, ap₂, ◌∙◌}
use Prim.Native.Nat.{ℕ, zero, suc, ◌+◌, ◌-◌, ◌*◌, ◌/◌, ◌%◌, ◌^◌, ◌<◌}
use native.Mathlib.Nat.{add-mul-div_right, add-mul-mod_self_right, div-eq_of_lt, mul_assoc, pow-suc, div-div-eq-div-mul, mul_comm, zero-add, zero-div, div-one}
use native.Mathlib.Omega.{arith}
use native.Mathlib.Decide.{dec_lt}
use mathlib.Core.Bool.{Bool, true, false}
use lib.Dec.{eqb}
use lib.Pow.{pow_pos, pow-add}
use Rattle.model.specs.Bits.{bit, digit, of_bits}

-- a number is below 2 to any greater number
pub below_power : (x n : ℕ) → x < n → x < 2 ^ n
below_power x zero h = absurd (omega arith)
below_power zero (suc n) h = pow_pos (suc n)
below_power (suc x) (suc n) h = omega (arith, below_power x n (omega arith), pow-suc 2 n)

-- what of_bits makes of n bits is below 2 ^ n
pub of_bits_lt : (n : ℕ) (f : ℕ → Bool) → of_bits n f < 2 ^ n
unfolding of_bits digit
of_bits_lt zero f = omega arith
of_bits_lt (suc n) f = go (f n) (of_bits_lt n f)
  where
    go : (b : Bool) → of_bits n f < 2 ^ n → of_bits n f + digit b * 2 ^ n < 2 ^ suc n
    go true h = omega arith
    go false h = omega arith

-- what stands at a higher bit does not change bit i
bit_below : (x d i k : ℕ) → bit (x + d * 2 ^ (suc k + i)) i ≡ bit x i
unfolding bit
bit_below x d i k = ap (λ (y : ℕ). eqb (y % 2) 1)
    (ap (λ (y : ℕ). (x + d * y) / 2 ^ i) (pow-add 2 (suc k) i) ∙ ap (λ (y : ℕ). (x + y) / 2 ^ i) (sym (mul_assoc d (2 ^ suc k) (2 ^ i)))
    ∙ add-mul-div_right x (d * 2 ^ suc k) (pow_pos i))
    ∙ ap (λ (y : ℕ). eqb y 1)
    (ap (λ (y : ℕ). (x / 2 ^ i + y) % 2) (ap (λ (y : ℕ). d * y) (pow-suc 2 k) ∙ sym (mul_assoc d (2 ^ k) 2))
    ∙ add-mul-mod_self_right (x / 2 ^ i) (d * 2 ^ k) 2)

eqb_digit : (b : Bool) → eqb (digit b % 2) 1 ≡ b
unfolding digit
eqb_digit true = refl
eqb_digit false = refl

-- the digit put at bit n stands there
bit_at : (x n : ℕ) (b : Bool) → x < 2 ^ n → bit (x + digit b * 2 ^ n) n ≡ b
unfolding bit
bit_at x n b h = rw (add-mul-div_right x (digit b) (pow_pos n), div-eq_of_lt h, zero-add) (eqb_digit b)

-- bit i of of_bits n f is f i
pub bit_of_bits : (n : ℕ) (f : ℕ → Bool) (i : ℕ) → i < n → bit (of_bits n f) i ≡ f i
unfolding of_bits
bit_of_bits zero f i h = absurd (omega arith)
bit_of_bits (suc n) f i h = go (dec_lt i n) (bit_of_bits n f i)
  where
    go : Dec (i < n) → (i < n → bit (of_bits n f) i ≡ f i) → bit (of_bits n f + digit (f n) * 2 ^ n) i ≡ f i
    go (yes lt) ih =
        let e : suc (n - suc i) + i ≡ n = omega arith in
        ap (λ (m : ℕ). bit (of_bits n f + digit (f n) * 2 ^ m) i) (sym e) ∙ bit_below (of_bits n f) (digit (f n)) i (n - suc i) ∙ ih lt
    go (no ge) ih = let e : i ≡ n = omega arith in rw e (bit_at (of_bits n f) n (f n) (of_bits_lt n f))

-- the same bits below n make the same number
pub of_bits_cong : (n : ℕ) (f g : ℕ → Bool) → ((i : ℕ) → i < n → f i ≡ g i) → of_bits n f ≡ of_bits n g
unfolding of_bits
of_bits_cong zero f g h = refl
of_bits_cong (suc n) f g h =
    ap₂ (λ (x : ℕ) (b : Bool). x + digit b * 2 ^ n) (of_bits_cong n f g (λ i l. h i (omega arith))) (h n (omega arith))

-- bit i + 1 of a number is bit i of its half
pub bit_suc : (x i : ℕ) → bit x (suc i) ≡ bit (x / 2) i
unfolding bit
bit_suc x i = ap (λ (y : ℕ). eqb (y % 2) 1) (ap (λ (y : ℕ). x / y) (pow-suc 2 i ∙ mul_comm (2 ^ i) 2) ∙ sym (div-div-eq-div-mul x 2 (2 ^ i)))

-- no bit of 0 is set
pub bit_zero : (i : ℕ) → bit 0 i ≡ false
unfolding bit
bit_zero i = rw zero-div

-- a number below 2 is the digit of its test against 1
pub digit_of : (r : ℕ) → r < 2 → r ≡ digit (eqb r 1)
unfolding digit
digit_of zero h = refl
digit_of (suc zero) h = refl
digit_of (suc (suc r)) h = absurd (omega arith)

-- a number's lowest digit is its bit 0
low_digit : (x : ℕ) → x % 2 ≡ digit (bit x 0)
unfolding bit
low_digit x = rw div-one (digit_of (x % 2) (omega arith))

-- numbers below 2 ^ n with the same bits below n are equal
pub bits_ext : (n x y : ℕ) → x < 2 ^ n → y < 2 ^ n → ((i : ℕ) → i < n → bit x i ≡ bit y i) → x ≡ y
bits_ext zero x y hx hy h = omega arith
bits_ext (suc n) x y hx hy h =
    let q : x / 2 ≡ y / 2 = bits_ext n (x / 2) (y / 2) (omega arith) (omega arith) (λ i l. sym (bit_suc x i) ∙ h (suc i) (omega arith) ∙ bit_suc y i) in
    let r : x % 2 ≡ y % 2 = low_digit x ∙ ap digit (h 0 (omega arith)) ∙ sym (low_digit y) in
    omega arith

-- a number below 2 ^ n is the number of its bits
pub of_bits_bit : (n x : ℕ) → x < 2 ^ n → of_bits n (bit x) ≡ x
of_bits_bit n x h = bits_ext n (of_bits n (bit x)) x (of_bits_lt n (bit x)) h (bit_of_bits n (bit x))
