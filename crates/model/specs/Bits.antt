-- Bits of numbers, and numbers in bytes.
use Rattle.std.specs.Prelude.{ℕ, zero, suc, ◌+◌, ◌*◌, ◌/◌, ◌%◌, ◌^◌, Bool, true, false, drop, eqb}
use mathlib.Core.List.{List, [], ◌∷◌}

-- bit i of x
unfoldable pub bit : ℕ → ℕ → Bool
bit x i = eqb (x / 2 ^ i % 2) 1

unfoldable pub digit : Bool → ℕ
digit true = 1
digit false = 0

-- the number below 2 ^ n whose bit i is f i
unfoldable pub of_bits : ℕ → (ℕ → Bool) → ℕ
unfolding digit
of_bits zero f = 0
of_bits (suc n) f = of_bits n f + digit (f n) * 2 ^ n

-- the number whose bit i is f of the i-th element
module _ {A : Type 0} (f : A → Bool) where
  unfoldable pub bits_of : List A → ℕ
  unfolding digit
  bits_of [] = 0
  bits_of (x ∷ xs) = digit (f x) + 2 * bits_of xs

-- the number of n bytes at the front of a list; "byte order is little-endian"
unfoldable pub number : ℕ → List ℕ → ℕ
number zero bytes = 0
number (suc n) [] = 0
number (suc n) (b ∷ bytes) = b + 256 * number n bytes

unfoldable pub number_at : ℕ → List ℕ → ℕ → ℕ
unfolding number
number_at n bytes at = number n (drop at bytes)
