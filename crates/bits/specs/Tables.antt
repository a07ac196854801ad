-- Truth tables of n unknowns, as numbers of 2 ^ n bits: bit k is the truth at the setting whose unknown i is bit i of k.
use Rattle.std.specs.Prelude.{◌≡◌, ℕ, zero, suc, ◌+◌, ◌-◌, ◌^◌, ◌≤◌, ◌<◌, Bool, true, false, List, get_or}
use Rattle.model.specs.Bits.{bit, of_bits}

-- the table of an unknown
unfoldable pub unknown : ℕ → ℕ → ℕ
unfolding bit of_bits
unknown n i = of_bits (2 ^ n) (λ k. bit k i)

-- the table that is the same everywhere
unfoldable pub everywhere : ℕ → Bool → ℕ
unfolding of_bits
everywhere n b = of_bits (2 ^ n) (λ k. b)

-- a setting with unknown i made true or false
unfoldable pub with_bit : ℕ → ℕ → Bool → ℕ
unfolding bit
with_bit k i true = elim (bit k i) [ true ↦ k | false ↦ k + 2 ^ i ]
with_bit k i false = elim (bit k i) [ true ↦ k - 2 ^ i | false ↦ k ]

-- the table r with unknown i made true or false
unfoldable pub fixed : ℕ → ℕ → Bool → ℕ → ℕ
unfolding bit of_bits with_bit
fixed n i b r = of_bits (2 ^ n) (λ k. bit r (with_bit k i b))

-- the table r with the table p put for unknown i
unfoldable pub selected : ℕ → ℕ → ℕ → ℕ → ℕ
unfolding bit of_bits with_bit
selected n i p r = of_bits (2 ^ n) (λ k. bit r (with_bit k i (bit p k)))

-- the setting that n tables make at the setting k
unfoldable pub setting_at : ℕ → List ℕ → ℕ → ℕ
unfolding bit of_bits
setting_at n t k = of_bits n (λ i. bit (get_or t i 0) k)

-- the table r with each unknown replaced by its own table
unfoldable pub substituted : ℕ → List ℕ → ℕ → ℕ
unfolding bit of_bits setting_at
substituted n t r = of_bits (2 ^ n) (λ k. bit r (setting_at n t k))

-- table i of n has only the unknowns i and above
abbrev pub Upward : ℕ → List ℕ → Type 0
Upward n t =
    (i : ℕ) → i < n → (k l : ℕ) → k < 2 ^ n → l < 2 ^ n → ((j : ℕ) → i ≤ j → bit k j ≡ bit l j) → bit (get_or t i 0) k ≡ bit (get_or t i 0) l

-- the tables m - 1 to 0 put for their unknowns, the last first
unfoldable pub select_down : ℕ → ℕ → List ℕ → ℕ → ℕ
select_down n zero t r = r
select_down n (suc m) t r = select_down n m t (selected n m (get_or t m 0) r)
