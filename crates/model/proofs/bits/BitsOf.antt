-- Laws of `bits_of`: the number whose bits are a test of a list's elements.
use mathlib.Core.Path.{◌≡◌, ap, ◌∙◌}
use Prim.Native.Nat.{ℕ, zero, suc, ◌+◌, ◌*◌, ◌/◌, ◌%◌, ◌^◌, ◌≤◌, ◌<◌}
use native.Mathlib.Omega.{arith}
use mathlib.Core.Bool.{Bool, true, false}
use mathlib.Core.List.{List, [], ◌∷◌}
use lib.Dec.{eqb}
use lib.ListN.{length, get_or}
use Rattle.model.specs.Bits.{bit, digit, bits_of}
use Rattle.model.proofs.bits.Bits.{bit_suc, bit_zero}

digit_half : (b : Bool) (m : ℕ) → (digit b + 2 * m) / 2 ≡ m
unfolding digit
digit_half true m = omega arith
digit_half false m = omega arith

digit_low : (b : Bool) (m : ℕ) → bit (digit b + 2 * m) 0 ≡ b
unfolding bit digit
digit_low true m = let e : (1 + 2 * m) / 1 % 2 ≡ 1 = omega arith in ap (λ (r : ℕ). eqb r 1) e
digit_low false m = let e : (0 + 2 * m) / 1 % 2 ≡ 0 = omega arith in ap (λ (r : ℕ). eqb r 1) e

module _ {A : Type 0} (f : A → Bool) where
  -- it has no more bits than the list has elements
  pub bits_of_lt : (xs : List A) → bits_of f xs < 2 ^ length xs
  unfolding bits_of digit
  bits_of_lt [] = omega arith
  bits_of_lt (x ∷ xs) = go (f x) (bits_of_lt xs)
    where
      go : (b : Bool) → bits_of f xs < 2 ^ length xs → digit b + 2 * bits_of f xs < 2 ^ suc (length xs)
      go true h = omega arith
      go false h = omega arith

  -- bit 0 is the first element's
  pub bits_of_head : (x : A) (xs : List A) → bit (bits_of f (x ∷ xs)) 0 ≡ f x
  unfolding bits_of
  bits_of_head x xs = digit_low (f x) (bits_of f xs)

  -- the other bits are the other elements'
  pub bits_of_tail : (x : A) (xs : List A) (i : ℕ) → bit (bits_of f (x ∷ xs)) (suc i) ≡ bit (bits_of f xs) i
  unfolding bits_of
  bits_of_tail x xs i = bit_suc _ i ∙ ap (λ (y : ℕ). bit y i) (digit_half (f x) (bits_of f xs))

  -- bit i is element i's, where there is one
  pub bits_of_at : (d : A) (xs : List A) (i : ℕ) → i < length xs → bit (bits_of f xs) i ≡ f (get_or xs i d)
  bits_of_at d [] i l = absurd (omega arith)
  bits_of_at d (x ∷ xs) zero l = bits_of_head x xs
  bits_of_at d (x ∷ xs) (suc i) l = bits_of_tail x xs i ∙ bits_of_at d xs i (omega arith)

  -- after the last element's there is none
  pub bits_of_past : (xs : List A) (i : ℕ) → length xs ≤ i → bit (bits_of f xs) i ≡ false
  unfolding bits_of
  bits_of_past [] i l = bit_zero i
  bits_of_past (x ∷ xs) zero l = absurd (omega arith)
  bits_of_past (x ∷ xs) (suc i) l = bits_of_tail x xs i ∙ bits_of_past xs i (omega arith)
