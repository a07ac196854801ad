-- Laws of truth tables of n unknowns: one unknown made true or false, or replaced by a table.
use Rattle.std.proofs.Common.{◌≡◌, refl, sym, ap, ap₂, ◌∙◌, ℕ, suc, ◌+◌, ◌-◌, ◌*◌, ◌/◌, ◌%◌, ◌^◌, ◌≤◌, ◌<◌, Bool, true, false, not, ◌&&◌, ◌||◌, bit_and, bit_or}
use Rattle.std.proofs.Common.{arith}
use Rattle.std.proofs.Math.Decide.{dec_lt}
use borrow.Author.Tests.{eqb-false}
use Rattle.std.proofs.Math.Bool.{and-false, and-true, or-false, and_comm, false≢true}
use Rattle.std.proofs.Math.Nat.{pow-suc, add_comm, mod-lt, add-mul-div_right}
use Rattle.std.proofs.Math.Pow.{pow_pos, pow-add, shr_lt, shr_mono, shr_le, shl-shr, ones_sub-lt}
use Rattle.std.specs.Int.Bits.{or_lt}
use Rattle.model.specs.Bits.{bit}
use Rattle.model.proofs.bits.Bits.{of_bits_lt, bit_of_bits, bits_ext}
use Rattle.model.proofs.bits.Bitwise.{bit_and_lem, bit_or_lem, and_lt}
use Rattle.bits.specs.Tables.{unknown, with_bit, fixed, selected}
use Rattle.bits.proofs.BitLaws.{bit_not, bit_high, bit_shr, bit_mod, bit_shl, bit_shl_low, bit_add}

-- a setting in which unknown i is false has a place for it below 2 ^ n
pub room : (n i k : ℕ) → i < n → k < 2 ^ n → bit k i ≡ false → k + 2 ^ i < 2 ^ n
unfolding bit
room n i k hi hk e =
    let d : n ≡ suc (n - suc i) + i = omega arith in
    let two : 2 ^ suc (n - suc i) ≡ 2 ^ (n - suc i) * 2 = pow-suc 2 (n - suc i) in
    let p : 2 ^ n ≡ 2 ^ suc (n - suc i) * 2 ^ i = ap (λ (m : ℕ). 2 ^ m) d ∙ pow-add 2 (suc (n - suc i)) i in
    let q : k / 2 ^ i < 2 ^ suc (n - suc i) = shr_lt (suc (n - suc i)) i (rw (← d) hk) in
    let even : k / 2 ^ i % 2 ≡ 1 → ⊥ = eqb-false (k / 2 ^ i % 2) 1 e in
    let s : (k + 2 ^ i) / 2 ^ i ≡ k / 2 ^ i + 1 = ap (λ (y : ℕ). (k + y) / 2 ^ i) (omega arith) ∙ add-mul-div_right k 1 (pow_pos i) in
    go (dec_lt (k + 2 ^ i) (2 ^ n)) p q even s two
  where
    go : Dec (k + 2 ^ i < 2 ^ n) → 2 ^ n ≡ 2 ^ suc (n - suc i) * 2 ^ i → k / 2 ^ i < 2 ^ suc (n - suc i) → (k / 2 ^ i % 2 ≡ 1 → ⊥)
        → (k + 2 ^ i) / 2 ^ i ≡ k / 2 ^ i + 1 → 2 ^ suc (n - suc i) ≡ 2 ^ (n - suc i) * 2 → k + 2 ^ i < 2 ^ n
    go (yes l) p q even s two = l
    go (no g) p q even s two =
        let m : 2 ^ n / 2 ^ i ≤ (k + 2 ^ i) / 2 ^ i = shr_mono i (omega arith) in
        let t : 2 ^ n / 2 ^ i ≡ 2 ^ suc (n - suc i) = ap (λ (y : ℕ). y / 2 ^ i) p ∙ shl-shr (2 ^ suc (n - suc i)) i in
        absurd (even (omega arith))

-- what a setting with unknown i made true or false is
with_true_on : (k i : ℕ) → bit k i ≡ true → with_bit k i true ≡ k
unfolding with_bit
with_true_on k i e = rw (e, with_bit)

with_true_off : (k i : ℕ) → bit k i ≡ false → with_bit k i true ≡ k + 2 ^ i
unfolding with_bit
with_true_off k i e = rw (e, with_bit)

with_false_on : (k i : ℕ) → bit k i ≡ true → with_bit k i false ≡ k - 2 ^ i
unfolding with_bit
with_false_on k i e = rw (e, with_bit)

with_false_off : (k i : ℕ) → bit k i ≡ false → with_bit k i false ≡ k
unfolding with_bit
with_false_off k i e = rw (e, with_bit)

-- a setting with bit i is at least 2 ^ i
pub on_least : (k i : ℕ) → bit k i ≡ true → 2 ^ i ≤ k
on_least k i e = go (dec_lt k (2 ^ i))
  where
    go : Dec (k < 2 ^ i) → 2 ^ i ≤ k
    go (yes l) = absurd (false≢true (sym (bit_high i k i l (omega arith)) ∙ e))
    go (no g) = omega arith

module _ (n i r : ℕ) (hi : i < n) (hr : r < 2 ^ (2 ^ n)) where
  abbrev m : ℕ
  m = unknown n i

  m_lt : m < 2 ^ (2 ^ n)
  unfolding unknown
  m_lt = of_bits_lt (2 ^ n) _

  m_bit : (k : ℕ) → k < 2 ^ n → bit m k ≡ bit k i
  unfolding unknown
  m_bit k h = bit_of_bits (2 ^ n) _ k h

  -- the table of an unknown, where the unknown was turned over by adding its distance
  m_next : (k : ℕ) → bit k i ≡ true → bit m (2 ^ i + k) ≡ false
  m_next k e = go (dec_lt (2 ^ i + k) (2 ^ n))
    where
      go : Dec (2 ^ i + k < 2 ^ n) → bit m (2 ^ i + k) ≡ false
      go (yes l) = m_bit (2 ^ i + k) l ∙ ap (λ (x : ℕ). bit x i) (add_comm (2 ^ i) k) ∙ bit_add k i ∙ ap not e
      go (no g) = bit_high (2 ^ n) m (2 ^ i + k) m_lt (omega arith)

  -- the settings where unknown i is true, each put where it is false too
  pub fixed_true : bit_or (bit_and r m) (bit_and r m / 2 ^ (2 ^ i)) ≡ fixed n i true r
  unfolding fixed
  fixed_true = bits_ext (2 ^ n) _ _
      (or_lt (2 ^ n) (bit_and r m) (bit_and r m / 2 ^ (2 ^ i)) low (omega (arith, low, shr_le (bit_and r m) (2 ^ i))))
      (of_bits_lt (2 ^ n) _) (λ k h. at_bit k h ∙ sym (bit_of_bits (2 ^ n) _ k h))
    where
      low : bit_and r m < 2 ^ (2 ^ n)
      low = and_lt (2 ^ n) r m hr

      go : (k : ℕ) → k < 2 ^ n → (b : Bool) → bit k i ≡ b → (bit r k && b) || (bit r (2 ^ i + k) && bit m (2 ^ i + k)) ≡ bit r (with_bit k i true)
      go k h true e = rw (m_next k e, and-false, or-false, and-true, with_true_on k i e)
      go k h false e =
          let l : 2 ^ i + k < 2 ^ n = omega (arith, room n i k hi h e) in
          let b : bit m (2 ^ i + k) ≡ true = m_bit (2 ^ i + k) l ∙ ap (λ (x : ℕ). bit x i) (add_comm (2 ^ i) k) ∙ bit_add k i ∙ ap not e in
          rw (b, and-false, and-true, with_true_off k i e, add_comm (2 ^ i) k)

      at_bit : (k : ℕ) → k < 2 ^ n → bit (bit_or (bit_and r m) (bit_and r m / 2 ^ (2 ^ i))) k ≡ bit r (with_bit k i true)
      at_bit k h =
          bit_or_lem (bit_and r m) (bit_and r m / 2 ^ (2 ^ i)) k
          ∙ ap₂ ◌||◌ (bit_and_lem r m k ∙ ap (λ (b : Bool). bit r k && b) (m_bit k h)) (bit_shr (bit_and r m) (2 ^ i) k ∙ bit_and_lem r m (2 ^ i + k))
          ∙ go k h (bit k i) refl

  -- the settings where unknown i is false
  abbrev f : ℕ
  f = bit_and r ((2 ^ (2 ^ n) - 1) - m)

  f_bit : (k : ℕ) → k < 2 ^ n → bit f k ≡ bit r k && not (bit k i)
  f_bit k h = bit_and_lem r ((2 ^ (2 ^ n) - 1) - m) k ∙ ap (λ (b : Bool). bit r k && b) (bit_not (2 ^ n) m k m_lt h ∙ ap not (m_bit k h))

  -- a setting below k by the distance of unknown i, where there is one
  f_before : (k : ℕ) → k < 2 ^ n → (b : Bool) → bit k i ≡ b → bit ((f * 2 ^ (2 ^ i)) % 2 ^ (2 ^ n)) k ≡ b && bit r (k - 2 ^ i)
  f_before k h b e = bit_mod (2 ^ n) (f * 2 ^ (2 ^ i)) k h ∙ go (dec_lt k (2 ^ i)) b e
    where
      go : Dec (k < 2 ^ i) → (b : Bool) → bit k i ≡ b → bit (f * 2 ^ (2 ^ i)) k ≡ b && bit r (k - 2 ^ i)
      go (yes l) true e = absurd (false≢true (sym (bit_high i k i l (omega arith)) ∙ e))
      go (yes l) false e = bit_shl_low f (2 ^ i) k l
      go (no g) b e =
          let d : k ≡ 2 ^ i + (k - 2 ^ i) = omega arith in
          let t : bit k i ≡ not (bit (k - 2 ^ i) i) = ap (λ (x : ℕ). bit x i) (d ∙ add_comm (2 ^ i) (k - 2 ^ i)) ∙ bit_add (k - 2 ^ i) i in
          let u : not (bit (k - 2 ^ i) i) ≡ b = sym t ∙ e in
          ap (bit (f * 2 ^ (2 ^ i))) d ∙ bit_shl f (2 ^ i) (k - 2 ^ i) ∙ f_bit (k - 2 ^ i) (omega arith) ∙ rw u (and_comm (bit r (k - 2 ^ i)) b)

  -- each put where unknown i is true too
  pub fixed_false : bit_or f ((f * 2 ^ (2 ^ i)) % 2 ^ (2 ^ n)) ≡ fixed n i false r
  unfolding fixed
  fixed_false = bits_ext (2 ^ n) _ _
      (or_lt (2 ^ n) f ((f * 2 ^ (2 ^ i)) % 2 ^ (2 ^ n)) (and_lt (2 ^ n) r _ hr) (mod-lt (f * 2 ^ (2 ^ i)) (pow_pos (2 ^ n))))
      (of_bits_lt (2 ^ n) _) (λ k h. at_bit k h ∙ sym (bit_of_bits (2 ^ n) _ k h))
    where
      go : (k : ℕ) (b : Bool) → bit k i ≡ b → (bit r k && not b) || (b && bit r (k - 2 ^ i)) ≡ bit r (with_bit k i false)
      go k true e = rw (and-false, with_false_on k i e)
      go k false e = rw (and-true, or-false, with_false_off k i e)

      at_bit : (k : ℕ) → k < 2 ^ n → bit (bit_or f ((f * 2 ^ (2 ^ i)) % 2 ^ (2 ^ n))) k ≡ bit r (with_bit k i false)
      at_bit k h =
          bit_or_lem f ((f * 2 ^ (2 ^ i)) % 2 ^ (2 ^ n)) k ∙ ap₂ ◌||◌ (f_bit k h) (f_before k h (bit k i) refl) ∙ go k (bit k i) refl

-- where p is true the one, where it is false the other
pub select_law : (n i p r : ℕ) → p < 2 ^ (2 ^ n)
    → bit_or (bit_and p (fixed n i true r)) (bit_and ((2 ^ (2 ^ n) - 1) - p) (fixed n i false r)) ≡ selected n i p r
unfolding fixed selected
select_law n i p r hp = bits_ext (2 ^ n) _ _
    (or_lt (2 ^ n) _ _ (and_lt (2 ^ n) p _ hp) (and_lt (2 ^ n) _ _ (ones_sub-lt (2 ^ n) p)))
    (of_bits_lt (2 ^ n) _) (λ k h. at_bit k h ∙ sym (bit_of_bits (2 ^ n) _ k h))
  where
    go : (k : ℕ) (b : Bool) → (b && bit r (with_bit k i true)) || (not b && bit r (with_bit k i false)) ≡ bit r (with_bit k i b)
    go k true = or-false (bit r (with_bit k i true))
    go k false = refl

    at_bit : (k : ℕ) → k < 2 ^ n
        → bit (bit_or (bit_and p (fixed n i true r)) (bit_and ((2 ^ (2 ^ n) - 1) - p) (fixed n i false r))) k ≡ bit r (with_bit k i (bit p k))
    at_bit k h =
        bit_or_lem (bit_and p (fixed n i true r)) (bit_and ((2 ^ (2 ^ n) - 1) - p) (fixed n i false r)) k
        ∙ ap₂ ◌||◌ (bit_and_lem p (fixed n i true r) k ∙ ap (λ (b : Bool). bit p k && b) (bit_of_bits (2 ^ n) _ k h))
        (bit_and_lem ((2 ^ (2 ^ n) - 1) - p) (fixed n i false r) k ∙ ap₂ ◌&&◌ (bit_not (2 ^ n) p k hp h) (bit_of_bits (2 ^ n) _ k h))
        ∙ go k (bit p k)
