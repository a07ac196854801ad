-- The set of the numbers below n of which something holds, made from the last one on: its number is what its bits are.
use Rattle.std.proofs.Common.{◌≡◌, sym, ap, ◌∙◌, ℕ, suc, ◌+◌, ◌-◌, ◌*◌, ◌/◌, ◌%◌, ◌^◌, ◌≤◌, ◌<◌, lt_of_lt_of_le, arith, pow-suc, pow_mono, pow_pos, Bool, true}
use Rattle.std.proofs.Common.{false, eqb, List, length, get_or}
use Rattle.std.proofs.Math.Decide.{dec_lt}
use Rattle.std.specs.Int.{from_bool}
use Rattle.model.specs.Bits.{bit, bits_of}
use Rattle.model.proofs.bits.Bits.{bits_ext, bit_suc}
use Rattle.model.proofs.bits.BitsOf.{bits_of_lt, bits_of_at}

-- One more bit is below the others.
put_here : (b : Bool) (x : ℕ) → bit (from_bool b + 2 * x) 0 ≡ b
unfolding bit
put_here true x = let e : (1 + 2 * x) / 1 % 2 ≡ 1 = omega arith in ap (λ (r : ℕ). eqb r 1) e
put_here false x = let e : (0 + 2 * x) / 1 % 2 ≡ 0 = omega arith in ap (λ (r : ℕ). eqb r 1) e

put_there : (b : Bool) (x k : ℕ) → bit (from_bool b + 2 * x) (suc k) ≡ bit x k
put_there b x k = bit_suc (from_bool b + 2 * x) k ∙ ap (λ (y : ℕ). bit y k) (half b)
  where
    half : (b : Bool) → (from_bool b + 2 * x) / 2 ≡ x
    half true = omega arith
    half false = omega arith

pub one_bit : (b : Bool) → from_bool b < 2
one_bit true = omega arith
one_bit false = omega arith

-- P k b says that b may be the bit of k.
module _ (P : ℕ → Bool → Type 0) (n : ℕ) where
  -- x has the bits of those from i on.
  pub record SetFrom (i x : ℕ) : Type 0 where
    pub below : x < 2 ^ (n - i)
    pub bits : (k : ℕ) → i ≤ k → k < n → P k (bit x (k - i))

  pub set_none : SetFrom n 0
  set_none = record { below = pow_pos (n - n); bits = λ k l m. absurd (omega arith) }

  pub set_more : (i x : ℕ) (b : Bool) → SetFrom i x → 0 < i → i ≤ n → P (i - 1) b → SetFrom (i - 1) (from_bool b + 2 * x)
  set_more i x b s l m p = record {
    below = let e : n - (i - 1) ≡ suc (n - i) = omega arith in rw e (omega (arith, one_bit b, s.below, pow-suc 2 (n - i)));
    bits = λ k h u. go k h u (dec_lt k i);
  }
    where
      go : (k : ℕ) → i - 1 ≤ k → k < n → Dec (k < i) → P k (bit (from_bool b + 2 * x) (k - (i - 1)))
      go k h u (yes lt) =
          let e : k ≡ i - 1 = omega arith in
          let z : k - (i - 1) ≡ 0 = omega arith in
          rw (z, put_here b x, e) p
      go k h u (no ge) =
          let z : k - (i - 1) ≡ suc (k - i) = omega arith in
          rw (z, put_there b x (k - i)) (s.bits k (omega arith) u)

  -- Before the last of 64 bits there is room.
  pub set_room : (i x : ℕ) → SetFrom i x → n ≤ 64 → 0 < i → x < 2 ^ 63
  set_room i x s h l = let few : n - i ≤ 63 = omega arith in lt_of_lt_of_le s.below (pow_mono few)

  pub set_below : (i x : ℕ) → SetFrom i x → i ≡ 0 → x < 2 ^ n
  set_below i x s z = let e : n - i ≡ n = omega arith in rw e at s.below

  pub set_bits : (i x : ℕ) → SetFrom i x → i ≡ 0 → (k : ℕ) → k < n → P k (bit x k)
  set_bits i x s z k l = let e : k - i ≡ k = omega arith in rw e at (s.bits k (omega arith) l)

-- A set with a bit for each of a list's elements is the number whose bits are a test of them, if each bit is the test of its element.
pub set_of_list : {A : Type 0} (f : A → Bool) (d : A) (xs : List A) {n : ℕ} → length xs ≡ n → (x : ℕ) → x < 2 ^ n
    → ((i : ℕ) → i < n → bit x i ≡ f (get_or xs i d)) → x ≡ bits_of f xs
set_of_list f d xs {n} e x h b = bits_ext n _ _ h (rw e at (bits_of_lt f xs)) (λ i l. b i l ∙ sym (bits_of_at f d xs i (rw e l)))

-- By these the loop that makes a set begins and ends right, and there is room for each bit.
pub ruleset sets = (set_none, set_room, set_below, one_bit)
