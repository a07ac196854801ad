-- Whether a number of 64 bits has no bit at or above n, as the code tests it.
use Rattle.std.proofs.Common.{◌≡◌, ℕ, ◌/◌, ◌^◌, ◌*◌, ◌≤◌, ◌<◌, arith, le-div_iff_mul-le, eqb, ltb, pow_pos, lt-ltb, le-ltb, ne_eqb}
use Rattle.std.proofs.Math.Decide.{dec_lt}
use Rattle.std.proofs.Math.Nat.{div-eq_of_lt}

-- Nothing is left of it above its lowest n bits.
pub none_above : (x n : ℕ) → eqb (x / 2 ^ n) 0 ≡ ltb x (2 ^ n)
none_above x n = go (dec_lt x (2 ^ n))
  where
    go : Dec (x < 2 ^ n) → eqb (x / 2 ^ n) 0 ≡ ltb x (2 ^ n)
    go (yes l) = rw (lt-ltb x (2 ^ n) l, div-eq_of_lt l)
    go (no l) =
        let h : 1 * 2 ^ n ≤ x = omega arith in
        let q : 1 ≤ x / 2 ^ n = (le-div_iff_mul-le (pow_pos n)).1 h in
        rw (le-ltb x (2 ^ n) (omega arith), ne_eqb (x / 2 ^ n) 0 (λ e. omega arith))
