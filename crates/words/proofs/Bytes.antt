-- What the library reads from eight bytes and writes to them, of which the first n are a number's.
use Rattle.std.proofs.Common.{◌≡◌, refl, ◌∙◌, ℕ, zero, suc, ◌+◌, ◌-◌, ◌*◌, ◌/◌, ◌%◌, ◌^◌, ◌≤◌, ◌<◌, List, [], ◌∷◌, ◌++◌, length, get_or, set, take, drop}
use Rattle.std.proofs.Common.{ap, arith, replicate, pow-suc, append_assoc, length-take-le, drop-drop, w8, w64, Fits}
use Rattle.std.proofs.lemmas.List.{set-get_or, drop-replicate, length-replicate, length-append, length-drop, get_or-drop}
use Rattle.std.proofs.lemmas.List.Edits.{sets, sets-eq}
use Rattle.std.specs.Int.{from_le_bytes, to_le_bytes}
use borrow.Rule.Slice.PartMut.{put_mid}
use Rattle.model.specs.Bits.{number, number_at}
use Rattle.words.specs.Digits.{digits, eight, front}
use Rattle.words.specs.Laws.{eight_bytes, length_digits}

-- ---- reading

zeros : (m : ℕ) → number m (replicate m 0) ≡ 0
unfolding number
zeros zero = refl
zeros (suc m) = omega (arith, zeros m)

-- Zeros after a number's bytes change nothing.
number_padded : (n m : ℕ) (l : List ℕ) → n ≤ m → n ≤ length l → number m (take n l ++ replicate (m - n) 0) ≡ number n l
unfolding number
number_padded zero m l h f = let e : m - 0 ≡ m = omega arith in rw e (zeros m)
number_padded (suc n) zero l h f = absurd (omega arith)
number_padded (suc n) (suc m) [] h f = absurd (omega arith)
number_padded (suc n) (suc m) (b ∷ l) h f =
    let e : suc m - suc n ≡ m - n = omega arith in
    rw e (ap (λ (x : ℕ). b + 256 * x) (number_padded n m l (omega arith) (omega arith)))

number_small : (n : ℕ) (l : List ℕ) → ((i : ℕ) → get_or l i 0 < 256) → number n l < 256 ^ n
unfolding number
number_small zero l small = omega arith
number_small (suc n) [] small = omega (arith, pow-suc 256 n, number_small n [] small)
number_small (suc n) (b ∷ l) small = omega (arith, pow-suc 256 n, small 0, number_small n l (λ i. small (suc i)))

-- A byte set to what it is.
pub same_byte : (l : List ℕ) (i : ℕ) → set l i (get_or l i 0) ≡ l
same_byte l i = set-get_or l i 0

-- Put before zeros, the n bytes are the front.
pub front_is : (n at : ℕ) (l : List ℕ) {ys : List ℕ} → ys ≡ take (at + n - at) (drop at l) → put_mid 0 n (replicate 8 0) ys ≡ front n l at
front_is n at l {ys} e =
    let width : at + n - at ≡ n = omega arith in
    let bytes : ys ≡ take n (drop at l) = rw width at e in
    rw (drop-replicate {X = ℕ} n 8 0, bytes) refl

module _ (n at : ℕ) (l : List ℕ) (h : at + n ≤ length l) (k : n ≤ 8) where
  number_read : {x : ℕ} {zs : List ℕ} → zs ≡ front n l at → x ≡ from_le_bytes w64 zs → x ≡ number_at n l at
  unfolding number_at
  number_read shape f =
      let long : n ≤ length (drop at l) = omega (arith, length-drop at l) in
      let zs : List ℕ = take n (drop at l) ++ replicate (8 - n) 0 in
      let all : length zs ≡ 8 =
      omega (arith, length-append (take n (drop at l)) (replicate (8 - n) 0), length-take-le n (drop at l) long, length-replicate {A = ℕ} (8 - n) 0) in
      let sum : from_le_bytes w64 zs ≡ eight zs 0 = omega arith in
      f ∙ ap (from_le_bytes w64) shape ∙ sum ∙ eight_bytes 0 zs (omega arith) ∙ number_padded n 8 (drop at l) k long

  pub read : {x : ℕ} {zs : List ℕ} → zs ≡ front n l at → x ≡ from_le_bytes w64 zs → ((i : ℕ) → Fits w8 (get_or l i 0)) → (x ≡ number_at n l at) × (x < 256 ^ n)
  unfolding number_at
  read e f small =
      let g = number_read e f in
      (g, rw (g, number_at) (number_small n (drop at l) (λ i. rw get_or-drop (omega (arith, small (at + i))))))

-- ---- writing

digits_all : (v : ℕ) → to_le_bytes w64 v ≡ digits 8 v
unfolding digits
digits_all v =
    let a : v / 256 / 256 ≡ v / 65536 = omega arith in
    let b : v / 65536 / 256 ≡ v / 16777216 = omega arith in
    let c : v / 16777216 / 256 ≡ v / 4294967296 = omega arith in
    let d : v / 4294967296 / 256 ≡ v / 1099511627776 = omega arith in
    let e : v / 1099511627776 / 256 ≡ v / 281474976710656 = omega arith in
    let f : v / 281474976710656 / 256 ≡ v / 72057594037927936 = omega arith in
    rw (a, b, c, d, e, f) refl

take_digits : (n m v : ℕ) → n ≤ m → take n (digits m v) ≡ digits n v
unfolding digits
take_digits zero m v h = refl
take_digits (suc n) zero v h = absurd (omega arith)
take_digits (suc n) (suc m) v h = ap (λ (l : List ℕ). v % 256 ∷ l) (take_digits n m (v / 256) (omega arith))

module _ (n at v : ℕ) (l : List ℕ) (h : at + n ≤ length l) (k : n ≤ 8) where
  pub written : {ys : List ℕ} → ys ≡ take n (to_le_bytes w64 v) → put_mid at (at + n - at) l ys ≡ sets l at (digits n v)
  written {ys} e =
      let bytes : ys ≡ digits n v = e ∙ ap (take n) (digits_all v) ∙ take_digits n 8 v k in
      let width : at + n - at ≡ n = omega arith in
      let long : at + length (digits n v) ≤ length l = omega (arith, length_digits n v) in
      rw (width, bytes, drop-drop n at l, sets-eq (digits n v) l at long, length_digits n v, append_assoc (take at l) (digits n v) (drop (at + n) l)) refl
