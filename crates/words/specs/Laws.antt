-- Laws of numbers in bytes, over the width.
use Rattle.std.specs.Prelude.{◌≡◌, refl, ℕ, zero, suc, ◌+◌, ◌*◌, ◌/◌, ◌^◌, ◌≤◌, ◌<◌, List, ◌++◌, length, get_or, take, drop}
use Rattle.std.proofs.Common.{ap, ◌∙◌, arith, pow-suc, append_assoc, drop-cons, length-take-le, drop_at}
use Rattle.std.proofs.lemmas.List.Edits.{sets, sets-eq}
use Rattle.model.specs.Bits.{number, number_at}
use Rattle.words.specs.Digits.{digits, two, eight}

-- a number is its first byte and the number of the others
number_at_lem : (n at : ℕ) (l : List ℕ) → at < length l → number_at (suc n) l at ≡ get_or l at 0 + 256 * number_at n l (suc at)
unfolding number_at number
number_at_lem n at l h = rw (drop-cons l at 0)

-- the same k bytes after a place
number_from : (n at k : ℕ) (l : List ℕ) → at + k < length l → number_at (suc n) l (at + k) ≡ get_or l (at + k) 0 + 256 * number_at n l (at + suc k)
number_from n at k l h =
    let e : suc (at + k) ≡ at + suc k = omega arith in
    number_at_lem n (at + k) l h ∙ ap (λ (x : ℕ). get_or l (at + k) 0 + 256 * number_at n l x) e

number_none : (at : ℕ) (l : List ℕ) → number_at 0 l at ≡ 0
unfolding number_at number
number_none at l = refl

module _ (at : ℕ) (l : List ℕ) where
  pub two_bytes : at + 2 ≤ length l → two l at ≡ number_at 2 l at
  two_bytes h =
      let e : suc at ≡ at + 1 = omega arith in
      let a : number_at 2 l at ≡ get_or l at 0 + 256 * number_at 1 l (at + 1) =
      number_at_lem 1 at l (omega arith) ∙ ap (λ (x : ℕ). get_or l at 0 + 256 * number_at 1 l x) e in
      let b = number_from 0 at 1 l (omega arith) in
      omega (arith, number_none (at + 2) l)

  pub eight_bytes : at + 8 ≤ length l → eight l at ≡ number_at 8 l at
  eight_bytes h =
      let e : suc at ≡ at + 1 = omega arith in
      let a : number_at 8 l at ≡ get_or l at 0 + 256 * number_at 7 l (at + 1) =
      number_at_lem 7 at l (omega arith) ∙ ap (λ (x : ℕ). get_or l at 0 + 256 * number_at 7 l x) e in
      let b = number_from 6 at 1 l (omega arith) in
      let c = number_from 5 at 2 l (omega arith) in
      let d = number_from 4 at 3 l (omega arith) in
      let f = number_from 3 at 4 l (omega arith) in
      let g = number_from 2 at 5 l (omega arith) in
      let i = number_from 1 at 6 l (omega arith) in
      let j = number_from 0 at 7 l (omega arith) in
      omega (arith, number_none (at + 8) l)

pub length_digits : (n v : ℕ) → length (digits n v) ≡ n
unfolding digits
length_digits zero v = refl
length_digits (suc n) v = ap suc (length_digits n (v / 256))

-- the number that the bytes of a number spell is that number
number_digits : (n v : ℕ) (l : List ℕ) → v < 256 ^ n → number n (digits n v ++ l) ≡ v
unfolding number digits
number_digits zero v l h = omega arith
number_digits (suc n) v l h =
    let p : 256 ^ suc n ≡ 256 ^ n * 256 = pow-suc 256 n in
    let q : v / 256 < 256 ^ n = omega arith in
    rw (number_digits n (v / 256) l q) (omega arith)

-- what was written is read
pub number_written : (n v at : ℕ) (l : List ℕ) → v < 256 ^ n → at + n ≤ length l → number_at n (sets l at (digits n v)) at ≡ v
unfolding number_at
number_written n v at l h f =
    let g : at + length (digits n v) ≤ length l = omega (arith, length_digits n v) in
    let tail : List ℕ = drop (at + length (digits n v)) l in
    let e : drop at (sets l at (digits n v)) ≡ digits n v ++ tail =
    ap (drop at) (sets-eq (digits n v) l at g ∙ append_assoc (take at l) (digits n v) tail)
    ∙ drop_at (take at l) (digits n v ++ tail) at (length-take-le at l (omega arith)) in
    ap (number n) e ∙ number_digits n v tail h
