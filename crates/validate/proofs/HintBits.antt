-- The number whose bits are values of a test.
use Rattle.std.proofs.Common.{◌≡◌, refl, sym, ap, ap₂, ◌∙◌, ℕ, suc, ◌+◌, ◌*◌, ◌^◌, ◌<◌, zero-add, arith, Bool, List, [], ◌∷◌, length, get_or}
use Rattle.model.specs.Bits.{bit, digit, bits_of}
use Rattle.model.specs.job.Job.{list_of}
use Rattle.model.proofs.job.VerdictLaws.{length-list_of, get_or-list_of}
use Rattle.bits.proofs.SetLaws.{set_of_list}
use Rattle.validate.specs.Walk.{bits_from}

module _ (f : ℕ → Bool) where
  -- It is the number whose bits are a test of a list's elements, if f is that test by their numbers.
  pub bits_of_lem : {A : Type 0} (g : A → Bool) (d : A) (xs : List A) (k : ℕ) → ((i : ℕ) → i < length xs → f (k + i) ≡ g (get_or xs i d))
      → bits_from f k (length xs) ≡ bits_of g xs
  unfolding bits_from bits_of
  bits_of_lem g d [] k h = refl
  bits_of_lem g d (x ∷ xs) k h =
      let z : k + 0 ≡ k = omega arith in
      ap₂ (λ (b : Bool) (y : ℕ). digit b + 2 * y) (rw z at (h 0 (omega arith)))
      (bits_of_lem g d xs (suc k) (λ i l. let e : k + suc i ≡ suc k + i = omega arith in rw e at (h (suc i) (omega arith))))

  -- A set that has a bit for each of n values is that number.
  pub set_of_bits : (n x : ℕ) → x < 2 ^ n → ((i : ℕ) → i < n → bit x i ≡ f i) → x ≡ bits_from f 0 n
  set_of_bits n x h b =
      set_of_list f 0 below counted x h (λ i l. b i l ∙ sym (value i l))
      ∙ sym (bits_of_lem f 0 below 0 (λ i l. rw (zero-add, value i (rw counted at l)))) ∙ ap (bits_from f 0) counted
    where
      below : List ℕ
      below = list_of (λ i. i) n

      counted : length below ≡ n
      counted = length-list_of (λ i. i) n

      value : (i : ℕ) → i < n → f (get_or below i 0) ≡ f i
      value i l = ap f (get_or-list_of (λ i. i) n i 0 l)
