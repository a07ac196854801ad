-- What the definitions of states say of each fact.
use mathlib.Core.Path.{◌≡◌, refl, sym, ap, ap₂, ◌∙◌}
use Prim.Native.Nat.{ℕ, suc, ◌+◌, ◌-◌, ◌^◌, ◌≤◌, ◌<◌}
use native.Mathlib.Omega.{arith}
use mathlib.Core.Bool.{Bool, true, false, not, ◌&&◌, ◌||◌, true≢false}
use mathlib.Core.Logic.{◌↔◌}
use lib.Bits.{bit_and, bit_or, or_disjoint, and_le_l, and_le_r, or_lt}
use borrow.Author.Tests.{eqb-true, eq-eqb}
use Rattle.model.specs.Bits.{bit, of_bits}
use Rattle.model.specs.job.Job.{Action}
use Rattle.model.specs.task.State.{within, apart, applicable, after}
use Rattle.model.proofs.bits.Bits.{of_bits_lt, bit_of_bits, bits_ext, bit_zero, below_power}
use Rattle.model.proofs.bits.Bitwise.{bit_and_lem, bit_or_lem}
use Rattle.model.proofs.Tests.{and_both}

module _ (xs ys : ℕ) where
  -- the facts in common, told by their bits
  in_common : (zs : ℕ) → zs ≤ xs → ((i : ℕ) → bit xs i && bit ys i ≡ bit zs i) → bit_and xs ys ≡ zs
  in_common zs l h =
      bits_ext (suc xs) (bit_and xs ys) zs (below_power (bit_and xs ys) (suc xs) (omega (arith, and_le_l xs ys))) (below_power zs (suc xs) (omega arith))
      (λ i m. bit_and_lem xs ys i ∙ h i)

  -- every fact of xs is one of ys
  pub within_facts : (within xs ys ≡ true) ↔ ((i : ℕ) → bit xs i ≡ true → bit ys i ≡ true)
  unfolding within
  within_facts = (
    λ e i h. and_right (bit xs i) (bit ys i) (sym (bit_and_lem xs ys i) ∙ ap (λ (x : ℕ). bit x i) (eqb-true (bit_and xs ys) xs e) ∙ h),
    λ f. eq-eqb (bit_and xs ys) xs (in_common xs (omega arith) (λ i. both (bit xs i) (bit ys i) (f i))),
  )
    where
      and_right : (a b : Bool) → a && b ≡ true → b ≡ true
      and_right true b h = h
      and_right false true h = refl
      and_right false false h = h

      both : (a b : Bool) → (a ≡ true → b ≡ true) → a && b ≡ a
      both true b h = h refl
      both false b h = refl

  -- no fact of xs is one of ys
  pub apart_facts : (apart xs ys ≡ true) ↔ ((i : ℕ) → bit xs i ≡ true → bit ys i ≡ false)
  unfolding apart
  apart_facts = (
    λ e i h. not_both (bit xs i) (bit ys i) (sym (bit_and_lem xs ys i) ∙ ap (λ (x : ℕ). bit x i) (eqb-true (bit_and xs ys) 0 e) ∙ bit_zero i) h,
    λ f. eq-eqb (bit_and xs ys) 0 (in_common 0 (omega arith) (λ i. neither (bit xs i) (bit ys i) (f i) ∙ sym (bit_zero i))),
  )
    where
      not_both : (a b : Bool) → a && b ≡ false → a ≡ true → b ≡ false
      not_both true b h e = h
      not_both false b h e = absurd (true≢false (sym e))

      neither : (a b : Bool) → (a ≡ true → b ≡ false) → a && b ≡ false
      neither true b h = h refl
      neither false b h = refl

module _ (a : Action) where
  -- An action is applicable exactly if every needed fact is true and no forbidden one is.
  pub applicable_facts : (s : ℕ) → (applicable a s ≡ true)
      ↔ (((i : ℕ) → bit a.pre i ≡ true → bit s i ≡ true) × ((i : ℕ) → bit a.forbidden i ≡ true → bit s i ≡ false))
  unfolding applicable
  applicable_facts s = (
    λ h. let p = (and_both (within a.pre s) (apart a.forbidden s)).0 h in ((within_facts _ s).0 p.0, (apart_facts _ s).0 p.1),
    λ h. (and_both (within a.pre s) (apart a.forbidden s)).1 ((within_facts _ s).1 h.0, (apart_facts _ s).1 h.1),
  )

  -- Where an action is applicable, the facts that it needs are true.
  pub applicable_needs : (s : ℕ) → applicable a s ≡ true → within a.pre s ≡ true
  unfolding applicable
  applicable_needs s h = ((and_both (within a.pre s) (apart a.forbidden s)).0 h).0

  -- An action that forbids a fact which it needs is never applicable.
  pub never_applicable : (s i : ℕ) → bit a.pre i ≡ true → bit a.forbidden i ≡ true → applicable a s ≡ false
  never_applicable s i n f = go (applicable a s) refl
    where
      go : (b : Bool) → applicable a s ≡ b → applicable a s ≡ false
      go true e = let p = (applicable_facts s).0 e in absurd (true≢false (sym (p.0 i n) ∙ p.1 i f))
      go false e = e

  -- An action that forbids nothing is applicable if all needed facts are true.
  pub nothing_forbidden : a.forbidden ≡ 0 → (s : ℕ) → applicable a s ≡ within a.pre s
  unfolding applicable
  nothing_forbidden e s = rw (e, (apart_facts 0 s).1 (λ i h. absurd (true≢false (sym h ∙ bit_zero i)))) (and-true (within a.pre s))
    where
      and-true : (b : Bool) → b && true ≡ b
      and-true true = refl
      and-true false = refl

-- taking away the facts in common
left_over : (n s d : ℕ) → s < 2 ^ n → s - bit_and s d ≡ of_bits n (λ i. bit s i && not (bit d i))
left_over n s d h = omega (arith, or_disjoint x (bit_and s d) none, whole)
  where
    x : ℕ
    x = of_bits n (λ i. bit s i && not (bit d i))

    low : bit_and s d < 2 ^ n
    low = omega (arith, and_le_l s d)

    nothing : (a b : Bool) → (a && not b) && (a && b) ≡ false
    nothing true true = refl
    nothing true false = refl
    nothing false b = refl

    one_or_other : (a b : Bool) → (a && not b) || (a && b) ≡ a
    one_or_other true true = refl
    one_or_other true false = refl
    one_or_other false b = refl

    at : (i : ℕ) → i < n → bit x i ≡ bit s i && not (bit d i)
    at i l = bit_of_bits n _ i l

    none : bit_and x (bit_and s d) ≡ 0
    none = bits_ext n _ _ (omega (arith, and_le_r x (bit_and s d), low)) (omega (arith, low))
        (λ i l. bit_and_lem x (bit_and s d) i ∙ ap₂ ◌&&◌ (at i l) (bit_and_lem s d i) ∙ nothing (bit s i) (bit d i) ∙ sym (bit_zero i))

    whole : bit_or x (bit_and s d) ≡ s
    whole = bits_ext n _ _ (or_lt n x (bit_and s d) (of_bits_lt n _) low) h
        (λ i l. bit_or_lem x (bit_and s d) i ∙ ap₂ ◌||◌ (at i l) (bit_and_lem s d i) ∙ one_or_other (bit s i) (bit d i))

-- "deleted facts go, then added ones come": a fact is true after an action if it is added, or was true and is not deleted
pub after_facts : (a : Action) (s i : ℕ) → bit (after a s) i ≡ (bit s i && not (bit a.del i)) || bit a.add i
unfolding after
after_facts a s i =
    let n : ℕ = suc (s + i) in
    bit_or_lem (s - bit_and s a.del) a.add i
    ∙ ap (λ (x : ℕ). bit x i || bit a.add i) (left_over n s a.del (below_power s n (omega arith)))
    ∙ ap (λ (b : Bool). b || bit a.add i) (bit_of_bits n _ i (omega arith))
