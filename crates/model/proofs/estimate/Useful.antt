-- How many actions still add something: each turn makes it fewer, so there are no more turns than actions.
use mathlib.Core.Path.{◌≡◌, refl, sym, ◌∙◌, subst}
use Prim.Native.Nat.{ℕ, zero, suc, ◌≤◌, ◌<◌}
use native.Mathlib.Omega.{arith}
use native.Mathlib.Decide.{dec_lt}
use mathlib.Core.Bool.{Bool, true, false, true≢false}
use Rattle.model.specs.Bits.{bit}
use Rattle.model.specs.job.Job.{Job, Action, action_of}
use Rattle.model.specs.task.State.{within}
use Rattle.model.proofs.task.StateLaws.{within_facts}

module _ (j : Job) where
  abbrev act : ℕ → Action
  act i = action_of j i

  -- how many actions below n still add something
  pub useful : ℕ → ℕ → ℕ
  useful built zero = 0
  useful built (suc n) = elim (within (act n).add built) [ true ↦ useful built n | false ↦ suc (useful built n) ]

  pub useful_le : (built n : ℕ) → useful built n ≤ n
  unfolding useful
  useful_le built zero = omega arith
  useful_le built (suc n) = go (within (act n).add built) refl (useful_le built n)
    where
      go : (b : Bool) → within (act n).add built ≡ b → useful built n ≤ n → useful built (suc n) ≤ suc n
      go true e l = rw (e, useful) (omega arith)
      go false e l = rw (e, useful) (omega arith)

  -- More facts make no more actions useful, and fewer where one of them adds nothing more.
  module _ (xs ys : ℕ) (more : (f : ℕ) → bit xs f ≡ true → bit ys f ≡ true) where
    wider : (zs : ℕ) → within zs xs ≡ true → within zs ys ≡ true
    wider zs h = (within_facts zs ys).1 (λ g p. more g ((within_facts zs xs).0 h g p))

    fewer_le : (n : ℕ) → useful ys n ≤ useful xs n
    unfolding useful
    fewer_le zero = omega arith
    fewer_le (suc n) = go (within (act n).add xs) (within (act n).add ys) refl refl (fewer_le n)
      where
        go : (a b : Bool) → within (act n).add xs ≡ a → within (act n).add ys ≡ b → useful ys n ≤ useful xs n → useful ys (suc n) ≤ useful xs (suc n)
        go true true e f l = rw (e, useful, f) l
        go true false e f l = absurd (true≢false (sym (wider (act n).add e) ∙ f))
        go false true e f l = rw (e, useful, f) (omega arith)
        go false false e f l = rw (e, useful, f) (omega arith)

    pub fewer : (n i : ℕ) → i < n → within (act i).add xs ≡ false → within (act i).add ys ≡ true → useful ys n < useful xs n
    unfolding useful
    fewer zero i l p q = absurd (omega arith)
    fewer (suc n) i l p q = go (within (act n).add xs) (within (act n).add ys) refl refl (fewer_le n) (λ m. fewer n i m p q) (dec_lt i n)
      where
        go : (a b : Bool) → within (act n).add xs ≡ a → within (act n).add ys ≡ b → useful ys n ≤ useful xs n
            → (i < n → useful ys n < useful xs n) → Dec (i < n) → useful ys (suc n) < useful xs (suc n)
        go true true e f u ih (yes m) = rw (e, useful, f) (ih m)
        go true true e f u ih (no m) = let d : i ≡ n = omega arith in absurd (true≢false (sym e ∙ subst (λ (k : ℕ). within (act k).add xs ≡ false) d p))
        go true false e f u ih m = absurd (true≢false (sym (wider (act n).add e) ∙ f))
        go false true e f u ih m = rw (e, useful, f) (omega arith)
        go false false e f u ih (yes m) = rw (e, useful, f) (omega (arith, ih m))
        go false false e f u ih (no m) = let d : i ≡ n = omega arith in absurd (true≢false (sym (subst (λ (k : ℕ). within (act k).add ys ≡ true) d q) ∙ f))
