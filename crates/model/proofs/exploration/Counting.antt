-- Different elements of a list are no more than its length, and different numbers below a bound no more than the bound.
use mathlib.Core.Path.{◌≡◌, refl, sym, ap, ◌∙◌, subst}
use Prim.Native.Nat.{ℕ, zero, suc, ◌≤◌, ◌<◌}
use native.Mathlib.Omega.{arith}
use native.Mathlib.Decide.{dec_lt}
use mathlib.Core.Bool.{Bool, true, false, true≢false}
use mathlib.Core.List.Memᴰ
use mathlib.Core.List.Memᴰ.{head as here, tail as there}
use mathlib.Core.List.{List, [], ◌∷◌, Memᴰ}
use mathlib.Core.Logic.{◌⊎◌, inl, inr}
use lib.ListN.{length}
use lib.Dec.{eqb}
use borrow.Author.Tests.{eqb-true, eq-eqb}
use Rattle.model.proofs.exploration.Each.{All, all_map, all_map₂}

module _ {A : Type 0} (same : A → A → Bool) where
  -- `same` of any two different places of the list is false.
  abbrev pub Apart : List A → Type 0
  Apart [] = Unit {0}
  Apart (x ∷ xs) = All (λ y. same x y ≡ false) xs × Apart xs

  -- the list less the first that is b
  without : A → List A → List A
  without b [] = []
  without b (x ∷ xs) = elim (same b x) [ true ↦ xs | false ↦ x ∷ without b xs ]

  all_without : (P : A → Type 0) (b : A) (xs : List A) → All P xs → All P (without b xs)
  unfolding without
  all_without P b [] h = tt
  all_without P b (x ∷ xs) h = go (same b x) refl (all_without P b xs h.1)
    where
      go : (a : Bool) → same b x ≡ a → All P (without b xs) → All P (without b (x ∷ xs))
      go true e ih = rw (e, without) h.1
      go false e ih = rw (e, without) (h.0, ih)

  module _ (same_eq : (x y : A) → same x y ≡ true → x ≡ y) (same_refl : (x : A) → same x x ≡ true) where
    apart_without : (b : A) (xs : List A) → Apart xs → Apart (without b xs) × All (λ y. same b y ≡ false) (without b xs) × (length xs ≤ suc (length (without b xs)))
    unfolding without
    apart_without b [] h = (tt, tt, omega arith)
    apart_without b (x ∷ xs) h = go (same b x) refl (apart_without b xs h.1)
      where
        go : (a : Bool) → same b x ≡ a → Apart (without b xs) × All (λ y. same b y ≡ false) (without b xs) × (length xs ≤ suc (length (without b xs)))
            → Apart (without b (x ∷ xs)) × All (λ y. same b y ≡ false) (without b (x ∷ xs)) × (length (x ∷ xs) ≤ suc (length (without b (x ∷ xs))))
        go true e ih = rw (e, without) (h.1, subst (λ (z : A). All (λ y. same z y ≡ false) xs) (sym (same_eq b x e)) h.0, omega arith)
        go false e ih = rw (e, without) ((all_without _ b xs h.0, ih.0), (e, ih.1), omega (arith, ih.2))

    -- Different elements of a list are no more than its length.
    pub apart_length : (ys xs : List A) → All (λ x. Memᴰ x ys) xs → Apart xs → length xs ≤ length ys
    apart_length [] [] h d = omega arith
    apart_length [] (x ∷ xs) h d = absurd (Memᴰ.not-nil h.0)
    apart_length (b ∷ ys) xs h d =
        let w = apart_without b xs d in
        let l : length (without b xs) ≤ length ys = apart_length ys (without b xs) (all_map₂ _ _ _ (λ x m n. other x n (Memᴰ.cases_cons m)) (without b xs) (all_without _ b xs h) w.1) w.0 in
        omega (arith, w.2)
      where
        other : (x : A) → same b x ≡ false → (x ≡ b) ⊎ Memᴰ x ys → Memᴰ x ys
        other x n (inl e) = absurd (true≢false (sym (same_refl b) ∙ ap (same b) (sym e) ∙ n))
        other x n (inr m) = m

below : ℕ → List ℕ
below zero = []
below (suc b) = b ∷ below b

length-below : (b : ℕ) → length (below b) ≡ b
unfolding below
length-below zero = refl
length-below (suc b) = ap suc (length-below b)

below_mem : (b i : ℕ) → i < b → Memᴰ i (below b)
unfolding below
below_mem zero i l = absurd (omega arith)
below_mem (suc b) i l = go (dec_lt i b) (below_mem b i)
  where
    go : Dec (i < b) → (i < b → Memᴰ i (below b)) → Memᴰ i (below (suc b))
    go (yes m) ih = there (ih m)
    go (no m) ih = let e : i ≡ b = omega arith in here e

-- Different numbers below a bound are no more than the bound.
pub pigeonhole : (b : ℕ) (xs : List ℕ) → All (λ x. x < b) xs → Apart eqb xs → length xs ≤ b
pigeonhole b xs h d =
    let l = apart_length eqb eqb-true (λ n. eq-eqb n n refl) (below b) xs (all_map _ _ (below_mem b) xs h) d in
    omega (arith, length-below b)
