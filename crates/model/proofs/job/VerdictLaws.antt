-- Laws of checks made one after the other, and of lists of the first so many values.
use Rattle.std.proofs.Common.{Ok, Err}
use mathlib.Core.Path.{◌≡◌, refl, sym, ap, ap₂, ◌∙◌, subst}
use mathlib.Core.Logic.{◌↔◌}
use Prim.Native.Nat.{ℕ, zero, suc, ◌<◌}
use native.Mathlib.Omega.{arith}
use native.Mathlib.Decide.{dec_lt}
use mathlib.Core.Bool.{Bool, true, false, true≢false}
use mathlib.Core.List.{List, [], ◌∷◌, ◌++◌}
use lib.ListN.{length, get_or, length-append, get_or-append}
use lib.Seq.{get_or_at}
use Rattle.model.specs.Refusal.{Refusal}
use Rattle.model.specs.Verdict.{no_refusal, Verdict, unless, or_else, in_turn}
use Rattle.model.specs.job.Job.{list_of}
use Rattle.model.proofs.exploration.Each.{All, all_append}

-- No verdict is both.
pub bad_not_fine : {r : Refusal} → Err r ≡ no_refusal → ⊥
bad_not_fine e = let z : ◌≡◌ {A = ℕ} 0 1 = cc in omega arith

-- Two checks pass if each passes.
pub or_else_fine : (u v : Verdict) → (or_else u v ≡ no_refusal) ↔ ((u ≡ no_refusal) × (v ≡ no_refusal))
unfolding or_else
or_else_fine (Ok _) v = (λ h. (refl, h), λ h. h.1)
or_else_fine (Err r) v = (λ h. absurd (bad_not_fine h), λ h. h.0)

-- A test passes if it is true.
pub unless_fine : (b : Bool) (n p : ℕ) → (unless b n p ≡ no_refusal) ↔ (b ≡ true)
unfolding unless
unless_fine true n p = (λ h. refl, λ h. refl)
unless_fine false n p = (λ h. absurd (bad_not_fine h), λ h. absurd (true≢false (sym h)))

-- The first n checks pass.
abbrev pub EachFine : (ℕ → Verdict) → ℕ → Type 0
EachFine f n = (i : ℕ) → i < n → f i ≡ no_refusal

-- Checks in turn pass if each passes.
pub in_turn_fine : (n : ℕ) (f : ℕ → Verdict) → (in_turn n f ≡ no_refusal) ↔ EachFine f n
unfolding in_turn
in_turn_fine zero f = (λ h i l. absurd (omega arith), λ h. refl)
in_turn_fine (suc n) f = (to (in_turn_fine n f), from (in_turn_fine n f))
  where
    to : (in_turn n f ≡ no_refusal) ↔ EachFine f n → or_else (in_turn n f) (f n) ≡ no_refusal → EachFine f (suc n)
    to ih h i l = go (dec_lt i n)
      where
        both : (in_turn n f ≡ no_refusal) × (f n ≡ no_refusal)
        both = (or_else_fine (in_turn n f) (f n)).0 h

        go : Dec (i < n) → f i ≡ no_refusal
        go (yes a) = ih.0 both.0 i a
        go (no a) = let e : i ≡ n = omega arith in ap f e ∙ both.1

    from : (in_turn n f ≡ no_refusal) ↔ EachFine f n → EachFine f (suc n) → or_else (in_turn n f) (f n) ≡ no_refusal
    from ih h = (or_else_fine (in_turn n f) (f n)).1 (ih.1 (λ i l. h i (omega arith)), h n (omega arith))

-- The first check that refuses decides.
pub in_turn_first : (n i : ℕ) (f : ℕ → Verdict) {r : Refusal} → in_turn i f ≡ no_refusal → f i ≡ Err r → i < n → in_turn n f ≡ Err r
unfolding in_turn or_else
in_turn_first zero i f {r} h b l = absurd (omega arith)
in_turn_first (suc n) i f {r} h b l = go (dec_lt i n) (in_turn_first n i f h b)
  where
    go : Dec (i < n) → (i < n → in_turn n f ≡ Err r) → or_else (in_turn n f) (f n) ≡ Err r
    go (yes a) ih = ap (λ (u : Verdict). or_else u (f n)) (ih a)
    go (no a) ih =
        let e : i ≡ n = omega arith in
        ap (λ (u : Verdict). or_else u (f n)) (subst (λ (k : ℕ). in_turn k f ≡ no_refusal) e h) ∙ subst (λ (k : ℕ). f k ≡ Err r) e b

-- Equal checks refuse alike.
pub in_turn_cong : (n : ℕ) (f g : ℕ → Verdict) → ((i : ℕ) → i < n → f i ≡ g i) → in_turn n f ≡ in_turn n g
unfolding in_turn
in_turn_cong zero f g h = refl
in_turn_cong (suc n) f g h = ap₂ or_else (in_turn_cong n f g (λ i l. h i (omega arith))) (h n (omega arith))

module _ {A : Type 0} (f : ℕ → A) where
  pub length-list_of : (n : ℕ) → length (list_of f n) ≡ n
  unfolding list_of
  length-list_of zero = refl
  length-list_of (suc n) = simp (length-append, length-list_of n) (omega arith)

  -- Element i of the list is f i.
  pub get_or-list_of : (n i : ℕ) (d : A) → i < n → get_or (list_of f n) i d ≡ f i
  unfolding list_of
  get_or-list_of zero i d l = absurd (omega arith)
  get_or-list_of (suc n) i d l = go (dec_lt i n) (get_or-list_of n i d)
    where
      go : Dec (i < n) → (i < n → get_or (list_of f n) i d ≡ f i) → get_or (list_of f n ++ (f n ∷ [])) i d ≡ f i
      go (yes a) ih = get_or-append (list_of f n) (f n ∷ []) d i (rw length-list_of a) ∙ ih a
      go (no a) ih =
          let e : n ≡ i = omega arith in
          get_or_at (list_of f n) (f n) [] d i (length-list_of n ∙ e) ∙ ap f e

  -- Equal values make equal lists.
  pub list_of_cong : (g : ℕ → A) (n : ℕ) → ((i : ℕ) → i < n → f i ≡ g i) → list_of f n ≡ list_of g n
  unfolding list_of
  list_of_cong g zero h = refl
  list_of_cong g (suc n) h = ap₂ (λ (xs : List A) (x : A). xs ++ (x ∷ [])) (list_of_cong g n (λ i l. h i (omega arith))) (h n (omega arith))

  -- What holds of each value holds of the list.
  pub all_list_of : (P : A → Type 0) (n : ℕ) → ((i : ℕ) → i < n → P (f i)) → All P (list_of f n)
  unfolding list_of
  all_list_of P zero h = tt
  all_list_of P (suc n) h = all_append P (list_of f n) (f n ∷ []) (all_list_of P n (λ i l. h i (omega arith))) (h n (omega arith), tt)

-- What holds of all elements holds of each by its number, and the reverse.
module _ {A : Type 0} (P : A → Type 0) (d : A) where
  pub all_get_d : (xs : List A) → All P xs → (i : ℕ) → i < length xs → P (get_or xs i d)
  all_get_d [] h i l = absurd (omega arith)
  all_get_d (x ∷ xs) h zero l = h.0
  all_get_d (x ∷ xs) h (suc i) l = all_get_d xs h.1 i (omega arith)

  pub get_or-all : (xs : List A) → ((i : ℕ) → i < length xs → P (get_or xs i d)) → All P xs
  get_or-all [] h = tt
  get_or-all (x ∷ xs) h = (h 0 (omega arith), get_or-all xs (λ i l. h (suc i) (omega arith)))
