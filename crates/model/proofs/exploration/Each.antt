-- Properties of all elements of a list.
use mathlib.Core.Path.{refl, sym, subst}
use mathlib.Core.List.Memᴰ.{head as here, tail as there}
use mathlib.Core.List.{List, [], ◌∷◌, ◌++◌, Memᴰ}

module _ {A : Type 0} where
  abbrev pub All : (A → Type 0) → List A → Type 0
  All P [] = Unit {0}
  All P (x ∷ xs) = P x × All P xs

  pub all_map : (P Q : A → Type 0) → ((x : A) → P x → Q x) → (xs : List A) → All P xs → All Q xs
  all_map P Q f [] h = tt
  all_map P Q f (x ∷ xs) h = (f x h.0, all_map P Q f xs h.1)

  pub all_map₂ : (P Q R : A → Type 0) → ((x : A) → P x → Q x → R x) → (xs : List A) → All P xs → All Q xs → All R xs
  all_map₂ P Q R f [] h k = tt
  all_map₂ P Q R f (x ∷ xs) h k = (f x h.0 k.0, all_map₂ P Q R f xs h.1 k.1)

  pub all_append : (P : A → Type 0) (xs ys : List A) → All P xs → All P ys → All P (xs ++ ys)
  all_append P [] ys h k = k
  all_append P (x ∷ xs) ys h k = (h.0, all_append P xs ys h.1 k)

  pub all_left : (P : A → Type 0) (xs ys : List A) → All P (xs ++ ys) → All P xs
  all_left P [] ys h = tt
  all_left P (x ∷ xs) ys h = (h.0, all_left P xs ys h.1)

  pub all_right : (P : A → Type 0) (xs ys : List A) → All P (xs ++ ys) → All P ys
  all_right P [] ys h = h
  all_right P (x ∷ xs) ys h = all_right P xs ys h.1

  pub all_at : (P : A → Type 0) {y : A} (xs : List A) → Memᴰ y xs → All P xs → P y
  all_at P xs (here p) h = subst P (sym p) h.0
  all_at P xs (there {xs = ys} m) h = all_at P ys m h.1

  pub all_mem : (P : A → Type 0) (xs : List A) → ((y : A) → Memᴰ y xs → P y) → All P xs
  all_mem P [] f = tt
  all_mem P (x ∷ xs) f = (f x (here refl), all_mem P xs (λ y m. f y (there m)))
