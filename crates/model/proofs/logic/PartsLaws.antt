-- Laws of the carried parts: how many there are, and their truths as a number's bits, one bit a part.
use mathlib.Core.Path.{◌≡◌, refl, sym, ap, ◌∙◌, subst}
use Prim.Native.Nat.{ℕ, suc, ◌+◌}
use native.Mathlib.Nat.{add-zero}
use native.Mathlib.Omega.{arith}
use mathlib.Core.Bool.{Bool, true, false}
use mathlib.Core.List.{List, [], ◌∷◌, ◌++◌}
use lib.ListN.{length, length-append}
use lib.Dec.{T}
use Rattle.model.specs.declared.Unary.TheVariants.{Not, Next, Eventually, Always}
use Rattle.model.specs.declared.Binary.TheVariants.{And, Or, Until, Release}
use Rattle.model.specs.Bits.{bit, bits_of}
use Rattle.model.specs.logic.Formula.{Formula, constant, fact, action, unary, binary}
use Rattle.model.specs.logic.Parts.{size, temporal, count, Part, parts}
use Rattle.model.specs.logic.Truth.{World, holds}
use Rattle.model.proofs.bits.BitsOf.{bits_of_head, bits_of_tail}

-- the operand of a next is a part of its own, or begins with one
next_length : (b : Bool) (p : Part) (xs ys : List Part) (c : ℕ) → length xs ≡ c → length ys ≡ c
    → length {A = Part} (elim b [ true ↦ ys | false ↦ p ∷ xs ]) ≡ (elim b [ true ↦ c | false ↦ 1 + c ])
next_length true p xs ys c hx hy = hy
next_length false p xs ys c hx hy = rw hx (omega arith)

-- there are as many parts as `count` says
pub length-parts : (φ : Formula) (n at : ℕ) → length (parts φ n at) ≡ count φ
unfolding parts count
length-parts (constant c) n at = refl
length-parts (fact i) n at = refl
length-parts (action a) n at = refl
length-parts (unary Not φ) n at = length-parts φ n (suc at)
length-parts (unary Next φ) n at = next_length (temporal φ) _ _ _ _ (length-parts φ (suc n) (suc at)) (length-parts φ n (suc at))
length-parts (unary Eventually φ) n at = simp (length-parts φ) (omega arith)
length-parts (unary Always φ) n at = simp (length-parts φ) (omega arith)
length-parts (binary And φ ψ) n at = simp (length-append, length-parts φ, length-parts ψ)
length-parts (binary Or φ ψ) n at = simp (length-append, length-parts φ, length-parts ψ)
length-parts (binary Until φ ψ) n at = simp (length-append, length-parts φ, length-parts ψ) (omega arith)
length-parts (binary Release φ ψ) n at = simp (length-append, length-parts φ, length-parts ψ) (omega arith)

module _ (s : ℕ → Bool) (r : List World) where
  -- the parts of the list, numbered from n, have the truth on r that s says
  abbrev pub Agree : ℕ → List Part → Type 0
  Agree n [] = Unit {0}
  Agree n (p ∷ ps) = (s n ≡ holds p.shape r) × Agree (suc n) ps

  agree_split : (n : ℕ) (ps qs : List Part) → Agree n (ps ++ qs) → Agree n ps × Agree (n + length ps) qs
  agree_split n [] qs h = (tt, subst (λ (m : ℕ). Agree m qs) (sym (add-zero n)) h)
  agree_split n (p ∷ ps) qs h =
      let t = agree_split (suc n) ps qs h.1 in
      ((h.0, t.0), subst (λ (m : ℕ). Agree m qs) (omega arith) t.1)

  -- of two operands, the first one's parts come first
  pub agree_left : (φ : Formula) (n at : ℕ) (qs : List Part) → Agree n (parts φ n at ++ qs) → Agree n (parts φ n at)
  agree_left φ n at qs h = (agree_split n (parts φ n at) qs h).0

  -- of two operands, the second one's parts follow, numbered on
  pub agree_right : (φ : Formula) (n at : ℕ) (qs : List Part) → Agree n (parts φ n at ++ qs) → Agree (n + count φ) qs
  agree_right φ n at qs h = subst (λ (m : ℕ). Agree (n + m) qs) (length-parts φ n at) (agree_split n (parts φ n at) qs h).1

  -- the first part of a formula that begins with 21 to 24 is the formula
  agree_head : (φ : Formula) (n at : ℕ) → T (temporal φ) → Agree n (parts φ n at) → s n ≡ holds φ r
  unfolding temporal parts
  agree_head (constant c) n at t h = absurd t
  agree_head (fact i) n at t h = absurd t
  agree_head (action a) n at t h = absurd t
  agree_head (unary Not φ) n at t h = absurd t
  agree_head (unary Next φ) n at t h = absurd t
  agree_head (unary Eventually φ) n at t h = h.0
  agree_head (unary Always φ) n at t h = h.0
  agree_head (binary And φ ψ) n at t h = absurd t
  agree_head (binary Or φ ψ) n at t h = absurd t
  agree_head (binary Until φ ψ) n at t h = h.0
  agree_head (binary Release φ ψ) n at t h = h.0

  next_head : (b : Bool) (p : Part) (n : ℕ) (xs ys : List Part) → (T b → Agree n ys → s n ≡ holds p.shape r)
      → Agree n (elim b [ true ↦ ys | false ↦ p ∷ xs ]) → s n ≡ holds p.shape r
  next_head true p n xs ys f h = f tt h
  next_head false p n xs ys f h = h.0

  -- the first part of next φ is φ
  pub agree_next : (φ : Formula) (n at : ℕ) → Agree n (parts (unary Next φ) n at) → s n ≡ holds φ r
  unfolding parts
  agree_next φ n at h = next_head (temporal φ) _ n _ _ (agree_head φ n (suc at)) h

  -- each part's own parts have the truth that s says too
  abbrev pub Inside : List Part → Type 0
  Inside [] = Unit {0}
  Inside (p ∷ ps) = Agree p.first (parts p.shape p.first p.position) × Inside ps

  inside_append : (ps qs : List Part) → Inside ps → Inside qs → Inside (ps ++ qs)
  inside_append [] qs a b = b
  inside_append (p ∷ ps) qs a b = (a.0, inside_append ps qs a.1 b)

  next_inside : (b : Bool) (p : Part) (n : ℕ) (xs ys : List Part)
      → (Agree n ys → Inside ys) → (Agree (suc n) xs → Inside (p ∷ xs))
      → Agree n (elim b [ true ↦ ys | false ↦ p ∷ xs ]) → Inside (elim b [ true ↦ ys | false ↦ p ∷ xs ])
  next_inside true p n xs ys f g h = f h
  next_inside false p n xs ys f g h = g h.1

  -- a part's own parts stand among the formula's, in a row from the part's `first` on
  pub inside : (φ : Formula) (n at : ℕ) → Agree n (parts φ n at) → Inside (parts φ n at)
  unfolding parts
  inside (constant c) n at h = tt
  inside (fact i) n at h = tt
  inside (action a) n at h = tt
  inside (unary Not φ) n at h = inside φ n (suc at) h
  inside (unary Next φ) n at h = next_inside (temporal φ) _ n _ _ (inside φ n (suc at)) (λ k. (k, inside φ (suc n) (suc at) k)) h
  inside (unary Eventually φ) n at h = (h, inside φ (suc n) (suc at) h.1)
  inside (unary Always φ) n at h = (h, inside φ (suc n) (suc at) h.1)
  inside (binary And φ ψ) n at h =
      inside_append (parts φ n (suc at)) _ (inside φ n (suc at) (agree_left φ n (suc at) _ h)) (inside ψ (n + count φ) (suc at + size φ) (agree_right φ n (suc at) _ h))
  inside (binary Or φ ψ) n at h =
      inside_append (parts φ n (suc at)) _ (inside φ n (suc at) (agree_left φ n (suc at) _ h)) (inside ψ (n + count φ) (suc at + size φ) (agree_right φ n (suc at) _ h))
  inside (binary Until φ ψ) n at h = (
    h,
    inside_append (parts φ (suc n) (suc at)) _ (inside φ (suc n) (suc at) (agree_left φ (suc n) (suc at) _ h.1))
        (inside ψ (suc n + count φ) (suc at + size φ) (agree_right φ (suc n) (suc at) _ h.1)),
  )
  inside (binary Release φ ψ) n at h = (
    h,
    inside_append (parts φ (suc n) (suc at)) _ (inside φ (suc n) (suc at) (agree_left φ (suc n) (suc at) _ h.1))
        (inside ψ (suc n + count φ) (suc at + size φ) (agree_right φ (suc n) (suc at) _ h.1)),
  )

-- the number made of the parts' truths agrees with them
pub agree_bits : (r : List World) (s : ℕ → Bool) (ps : List Part) (n : ℕ)
    → ((i : ℕ) → s (n + i) ≡ bit (bits_of (λ (p : Part). holds p.shape r) ps) i) → Agree s r n ps
agree_bits r s [] n h = tt
agree_bits r s (p ∷ ps) n h = (
  ap s (sym (add-zero n)) ∙ h 0 ∙ bits_of_head _ p ps,
  agree_bits r s ps (suc n) (λ i. ap s (omega arith) ∙ h (suc i) ∙ bits_of_tail _ p ps i),
)
