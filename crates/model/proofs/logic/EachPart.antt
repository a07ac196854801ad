-- What holds of a formula, and goes over to operands, holds of its carried parts.
use mathlib.Core.Path.{◌≡◌, refl, ap₂}
use Prim.Native.Nat.{ℕ, suc, ◌+◌, ◌*◌}
use mathlib.Core.Bool.{Bool, true, false}
use mathlib.Core.List.{List, [], ◌∷◌, ◌++◌}
use Rattle.model.specs.declared.Unary.{Unary}
use Rattle.model.specs.declared.Unary.TheVariants.{Not, Next, Eventually, Always}
use Rattle.model.specs.declared.Binary.{Binary}
use Rattle.model.specs.declared.Binary.TheVariants.{And, Or, Until, Release}
use Rattle.model.specs.Bits.{digit, bits_of}
use Rattle.model.specs.logic.Formula.{Formula, constant, fact, action, unary, binary}
use Rattle.model.specs.logic.Parts.{size, count, temporal, Part, parts, parts_of}

-- P of a formula at a position goes over to its one operand, and to the first and the second of two
module _ (P : Formula → ℕ → Type 0) (one : (o : Unary) (φ : Formula) (at : ℕ) → P (unary o φ) at → P φ (suc at))
    (left : (o : Binary) (φ ψ : Formula) (at : ℕ) → P (binary o φ ψ) at → P φ (suc at))
    (right : (o : Binary) (φ ψ : Formula) (at : ℕ) → P (binary o φ ψ) at → P ψ (suc at + size φ)) where
  abbrev Each : List Part → Type 0
  Each [] = Unit {0}
  Each (p ∷ ps) = P p.shape p.position × Each ps

  each_append : (ps qs : List Part) → Each ps → Each qs → Each (ps ++ qs)
  each_append [] qs g h = h
  each_append (p ∷ ps) qs g h = (g.0, each_append ps qs g.1 h)

  -- the operand of a next is a part of its own, or begins with one
  each_next : (b : Bool) (p : Part) (xs ys : List Part) → P p.shape p.position → Each ys → Each xs
      → Each (elim b as (λ x. List Part) [ true ↦ ys | false ↦ p ∷ xs ])
  each_next true p xs ys g x y = x
  each_next false p xs ys g x y = (g, y)

  parts_each : (φ : Formula) (n at : ℕ) → P φ at → Each (parts φ n at)
  unfolding parts
  parts_each (constant c) n at g = tt
  parts_each (fact i) n at g = tt
  parts_each (action i) n at g = tt
  parts_each (unary Not φ) n at g = parts_each φ n (suc at) (one Not φ at g)
  parts_each (unary Next φ) n at g =
      let h = one Next φ at g in
      each_next (temporal φ) (record { shape = φ; position = suc at; first = suc n }) (parts φ (suc n) (suc at)) (parts φ n (suc at)) h
      (parts_each φ n (suc at) h) (parts_each φ (suc n) (suc at) h)
  parts_each (unary Eventually φ) n at g = (g, parts_each φ (suc n) (suc at) (one Eventually φ at g))
  parts_each (unary Always φ) n at g = (g, parts_each φ (suc n) (suc at) (one Always φ at g))
  parts_each (binary And φ ψ) n at g =
      each_append (parts φ n (suc at)) _ (parts_each φ n (suc at) (left And φ ψ at g)) (parts_each ψ (n + count φ) (suc at + size φ) (right And φ ψ at g))
  parts_each (binary Or φ ψ) n at g =
      each_append (parts φ n (suc at)) _ (parts_each φ n (suc at) (left Or φ ψ at g)) (parts_each ψ (n + count φ) (suc at + size φ) (right Or φ ψ at g))
  parts_each (binary Until φ ψ) n at g = (
    g,
    each_append (parts φ (suc n) (suc at)) _ (parts_each φ (suc n) (suc at) (left Until φ ψ at g))
        (parts_each ψ (suc n + count φ) (suc at + size φ) (right Until φ ψ at g)),
  )
  parts_each (binary Release φ ψ) n at g = (
    g,
    each_append (parts φ (suc n) (suc at)) _ (parts_each φ (suc n) (suc at) (left Release φ ψ at g))
        (parts_each ψ (suc n + count φ) (suc at + size φ) (right Release φ ψ at g)),
  )

  -- tests that agree where P holds make the same number of the parts
  pub parts_same : (p q : Part → Bool) → ((x : Part) → P x.shape x.position → p x ≡ q x) → (φ : Formula) → P φ 0
      → bits_of p (parts_of φ) ≡ bits_of q (parts_of φ)
  unfolding bits_of parts_of
  parts_same p q e φ g = go (parts φ 0 0) (parts_each φ 0 0 g)
    where
      go : (ps : List Part) → Each ps → bits_of p ps ≡ bits_of q ps
      go [] h = refl
      go (x ∷ ps) h = ap₂ (λ (b : Bool) (m : ℕ). digit b + 2 * m) (e x h.0) (go ps h.1)
