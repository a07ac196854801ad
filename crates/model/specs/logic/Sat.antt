-- Truth as source document 003 defines it (definition 1), with positions and quantifiers. That document prints w0 for a symbol at moment i;
-- wi is meant. The list of worlds is w0 to wn, so n + 1 is its length.
use Rattle.std.specs.Prelude.{◌≡◌, ℕ, suc, ◌≤◌, ◌<◌, true, List, length, get_or, None}
use Rattle.model.specs.declared.Constant.TheVariants.{False, True, Last}
use Rattle.model.specs.declared.Unary.TheVariants.{Not, Next, Eventually, Always}
use Rattle.model.specs.declared.Binary.TheVariants.{And, Or, Until, Release}
use Rattle.model.specs.Bits.{bit}
use Rattle.model.specs.logic.Formula.{Formula, constant, fact, action, unary, binary}
use Rattle.model.specs.logic.Truth.{World, is_made}

abbrev no_world : World
no_world = record { state = 0; made = None }

module _ (w : List World) where
  -- "there exists a j with i ≤ j ≤ n such that w, j satisfies ψ2, and for all i ≤ k < j, w, k satisfies ψ1"
  abbrev pub UntilAt : (ℕ → Type 0) → (ℕ → Type 0) → ℕ → Type 0
  UntilAt p q i = (j : ℕ) × (i ≤ j) × (j < length w) × q j × ((k : ℕ) → i ≤ k → k < j → p k)

  -- w, i satisfies a formula
  unfoldable pub Sat : ℕ → Formula → Type 0
  Sat i (constant False) = ⊥
  Sat i (constant True) = Unit {0}
  -- the abbreviation last: not next true
  Sat i (constant Last) = (suc i < length w) × Unit {0} → ⊥
  Sat i (fact f) = bit (get_or w i no_world).state f ≡ true
  Sat i (action a) = is_made (get_or w i no_world).made a ≡ true
  Sat i (unary Not ψ) = Sat i ψ → ⊥
  -- "i < n and w, i + 1 satisfies ψ"
  Sat i (unary Next ψ) = (suc i < length w) × Sat (suc i) ψ
  -- the abbreviations: eventually φ is true until φ; always φ is not eventually not φ
  Sat i (unary Eventually ψ) = UntilAt (λ k. Unit {0}) (λ j. Sat j ψ) i
  Sat i (unary Always ψ) = UntilAt (λ k. Unit {0}) (λ j. Sat j ψ → ⊥) i → ⊥
  Sat i (binary And φ ψ) = Sat i φ × Sat i ψ
  -- not (not φ and not ψ)
  Sat i (binary Or φ ψ) = (Sat i φ → ⊥) × (Sat i ψ → ⊥) → ⊥
  Sat i (binary Until φ ψ) = UntilAt (λ k. Sat k φ) (λ j. Sat j ψ) i
  -- the abbreviation φ release ψ: not (not φ until not ψ)
  Sat i (binary Release φ ψ) = UntilAt (λ k. Sat k φ → ⊥) (λ j. Sat j ψ → ⊥) i → ⊥
