-- The size and the carried parts of a formula; refusal 5.
use Rattle.std.specs.Prelude.{ℕ, suc, ◌+◌, Bool, true, false, List, [], ◌∷◌, ◌++◌}
use Rattle.model.specs.declared.Unary.{Unary}
use Rattle.model.specs.declared.Unary.TheVariants.{Not, Next, Eventually, Always}
use Rattle.model.specs.declared.Binary.{Binary}
use Rattle.model.specs.declared.Binary.TheVariants.{And, Or, Until, Release}
use Rattle.model.specs.logic.Formula.{Formula, constant, fact, action, unary, binary}

-- a formula's section "has 1 to 128 bytes"
abbrev pub most_bytes : ℕ
most_bytes = 128

-- the number of bytes
unfoldable pub size : Formula → ℕ
size (constant c) = 1
size (fact i) = 2
size (action a) = 2
size (unary o φ) = 1 + size φ
size (binary o φ ψ) = 1 + (size φ + size ψ)

-- "begins with 21 to 24"
abbrev pub temporal1 : Unary → Bool
temporal1 Not = false
temporal1 Next = false
temporal1 Eventually = true
temporal1 Always = true

abbrev pub temporal2 : Binary → Bool
temporal2 And = false
temporal2 Or = false
temporal2 Until = true
temporal2 Release = true

unfoldable pub temporal : Formula → Bool
temporal (constant c) = false
temporal (fact i) = false
temporal (action a) = false
temporal (unary o φ) = temporal1 o
temporal (binary o φ ψ) = temporal2 o

-- "A part of a rule is carried if it is the operand of a next or begins with 21 to 24. Each place in the bytes counts as one part."
-- So an operand of a next that begins with 21 to 24 is one part.
unfoldable pub count : Formula → ℕ
unfolding temporal
count (constant c) = 0
count (fact i) = 0
count (action a) = 0
count (unary Not φ) = count φ
count (unary Next φ) = elim (temporal φ) [ true ↦ count φ | false ↦ 1 + count φ ]
count (unary Eventually φ) = 1 + count φ
count (unary Always φ) = 1 + count φ
count (binary And φ ψ) = count φ + count ψ
count (binary Or φ ψ) = count φ + count ψ
count (binary Until φ ψ) = 1 + (count φ + count ψ)
count (binary Release φ ψ) = 1 + (count φ + count ψ)

-- "A rule has at most 6."
abbrev pub most_parts : ℕ
most_parts = 6

-- a carried part: the formula, its position, and the number of the first part that stands in it (its own, if it begins with 21 to 24)
pub record Part : Type 0 where
  pub shape : Formula
  pub position : ℕ
  pub first : ℕ

-- The carried parts of the formula at a position, by rising position; n is the number of the first.
unfoldable pub parts : Formula → ℕ → ℕ → List Part
unfolding temporal count size
parts (constant c) n at = []
parts (fact i) n at = []
parts (action a) n at = []
parts (unary Not φ) n at = parts φ n (suc at)
parts (unary Next φ) n at = elim (temporal φ) [
  | true ↦ parts φ n (suc at)
  | false ↦ record { shape = φ; position = suc at; first = suc n } ∷ parts φ (suc n) (suc at)
]
parts (unary Eventually φ) n at = record { shape = unary Eventually φ; position = at; first = n } ∷ parts φ (suc n) (suc at)
parts (unary Always φ) n at = record { shape = unary Always φ; position = at; first = n } ∷ parts φ (suc n) (suc at)
parts (binary And φ ψ) n at = parts φ n (suc at) ++ parts ψ (n + count φ) (suc at + size φ)
parts (binary Or φ ψ) n at = parts φ n (suc at) ++ parts ψ (n + count φ) (suc at + size φ)
parts (binary Until φ ψ) n at =
    record { shape = binary Until φ ψ; position = at; first = n } ∷ parts φ (suc n) (suc at) ++ parts ψ (suc n + count φ) (suc at + size φ)
parts (binary Release φ ψ) n at =
    record { shape = binary Release φ ψ; position = at; first = n } ∷ parts φ (suc n) (suc at) ++ parts ψ (suc n + count φ) (suc at + size φ)

-- the carried parts of a whole formula, numbered from 0
unfoldable pub parts_of : Formula → List Part
unfolding parts
parts_of φ = parts φ 0 0
