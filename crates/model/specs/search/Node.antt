-- A node is a pair of document 01: a state with the residuals of all constraints. The residuals of several formulas.
use Rattle.std.specs.Prelude.{ℕ, Bool, true, false, List, [], ◌∷◌, eqb}
use Rattle.std.specs.Int.Bits.{bit_and}
use Rattle.model.specs.logic.Formula.{Formula}
use Rattle.model.specs.logic.Parts.{most_parts, parts_of}
use Rattle.model.specs.logic.Truth.{World}
use Rattle.model.specs.logic.Progression.{residual, progressed, dead, closing}

-- "A pair is a state with the remainders of all rules."
pub record Node : Type 0 where
  pub state : ℕ
  pub residuals : List ℕ

-- the words of a node in memory: a state and the residuals of eight constraints, of 64 bits each
abbrev pub node_words : ℕ
node_words = 9

-- what the formulas leave after the first world
unfoldable pub residuals : List Formula → World → List ℕ
unfolding residual
residuals [] w = []
residuals (φ ∷ φs) w = residual most_parts φ w ∷ residuals φs w

-- what their residuals leave after a further world
unfoldable pub progressed_all : List Formula → List ℕ → World → List ℕ
unfolding progressed parts_of
progressed_all [] rs w = []
progressed_all (φ ∷ φs) [] w = []
progressed_all (φ ∷ φs) (r ∷ rs) w = progressed most_parts (parts_of φ) r w ∷ progressed_all φs rs w

-- all are true of the closing world alone
unfoldable pub closing_all : List Formula → List ℕ → World → Bool
unfolding closing parts_of
closing_all [] rs w = true
closing_all (φ ∷ φs) [] w = true
closing_all (φ ∷ φs) (r ∷ rs) w = elim (closing (parts_of φ) r w) [ true ↦ closing_all φs rs w | false ↦ false ]

unfoldable pub some_dead : List ℕ → Bool
unfolding dead
some_dead [] = false
some_dead (r ∷ rs) = elim (dead r) [ true ↦ true | false ↦ some_dead rs ]

-- the conjunction, residual by residual
unfoldable pub meet_all : List ℕ → List ℕ → List ℕ
meet_all [] qs = []
meet_all (r ∷ rs) [] = []
meet_all (r ∷ rs) (q ∷ qs) = bit_and r q ∷ meet_all rs qs

unfoldable pub same_numbers : List ℕ → List ℕ → Bool
same_numbers [] [] = true
same_numbers [] (q ∷ qs) = false
same_numbers (r ∷ rs) [] = false
same_numbers (r ∷ rs) (q ∷ qs) = elim (eqb r q) [ true ↦ same_numbers rs qs | false ↦ false ]

unfoldable pub same_node : Node → Node → Bool
unfolding same_numbers
same_node m n = elim (eqb m.state n.state) [ true ↦ same_numbers m.residuals n.residuals | false ↦ false ]
