-- How the logic stores a formula that a clause speaks of: as its codes with their numbers, each after its operands.
use Rattle.std.specs.Prelude.{◌≡◌, refl, ℕ, List, [], ◌∷◌}
use Rattle.std.specs.Coded.{Coded, code_by, coded×, coded_ℕ, coded_list}
use Rattle.std.proofs.Common.{◌∙◌, ap}
use Rattle.model.specs.contracts.Code as code
use Rattle.model.specs.declared.Constant.TheVariants.{False}
use Rattle.model.specs.declared.Code.{Code}
use Rattle.model.specs.declared.Code.TheVariants.{Leaf, Fact, Action, One, Two, Unknown}
use Rattle.model.specs.logic.Formula.{Formula, constant, fact, action, unary, binary}

-- the codes of a formula, before others
abbrev codes_of : Formula → List (Code × ℕ) → List (Code × ℕ)
codes_of (constant c) cs = (Leaf c, 0) ∷ cs
codes_of (fact i) cs = (Fact, i) ∷ cs
codes_of (action a) cs = (Action, a) ∷ cs
codes_of (unary o φ) cs = codes_of φ ((One o, 0) ∷ cs)
codes_of (binary o φ ψ) cs = codes_of φ (codes_of ψ ((Two o, 0) ∷ cs))

-- the formulas made so far, the latest first, after a code with its number
abbrev made_of : Code → ℕ → List Formula → List Formula
made_of (Leaf c) n φs = constant c ∷ φs
made_of Fact n φs = fact n ∷ φs
made_of Action n φs = action n ∷ φs
made_of (One o) n (φ ∷ φs) = unary o φ ∷ φs
made_of (One o) n [] = []
made_of (Two o) n (ψ ∷ φ ∷ φs) = binary o φ ψ ∷ φs
made_of (Two o) n (ψ ∷ []) = []
made_of (Two o) n [] = []
made_of Unknown n φs = φs

abbrev made_by : List (Code × ℕ) → List Formula → List Formula
made_by [] φs = φs
made_by (c ∷ cs) φs = made_by cs (made_of c.0 c.1 φs)

abbrev latest : List Formula → Formula
latest [] = constant False
latest (φ ∷ φs) = φ

-- the codes of a formula make it again
made_again : (φ : Formula) (cs : List (Code × ℕ)) (φs : List Formula) → made_by (codes_of φ cs) φs ≡ made_by cs (φ ∷ φs)
made_again (constant c) cs φs = refl
made_again (fact i) cs φs = refl
made_again (action a) cs φs = refl
made_again (unary o φ) cs φs = made_again φ ((One o, 0) ∷ cs) φs
made_again (binary o φ ψ) cs φs = made_again φ (codes_of ψ ((Two o, 0) ∷ cs)) φs ∙ made_again ψ ((Two o, 0) ∷ cs) (φ ∷ φs)

pub same_formula : (φ : Formula) → latest (made_by (codes_of φ []) []) ≡ φ
same_formula φ = ap latest (made_again φ [] [])

abbrev pub formula_code : Coded Formula
formula_code =
    code_by (List (Code × ℕ)) (coded_list (coded× code.the_row.coded coded_ℕ)) (λ φ. codes_of φ []) (λ cs. latest (made_by cs [])) same_formula
