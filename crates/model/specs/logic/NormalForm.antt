-- Positive normal form: what a rule is written back as.
use Rattle.std.specs.Prelude.{Bool, true, false, ◌&&◌}
use Rattle.model.specs.declared.Constant.TheVariants.{False, True, Last}
use Rattle.model.specs.declared.Unary.TheVariants.{Not, Next, Eventually, Always}
use Rattle.model.specs.declared.Binary.TheVariants.{And, Or, Until, Release}
use Rattle.model.specs.logic.Formula.{Formula, constant, fact, action, unary, binary}

-- The normal form of a formula (true), or of its negation (false): "not only before fact, step or last, by the equivalences of document 003
-- (not next ψ becomes last or next not ψ); double nots vanish, not true is false and the reverse, and no other change is made".
unfoldable pub nnf : Formula → Bool → Formula
nnf (constant c) true = constant c
nnf (constant False) false = constant True
nnf (constant True) false = constant False
nnf (constant Last) false = unary Not (constant Last)
nnf (fact i) true = fact i
nnf (fact i) false = unary Not (fact i)
nnf (action a) true = action a
nnf (action a) false = unary Not (action a)
nnf (unary Not φ) true = nnf φ false
nnf (unary Not φ) false = nnf φ true
nnf (unary Next φ) true = unary Next (nnf φ true)
nnf (unary Next φ) false = binary Or (constant Last) (unary Next (nnf φ false))
nnf (unary Eventually φ) true = unary Eventually (nnf φ true)
nnf (unary Eventually φ) false = unary Always (nnf φ false)
nnf (unary Always φ) true = unary Always (nnf φ true)
nnf (unary Always φ) false = unary Eventually (nnf φ false)
nnf (binary o φ ψ) true = binary o (nnf φ true) (nnf ψ true)
nnf (binary And φ ψ) false = binary Or (nnf φ false) (nnf ψ false)
nnf (binary Or φ ψ) false = binary And (nnf φ false) (nnf ψ false)
nnf (binary Until φ ψ) false = binary Release (nnf φ false) (nnf ψ false)
nnf (binary Release φ ψ) false = binary Until (nnf φ false) (nnf ψ false)

abbrev pub is_literal : Formula → Bool
is_literal (constant False) = false
is_literal (constant True) = false
is_literal (constant Last) = true
is_literal (fact i) = true
is_literal (action a) = true
is_literal (unary o φ) = false
is_literal (binary o φ ψ) = false

-- in positive normal form: "not only before fact, step or last"
unfoldable pub positive : Formula → Bool
positive (constant c) = true
positive (fact i) = true
positive (action a) = true
positive (unary Not φ) = is_literal φ
positive (unary Next φ) = positive φ
positive (unary Eventually φ) = positive φ
positive (unary Always φ) = positive φ
positive (binary o φ ψ) = positive φ && positive ψ
