-- Formulas of linear temporal logic on finite traces, and their codes. Document 01 calls them rules; an action is its step.
use Rattle.std.specs.Prelude.{ℕ, Bool, true, false, List, [], ◌∷◌, ◌++◌, eqb}
use Rattle.model.specs.declared.Constant.{Constant}
use Rattle.model.specs.declared.Constant.TheVariants.{False, True, Last}
use Rattle.model.specs.declared.Unary.{Unary}
use Rattle.model.specs.declared.Unary.TheVariants.{Not, Next, Eventually, Always}
use Rattle.model.specs.declared.Binary.{Binary}
use Rattle.model.specs.declared.Binary.TheVariants.{And, Or, Until, Release}
use Rattle.model.specs.declared.Code.{Code}
use Rattle.model.specs.declared.Code.TheVariants.{Leaf, Fact, Action, One, Two, Unknown}

-- "Operands of a rule are rules again."
pub data Formula : Type 0 where
  constant : Constant → Formula
  fact action : ℕ → Formula
  unary : Unary → Formula → Formula
  binary : Binary → Formula → Formula → Formula

abbrev pub choose : {A : Type 0} → Bool → A → A → A
choose true x y = x
choose false x y = y

-- "codes in hexadecimal: 00 false, 01 true, 02 last, 03 fact, 04 step, 10 not, 11 and, 12 or, 20 next, 21 eventually, 22 always, 23 until,
-- 24 release"
unfoldable pub code_of : ℕ → Code
code_of b =
    choose (eqb b 0x00) (Leaf False)
    (choose (eqb b 0x01) (Leaf True)
    (choose (eqb b 0x02) (Leaf Last)
    (choose (eqb b 0x03) Fact
    (choose (eqb b 0x04) Action
    (choose (eqb b 0x10) (One Not)
    (choose (eqb b 0x11) (Two And)
    (choose (eqb b 0x12) (Two Or)
    (choose (eqb b 0x20) (One Next)
    (choose (eqb b 0x21) (One Eventually)
    (choose (eqb b 0x22) (One Always)
    (choose (eqb b 0x23) (Two Until)
    (choose (eqb b 0x24) (Two Release) Unknown))))))))))))

abbrev pub byte0 : Constant → ℕ
byte0 False = 0x00
byte0 True = 0x01
byte0 Last = 0x02

abbrev pub byte1 : Unary → ℕ
byte1 Not = 0x10
byte1 Next = 0x20
byte1 Eventually = 0x21
byte1 Always = 0x22

abbrev pub byte2 : Binary → ℕ
byte2 And = 0x11
byte2 Or = 0x12
byte2 Until = 0x23
byte2 Release = 0x24

-- the bytes of a formula, "in prefix order"
unfoldable pub encode : Formula → List ℕ
encode (constant c) = byte0 c ∷ []
encode (fact i) = 0x03 ∷ i ∷ []
encode (action a) = 0x04 ∷ a ∷ []
encode (unary o φ) = byte1 o ∷ encode φ
encode (binary o φ ψ) = byte2 o ∷ encode φ ++ encode ψ
