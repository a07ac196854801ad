-- Each code has its byte, and each byte its code.
use mathlib.Core.Path.{◌≡◌, refl}
use Prim.Native.Nat.{ℕ}
use mathlib.Core.Bool.{Bool, true, false}
use lib.Dec.{eqb}
use borrow.Author.Tests.{eqb-true}
use Rattle.model.specs.declared.Constant.{Constant}
use Rattle.model.specs.declared.Constant.TheVariants.{False, True, Last}
use Rattle.model.specs.declared.Unary.{Unary}
use Rattle.model.specs.declared.Unary.TheVariants.{Not, Next, Eventually, Always}
use Rattle.model.specs.declared.Binary.{Binary}
use Rattle.model.specs.declared.Binary.TheVariants.{And, Or, Until, Release}
use Rattle.model.specs.declared.Code.{Code}
use Rattle.model.specs.declared.Code.TheVariants.{Leaf, Fact, Action, One, Two, Unknown}
use Rattle.model.specs.logic.Formula.{choose, code_of, byte0, byte1, byte2}

-- a byte is that of a code
abbrev pub Byte : ℕ → Code → Type 0
Byte b (Leaf c) = b ≡ byte0 c
Byte b Fact = b ≡ 0x03
Byte b Action = b ≡ 0x04
Byte b (One o) = b ≡ byte1 o
Byte b (Two o) = b ≡ byte2 o
Byte b Unknown = Unit {0}

tested : (b n : ℕ) (k r : Code) → (b ≡ n → Byte b k) → Byte b r → Byte b (choose (eqb b n) k r)
tested b n k r f g = go (eqb b n) refl
  where
    go : (t : Bool) → eqb b n ≡ t → Byte b (choose t k r)
    go true e = f (eqb-true b n e)
    go false e = g

-- the code of a byte has that byte
pub code_byte : (b : ℕ) → Byte b (code_of b)
unfolding code_of
code_byte b =
    tested b 0x00 (Leaf False) _ (λ e. e)
    (tested b 0x01 (Leaf True) _ (λ e. e)
    (tested b 0x02 (Leaf Last) _ (λ e. e)
    (tested b 0x03 Fact _ (λ e. e)
    (tested b 0x04 Action _ (λ e. e)
    (tested b 0x10 (One Not) _ (λ e. e)
    (tested b 0x11 (Two And) _ (λ e. e)
    (tested b 0x12 (Two Or) _ (λ e. e)
    (tested b 0x20 (One Next) _ (λ e. e)
    (tested b 0x21 (One Eventually) _ (λ e. e)
    (tested b 0x22 (One Always) _ (λ e. e)
    (tested b 0x23 (Two Until) _ (λ e. e)
    (tested b 0x24 (Two Release) _ (λ e. e) tt))))))))))))

-- the byte of a constant has its code; and so for the operators
pub code0 : (c : Constant) → code_of (byte0 c) ≡ Leaf c
unfolding code_of
code0 False = refl
code0 True = refl
code0 Last = refl

pub code1 : (o : Unary) → code_of (byte1 o) ≡ One o
unfolding code_of
code1 Not = refl
code1 Next = refl
code1 Eventually = refl
code1 Always = refl

pub code2 : (o : Binary) → code_of (byte2 o) ≡ Two o
unfolding code_of
code2 And = refl
code2 Or = refl
code2 Until = refl
code2 Release = refl
