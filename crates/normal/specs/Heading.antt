-- The bytes that stand before a node's operands in positive normal form, by the node's code and its sign: true where the formula is written,
-- and false where its negation is.
use Rattle.std.specs.Prelude.{ℕ, Bool, true, false, not, List, [], ◌∷◌}
use Rattle.model.specs.declared.Constant.{Constant}
use Rattle.model.specs.declared.Constant.TheVariants.{False, True, Last}
use Rattle.model.specs.declared.Unary.{Unary}
use Rattle.model.specs.declared.Unary.TheVariants.{Not, Next, Eventually, Always}
use Rattle.model.specs.declared.Binary.{Binary}
use Rattle.model.specs.declared.Binary.TheVariants.{And, Or, Until, Release}
use Rattle.model.specs.declared.Code.{Code}
use Rattle.model.specs.declared.Code.TheVariants.{Leaf, Fact, Action, One, Two, Unknown}
use Rattle.normal.specs.declared.heading.Head.{Head}
use Rattle.normal.specs.declared.heading.Head.TheVariants.{Nothing, Single, Pair, Triple}

abbrev pub bytes_in : Head → List ℕ
bytes_in Nothing = []
bytes_in (Single a) = a ∷ []
bytes_in (Pair a b) = a ∷ b ∷ []
bytes_in (Triple a b c) = a ∷ b ∷ c ∷ []

abbrev pub head0 : Constant → Bool → Head
head0 False true = Single 0x00
head0 False false = Single 0x01
head0 True true = Single 0x01
head0 True false = Single 0x00
head0 Last true = Single 0x02
head0 Last false = Pair 0x10 0x02

abbrev pub head1 : Unary → Bool → Head
head1 Not b = Nothing
head1 Next true = Single 0x20
head1 Next false = Triple 0x12 0x02 0x20
head1 Eventually true = Single 0x21
head1 Eventually false = Single 0x22
head1 Always true = Single 0x22
head1 Always false = Single 0x21

abbrev pub head2 : Binary → Bool → Head
head2 And true = Single 0x11
head2 And false = Single 0x12
head2 Or true = Single 0x12
head2 Or false = Single 0x11
head2 Until true = Single 0x23
head2 Until false = Single 0x24
head2 Release true = Single 0x24
head2 Release false = Single 0x23

-- a number after its code
abbrev pub head_number : ℕ → ℕ → Bool → Head
head_number c n true = Pair c n
head_number c n false = Triple 0x10 c n

-- n is the byte after the code
abbrev pub head_of : Code → ℕ → Bool → Head
head_of (Leaf c) n b = head0 c b
head_of Fact n b = head_number 0x03 n b
head_of Action n b = head_number 0x04 n b
head_of (One o) n b = head1 o b
head_of (Two o) n b = head2 o b
head_of Unknown n b = Nothing

abbrev pub heading : Code → ℕ → Bool → List ℕ
heading k n b = bytes_in (head_of k n b)

-- the sign of an operator's one operand
abbrev pub sign : Unary → Bool → Bool
sign Not b = not b
sign Next b = b
sign Eventually b = b
sign Always b = b
