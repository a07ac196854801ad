-- What reading a formula yields in the code: where it ends, and what was seen of its carried parts.
use Rattle.std.specs.Prelude.{ℕ, suc, ◌+◌, Bool, true, false, ◌||◌, List, length, get_or, ltb, Option, None, Some, Result, Ok, Err}
use Rattle.model.specs.declared.Unary.{Unary}
use Rattle.model.specs.declared.Unary.TheVariants.{Not, Next, Eventually, Always}
use Rattle.model.specs.declared.Code.{Code}
use Rattle.model.specs.declared.Code.TheVariants.{Leaf, Fact, Action, One, Two, Unknown}
use Rattle.model.specs.logic.Formula.{Formula, constant, fact, action, unary, binary, choose}
use Rattle.model.specs.logic.Reading.{Parsed, formula, wrong}
use Rattle.model.specs.logic.Parts.{most_parts, size, temporal1, temporal2}
use Rattle.formula.specs.declared.Seen.{Seen}
use Rattle.formula.specs.declared.End.{End}
use Rattle.formula.specs.declared.WrongAt.{WrongAt}

-- a code whose formula is a carried part wherever it stands
abbrev pub carries : Code → Bool
carries (Leaf c) = false
carries Fact = false
carries Action = false
carries (One o) = temporal1 o
carries (Two o) = temporal2 o
carries Unknown = false

abbrev pub is_next : Unary → Bool
is_next Not = false
is_next Next = true
is_next Eventually = false
is_next Always = false

abbrev pub none : Seen
none = record { parts = 0; seventh = None }

-- the first of two positions, if there is one
abbrev pub first_at : Option ℕ → ℕ → Option ℕ
first_at None at = Some at
first_at (Some p) at = Some p

-- one part more; after the sixth, the first one that is too many
abbrev pub note : Seen → ℕ → Seen
note s at =
    choose (ltb s.parts most_parts) (record { parts = s.parts + 1; seventh = s.seventh })
    (record { parts = s.parts; seventh = first_at s.seventh at })

abbrev pub note_if : Bool → Seen → ℕ → Seen
note_if true s at = note s at
note_if false s at = s

-- the parts seen before a formula at a position and those in it; `under` says that it is the operand of a next
unfoldable pub seen_in : Formula → Bool → Seen → ℕ → Seen
unfolding size
seen_in (constant c) under s at = note_if under s at
seen_in (fact i) under s at = note_if under s at
seen_in (action a) under s at = note_if under s at
seen_in (unary o φ) under s at = seen_in φ (is_next o) (note_if (under || temporal1 o) s at) (suc at)
seen_in (binary o φ ψ) under s at = seen_in ψ false (seen_in φ false (note_if (under || temporal2 o) s at) (suc at)) (suc at + size φ)

-- the position after a formula with the parts seen up to there, or the position of the first byte that is wrong
abbrev pub Extent : Type 0
Extent = Result End WrongAt

-- an extent, of its parts
abbrev pub whole : ℕ → Seen → Extent
whole n s = Ok (record { next = n; seen = s })

abbrev pub wrong_at : ℕ → Extent
wrong_at p = Err (record { 0 = p })

-- what reading at a position answers
unfoldable pub extent : Bool → Seen → ℕ → Parsed → Extent
unfolding seen_in
extent under s at (formula φ n) = whole n (seen_in φ under s at)
extent under s at (wrong p) = wrong_at p

-- the same of a number after a code, with the parts seen up to there
unfoldable pub number_extent : ℕ → List ℕ → Seen → ℕ → Extent
number_extent bound s seen at =
    choose (ltb at (length s)) (choose (ltb (get_or s at 0) bound) (whole (at + 1) seen) (wrong_at at)) (wrong_at (length s))
