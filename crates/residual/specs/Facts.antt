-- The facts of a formula, read once in a world: one bit for the truth of each fact code. What runs over the settings of the carried parts is given
-- these truths and the action that was made, and no state.
use Rattle.std.specs.Prelude.{ℕ, suc, ◌+◌, ◌*◌, ◌/◌, ◌^◌, Option}
use Rattle.std.specs.Int.Bits.{bit_or}
use Rattle.model.specs.Bits.{bit, digit}
use Rattle.model.specs.logic.Formula.{Formula, constant, fact, action, unary, binary}
use Rattle.model.specs.logic.Parts.{size}
use Rattle.model.specs.logic.Truth.{World}

-- A fact code and its number take two bytes, so of two fact codes one stands at least two bytes further on: half the position is different for each.
-- A formula has at most 128 bytes, so 64 bits hold its truths.
abbrev pub truth_bit : ℕ → ℕ
truth_bit at = at / 2

-- "the truth of each fact code": those of the formula at a position, in the state s
unfoldable pub fact_truths : Formula → ℕ → ℕ → ℕ
unfolding bit digit size
fact_truths (constant c) at s = 0
fact_truths (fact i) at s = digit (bit s i) * 2 ^ truth_bit at
fact_truths (action a) at s = 0
fact_truths (unary o φ) at s = fact_truths φ (suc at) s
fact_truths (binary o φ ψ) at s = bit_or (fact_truths φ (suc at) s) (fact_truths ψ (suc at + size φ) s)

-- "these truths and no state": what is known of a world where a formula is evaluated
pub record Valuation : Type 0 where
  pub truths : ℕ
  pub made : Option ℕ

-- what is known after the facts of a formula were read in a world
abbrev pub read_in : World → Formula → Valuation
read_in w φ = record { truths = fact_truths φ 0 w.state; made = w.made }
