-- The truth of a formula in one world by that of its operands, and its truth table by theirs. `closing` says that the world is the closing
-- one: no world is ahead of it. Before it, the truth in the worlds ahead is an unknown, one for each carried part.
use Rattle.std.specs.Prelude.{ℕ, suc, ◌+◌, Bool, true, false, not, ◌&&◌, ◌||◌, Option, None}
use Rattle.model.specs.declared.Constant.{Constant}
use Rattle.model.specs.declared.Constant.TheVariants.{False, True, Last}
use Rattle.model.specs.declared.Unary.{Unary}
use Rattle.model.specs.declared.Unary.TheVariants.{Not, Next, Eventually, Always}
use Rattle.model.specs.declared.Binary.{Binary}
use Rattle.model.specs.declared.Binary.TheVariants.{And, Or, Until, Release}
use Rattle.model.specs.Bits.{bit, of_bits}
use Rattle.model.specs.logic.Formula.{Formula, constant, fact, action, unary, binary}
use Rattle.model.specs.logic.Parts.{size, count, temporal1, temporal2}
use Rattle.model.specs.logic.Truth.{is_made}
use Rattle.residual.specs.declared.World.{World}
use Rattle.residual.specs.declared.World.TheVariants.{After, Closing}
use Rattle.residual.specs.declared.Moment.{Moment}
use Rattle.residual.specs.Facts.{Valuation, truth_bit}

abbrev pub is_closing : World → Bool
is_closing (After made) = false
is_closing Closing = true

-- in the closing world no action is made
abbrev pub made_in : World → Option ℕ
made_in (After made) = made
made_in Closing = None

abbrev pub valuation_of : Moment → Valuation
valuation_of m = record { truths = m.truths; made = made_in m.world }

-- ---- by the operands' truth
abbrev pub truth0 : Bool → Constant → Bool
truth0 closing False = false
truth0 closing True = true
truth0 closing Last = closing

-- the truth of an operator where no world is ahead
abbrev pub of_nothing1 : Unary → Bool
of_nothing1 Not = false
of_nothing1 Next = false
of_nothing1 Eventually = false
of_nothing1 Always = true

abbrev pub of_nothing2 : Binary → Bool
of_nothing2 And = false
of_nothing2 Or = false
of_nothing2 Until = false
of_nothing2 Release = true

-- the truth in the worlds ahead: that of nothing, or the unknown
abbrev pub ahead : Bool → Bool → Bool → Bool
ahead true nothing unknown = nothing
ahead false nothing unknown = unknown

unfoldable pub truth1 : Unary → Bool → Bool → Bool
truth1 Not p rest = not p
truth1 Next p rest = rest
truth1 Eventually p rest = p || rest
truth1 Always p rest = p && rest

unfoldable pub truth2 : Binary → Bool → Bool → Bool → Bool
truth2 And p q rest = p && q
truth2 Or p q rest = p || q
truth2 Until p q rest = q || (p && rest)
truth2 Release p q rest = q && (p || rest)

-- the number after a formula's own
abbrev pub after : Bool → ℕ → ℕ
after true n = suc n
after false n = n

-- the truth of the formula at a position, where part i has the truth s i in the worlds ahead and n is the number of its first part
module _ (closing : Bool) (v : Valuation) where
  unfoldable pub truth : Formula → ℕ → ℕ → (ℕ → Bool) → Bool
  unfolding bit is_made size count truth1 truth2
  truth (constant c) at n s = truth0 closing c
  truth (fact i) at n s = bit v.truths (truth_bit at)
  truth (action a) at n s = is_made v.made a
  truth (unary o φ) at n s = truth1 o (truth φ (suc at) (after (temporal1 o) n) s) (ahead closing (of_nothing1 o) (s n))
  truth (binary o φ ψ) at n s =
      let i = after (temporal2 o) n in
      truth2 o (truth φ (suc at) i s) (truth ψ (suc at + size φ) (i + count φ) s) (ahead closing (of_nothing2 o) (s n))

-- ---- the same of tables, for all settings of the unknowns
unfoldable pub table_of : Bool → Valuation → Formula → ℕ → ℕ → ℕ
unfolding truth bit of_bits
table_of closing v φ at n = of_bits 64 (λ k. truth closing v φ at n (bit k))

unfoldable pub ahead_table : Bool → Bool → ℕ → ℕ
unfolding bit of_bits
ahead_table closing nothing n = of_bits 64 (λ k. ahead closing nothing (bit k n))

unfoldable pub table1 : Unary → ℕ → ℕ → ℕ
unfolding truth1 bit of_bits
table1 o p rest = of_bits 64 (λ k. truth1 o (bit p k) (bit rest k))

unfoldable pub table2 : Binary → ℕ → ℕ → ℕ → ℕ
unfolding truth2 bit of_bits
table2 o p q rest = of_bits 64 (λ k. truth2 o (bit p k) (bit q k) (bit rest k))
