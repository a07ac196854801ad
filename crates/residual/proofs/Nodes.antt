-- A formula's truth table is made of its operands' tables.
use Rattle.std.proofs.Common.{◌≡◌, refl, ap, ap₂, ℕ, suc, ◌+◌, ◌<◌, Bool, true, false, not, ◌&&◌, ◌||◌, None, Some}
use denote.Enum.Bare.{sameb}
use Rattle.model.specs.contracts.Unary.{the_type}
use Rattle.model.specs.declared.Unary.{Unary}
use Rattle.model.specs.declared.Unary.TheVariants.{Not, Next, Eventually, Always}
use Rattle.model.specs.declared.Binary.{Binary}
use Rattle.model.specs.Bits.{bit}
use Rattle.model.specs.logic.Formula.{Formula, unary, binary}
use Rattle.model.specs.logic.Parts.{size, count, temporal, temporal1, temporal2}
use Rattle.model.specs.logic.Truth.{is_made}
use Rattle.model.proofs.bits.Bits.{bit_of_bits, of_bits_cong}
use Rattle.formula.specs.Extent.{is_next}
use Rattle.residual.specs.contracts.WorldPartialEq.TheImpl as world
use Rattle.residual.specs.declared.World.{World}
use Rattle.residual.specs.declared.World.TheVariants.{After, Closing}
use Rattle.residual.specs.Facts.{Valuation}
use Rattle.residual.specs.Node.{made_in, truth, truth1, truth2, of_nothing1, of_nothing2, ahead, after, table_of, ahead_table, table1, table2}
use Rattle.residual.specs.Walk.{starts}

-- ---- what the code compares

-- an operator with the next
pub compared_next : (o : Unary) → sameb the_type o Next ≡ is_next o
compared_next Not = refl
compared_next Next = refl
compared_next Eventually = refl
compared_next Always = refl

-- the world with one after an action
pub compared_action : (w : World) (a : ℕ) {r : Bool} → r ≡ world.ghosts.eq w (After (Some a)) → r ≡ is_made (made_in w) a
unfolding is_made
compared_action (After None) a e = e
compared_action (After (Some b)) a e = e
compared_action Closing a e = e

module _ (closing : Bool) (v : Valuation) where
  -- ---- the bits of a table
  pub bit_table : (φ : Formula) (at n k : ℕ) → k < 64 → bit (table_of closing v φ at n) k ≡ truth closing v φ at n (bit k)
  unfolding table_of
  bit_table φ at n k h = bit_of_bits 64 (λ j. truth closing v φ at n (bit j)) k h

  bit_ahead : (nothing : Bool) (n k : ℕ) → k < 64 → bit (ahead_table closing nothing n) k ≡ ahead closing nothing (bit k n)
  unfolding ahead_table
  bit_ahead nothing n k h = bit_of_bits 64 (λ j. ahead closing nothing (bit j n)) k h

  -- ---- one operand

  -- bit by bit; a next has the worlds ahead alone, wherever its operand's numbers start
  bits_one : (o : Unary) (φ : Formula) (at n k : ℕ) → k < 64
      → truth1 o (bit (table_of closing v φ at (starts (is_next o) (temporal φ) (after (temporal1 o) n))) k) (bit (ahead_table closing (of_nothing1 o) n) k)
      ≡ truth1 o (truth closing v φ at (after (temporal1 o) n) (bit k)) (ahead closing (of_nothing1 o) (bit k n))
  unfolding truth1
  bits_one Not φ at n k h = ap not (bit_table φ at n k h)
  bits_one Next φ at n k h = bit_ahead false n k h
  bits_one Eventually φ at n k h = ap₂ ◌||◌ (bit_table φ at (suc n) k h) (bit_ahead false n k h)
  bits_one Always φ at n k h = ap₂ ◌&&◌ (bit_table φ at (suc n) k h) (bit_ahead true n k h)

  -- the table of a formula with one operand
  pub table_one : (o : Unary) (φ : Formula) (at n : ℕ)
      → table1 o (table_of closing v φ (suc at) (starts (is_next o) (temporal φ) (after (temporal1 o) n))) (ahead_table closing (of_nothing1 o) n)
      ≡ table_of closing v (unary o φ) at n
  unfolding table1 table_of truth
  table_one o φ at n = of_bits_cong 64 _ _ (λ k h. bits_one o φ (suc at) n k h)

  -- ---- two operands: the second one stands after the first, and so do its numbers
  pub table_two : (o : Binary) (φ ψ : Formula) (at n : ℕ)
      → (let m = after (temporal2 o) n in
      table2 o (table_of closing v φ (suc at) m) (table_of closing v ψ (suc at + size φ) (m + count φ)) (ahead_table closing (of_nothing2 o) n))
      ≡ table_of closing v (binary o φ ψ) at n
  unfolding table2 table_of truth
  table_two o φ ψ at n =
      let m : ℕ = after (temporal2 o) n in
      of_bits_cong 64 _ _
      (λ k h j. truth2 o (bit_table φ (suc at) m k h j) (bit_table ψ (suc at + size φ) (m + count φ) k h j) (bit_ahead (of_nothing2 o) n k h j))
