-- The walk over a formula's bytes: the numbers of its carried parts, and the tables that it leaves. `under` says that a formula is the operand
-- of a next, n is the number of the next carried part.
use Rattle.std.specs.Prelude.{ℕ, suc, ◌+◌, ◌≤◌, Bool, true, false, ◌||◌, Option, None, Some, List, set}
use Rattle.std.specs.Bool.{then_some}
use Rattle.model.specs.declared.Unary.{Unary}
use Rattle.model.specs.declared.Binary.{Binary}
use Rattle.model.specs.logic.Formula.{Formula, constant, fact, action, unary, binary}
use Rattle.model.specs.logic.Reading.{Parsed, formula, wrong}
use Rattle.model.specs.logic.Parts.{most_bytes, most_parts, size, temporal, temporal1, temporal2}
use Rattle.bits.specs.Tables.{everywhere}
use Rattle.formula.specs.Extent.{is_next}
use Rattle.residual.specs.declared.Value.{Value}
use Rattle.residual.specs.declared.Numbering.{Numbering}
use Rattle.residual.specs.Facts.{Valuation}
use Rattle.residual.specs.Node.{of_nothing1, of_nothing2, after, table_of, ahead_table, table1, table2}

-- where a formula's own numbers start: after it, if it is a part only as the operand of a next
abbrev pub starts : Bool → Bool → ℕ → ℕ
starts false carried n = n
starts true true n = n
starts true false n = suc n

-- how a formula counts among the parts, where n is the next number
abbrev pub numbers_of : Bool → Bool → ℕ → Numbering
numbers_of under carried n =
    let own = starts under carried n in record { part = then_some (under || carried) n; own = own; inner = after carried own }

-- a table put in its place, if it is that of a part
abbrev pub put : Option ℕ → ℕ → List ℕ → List ℕ
put (Some n) x t = set t n x
put None x t = t

-- the number of the first part after a formula
unfoldable pub behind : Formula → Bool → ℕ → ℕ
behind (constant c) under n = starts under false n
behind (fact i) under n = starts under false n
behind (action a) under n = starts under false n
behind (unary o φ) under n = behind φ (is_next o) (after (temporal1 o) (starts under (temporal1 o) n))
behind (binary o φ ψ) under n = behind ψ false (behind φ false (after (temporal2 o) (starts under (temporal2 o) n)))

-- the tables after the formula at a position, where t are those before it: each part's table is put in its place
module _ (closing : Bool) (v : Valuation) where
  unfoldable pub filled : Formula → ℕ → Bool → ℕ → List ℕ → List ℕ
  unfolding size behind table_of
  filled (constant c) at under n t = put (then_some (under || false) n) (table_of closing v (constant c) at (starts under false n)) t
  filled (fact i) at under n t = put (then_some (under || false) n) (table_of closing v (fact i) at (starts under false n)) t
  filled (action a) at under n t = put (then_some (under || false) n) (table_of closing v (action a) at (starts under false n)) t
  filled (unary o φ) at under n t =
      let own = starts under (temporal1 o) n in
      put (then_some (under || temporal1 o) n) (table_of closing v (unary o φ) at own) (filled φ (suc at) (is_next o) (after (temporal1 o) own) t)
  filled (binary o φ ψ) at under n t =
      let own = starts under (temporal2 o) n in
      put (then_some (under || temporal2 o) n) (table_of closing v (binary o φ ψ) at own)
      (filled ψ (suc at + size φ) false (behind φ false (after (temporal2 o) own)) (filled φ (suc at) false (after (temporal2 o) own) t))

  -- what the walk answers at a position, and the tables that it leaves
  unfoldable pub evaluated : Parsed → ℕ → Bool → ℕ → Value
  unfolding temporal behind table_of
  evaluated (formula φ n) at under i = record { table = table_of closing v φ at (starts under (temporal φ) i); next = n; parts = behind φ under i }
  evaluated (wrong p) at under i = record { table = 0; next = p; parts = i }

  unfoldable pub filled_by : Parsed → ℕ → Bool → ℕ → List ℕ → List ℕ
  unfolding filled
  filled_by (formula φ n) at under i t = filled φ at under i t
  filled_by (wrong p) at under i t = t

-- a formula was read, the numbers of its carried parts are below the most that there may be, and it ends within the most bytes
abbrev pub Few : Parsed → Bool → ℕ → Type 0
Few (formula φ n) under i = (behind φ under i ≤ most_parts) × (n ≤ most_bytes)
Few (wrong p) under i = ⊥

-- ---- what the code makes of the operands' values
abbrev pub leaf : Bool → ℕ → ℕ → Value
leaf t n i = record { table = everywhere most_parts t; next = n; parts = i }

abbrev pub one : Bool → Unary → ℕ → Value → Value
one closing o own p =
    record { table = table1 o p.table (ahead_table closing (of_nothing1 o) own); next = p.next; parts = p.parts }

abbrev pub two : Bool → Binary → ℕ → Value → Value → Value
two closing o own p q =
    record { table = table2 o p.table q.table (ahead_table closing (of_nothing2 o) own); next = q.next; parts = q.parts }
