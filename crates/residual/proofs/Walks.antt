-- The walk goes by one node: what is answered for a formula, and the tables left, by what is answered for its operands.
use Rattle.std.proofs.Common.{◌≡◌, refl, ap, ℕ, suc, ◌+◌, ◌<◌, Bool, false, ◌||◌, List, add-one}
use Rattle.std.proofs.Math.Bool.{or-false}
use Rattle.std.specs.Bool.{then_some}
use Rattle.model.specs.declared.Constant.{Constant}
use Rattle.model.specs.declared.Unary.{Unary}
use Rattle.model.specs.declared.Binary.{Binary}
use Rattle.model.specs.Bits.{bit}
use Rattle.model.specs.logic.Formula.{Formula, constant, fact, action, unary, binary}
use Rattle.model.specs.logic.Reading.{Parsed, formula, wrong, then, and_then, parsed}
use Rattle.model.specs.logic.Parts.{most_parts, size, temporal1, temporal2}
use Rattle.model.specs.logic.Truth.{is_made}
use Rattle.model.proofs.logic.ReadingLaws.{parsed_grows, parsed_size}
use Rattle.bits.specs.Tables.{everywhere}
use Rattle.formula.specs.Extent.{is_next}
use Rattle.residual.specs.declared.Value.{Value}
use Rattle.residual.specs.Facts.{Valuation, truth_bit}
use Rattle.residual.specs.Node.{truth, truth0, of_nothing2, after, table_of, ahead_table, table2}
use Rattle.residual.specs.Walk.{starts, put, behind, filled, evaluated, filled_by, Few, leaf, one, two}
use Rattle.residual.proofs.Nodes.{table_one, table_two}
use Rattle.residual.proofs.Numbers.{behind_count}

module _ (closing : Bool) (v : Valuation) where
  -- a formula ends after its first byte
  pub walk_grows : (f a : ℕ) (s : List ℕ) (at : ℕ) (under : Bool) (i : ℕ) → Few (parsed f a s at) under i
      → at < (evaluated closing v (parsed f a s at) at under i).next
  unfolding evaluated
  walk_grows f a s at under i h = go (parsed f a s at) refl h
    where
      go : (q : Parsed) → parsed f a s at ≡ q → Few q under i → at < (evaluated closing v q at under i).next
      go (formula φ n) d h = parsed_grows f a s at φ n d
      go (wrong q) d h = absurd h

  module _ (at : ℕ) (under : Bool) (i : ℕ) (t : List ℕ) where
    -- what is to be answered for what was read, and the tables to be left
    abbrev Answered : Parsed → Value → List ℕ → Type 0
    Answered p r x = (r ≡ evaluated closing v p at under i) × (x ≡ filled_by closing v p at under i t)

    -- ---- no operand: the answer of a formula whose table is the constant one of b
    abbrev Leaves : Bool → Formula → ℕ → Type 0
    Leaves b φ n = Answered (formula φ n) (leaf b n (starts under false i)) (put (then_some under i) (everywhere most_parts b) t)

    pub constant_answers : (c : Constant) (n : ℕ) → Leaves (truth0 closing c) (constant c) n
    unfolding evaluated filled_by filled behind everywhere table_of truth
    constant_answers c n = (refl, simp or-false)

    pub fact_answers : (k n : ℕ) → Leaves (bit v.truths (truth_bit at)) (fact k) n
    unfolding evaluated filled_by filled behind everywhere table_of truth
    fact_answers k n = (refl, simp or-false)

    pub action_answers : (k n : ℕ) → Leaves (is_made v.made k) (action k) n
    unfolding evaluated filled_by filled behind everywhere table_of truth
    action_answers k n = (refl, simp or-false)

    -- ---- one operand, which is read as p: the answer by the operand's, at the position and the numbers that the walk has there
    module _ (o : Unary) where
      abbrev own1 : ℕ
      own1 = starts under (temporal1 o) i

      abbrev inner1 : ℕ
      inner1 = after (temporal1 o) own1

      abbrev value1 : Parsed → Value
      value1 p = one closing o own1 (evaluated closing v p (at + 1) (is_next o) inner1)

      pub one_answers : (p : Parsed) → Few (then (unary o) p) under i
          → Answered (then (unary o) p) (value1 p)
          (put (then_some (under || temporal1 o) i) (value1 p).table (filled_by closing v p (at + 1) (is_next o) inner1 t))
      unfolding evaluated filled_by filled behind then
      one_answers (formula φ n) h = rw add-one (
        λ j. record { table = table_one closing v o φ at own1 j; next = n; parts = behind φ (is_next o) inner1 },
        ap (λ (x : ℕ). put (then_some (under || temporal1 o) i) x (filled closing v φ (suc at) (is_next o) inner1 t)) (table_one closing v o φ at own1),
      )
      one_answers (wrong p) h = absurd h

    -- ---- two operands, of which the first is read as p
    module _ (o : Binary) (f a : ℕ) (s : List ℕ) where
      abbrev both : Parsed → Parsed
      both p = and_then p (λ φ m. then (binary o φ) (parsed f a s m))

      abbrev own2 : ℕ
      own2 = starts under (temporal2 o) i

      abbrev inner2 : ℕ
      inner2 = after (temporal2 o) own2

      -- the first operand's value
      abbrev first2 : Parsed → Value
      first2 p = evaluated closing v p (at + 1) false inner2

      -- the value and the tables by the second one, which stands after the first, whose value is x
      abbrev value2 : Value → Value
      value2 x = two closing o own2 x (evaluated closing v (parsed f a s x.next) x.next false x.parts)

      abbrev tables2 : Value → List ℕ → List ℕ
      tables2 x l = put (then_some (under || temporal2 o) i) (value2 x).table (filled_by closing v (parsed f a s x.next) x.next false x.parts l)

      -- the first operand ends as many bytes further on as it has
      abbrev Ends : Parsed → Type 0
      Ends p = (φ : Formula) (m : ℕ) → p ≡ formula φ m → m ≡ at + 1 + size φ

      -- the answer by the operands', at the positions and the numbers that the walk has there
      two_node : (p : Parsed) → Ends p → Few (both p) under i
          → Answered (both p) (value2 (first2 p)) (tables2 (first2 p) (filled_by closing v p (at + 1) false inner2 t))
      unfolding evaluated filled_by filled behind then and_then
      two_node (wrong p) e h = absurd h
      two_node (formula φ m) e h = go (parsed f a s m) h
        where
          go : (q : Parsed) → Few (then (binary o φ) q) under i
              → (let x = two closing o own2 (first2 (formula φ m)) (evaluated closing v q m false (behind φ false inner2)) in
              Answered (then (binary o φ) q) x
              (put (then_some (under || temporal2 o) i) x.table
              (filled_by closing v q m false (behind φ false inner2) (filled closing v φ (at + 1) false inner2 t))))
          go (formula ψ n) h = rw (e φ m refl, add-one) (
            λ j. record { table = table j; next = n; parts = behind ψ false (behind φ false inner2) },
            ap (λ (x : ℕ). put (then_some (under || temporal2 o) i) x
                (filled closing v ψ (suc at + size φ) false (behind φ false inner2) (filled closing v φ (suc at) false inner2 t))) table,
          )
            where
              table : table2 o (table_of closing v φ (suc at) inner2) (table_of closing v ψ (suc at + size φ) (behind φ false inner2))
                  (ahead_table closing (of_nothing2 o) own2) ≡ table_of closing v (binary o φ ψ) at own2
              table = rw (behind_count φ inner2) (table_two closing v o φ ψ at own2)
          go (wrong q) h = absurd h

      -- what is asked of the second operand
      pub second_few : (p : Parsed) → Few (both p) under i → Few (parsed f a s (first2 p).next) false (first2 p).parts
      unfolding evaluated then and_then behind
      second_few (wrong p) h = absurd h
      second_few (formula φ m) h = go (parsed f a s m) h
        where
          go : (q : Parsed) → Few (then (binary o φ) q) under i → Few q false (behind φ false inner2)
          go (formula ψ n) h = h
          go (wrong q) h = h

      -- so it is where the first operand is read after the code
      pub two_answers : (let p = parsed f a s (at + 1) in
          Few (both p) under i → Answered (both p) (value2 (first2 p)) (tables2 (first2 p) (filled_by closing v p (at + 1) false inner2 t)))
      two_answers = two_node (parsed f a s (at + 1)) (parsed_size f a s (at + 1))
