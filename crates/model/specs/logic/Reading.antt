-- A formula read from the bytes of its section; refusal 4. Positions count from the section's start.
use Rattle.std.specs.Prelude.{List, length, get_or, ltb, eqb}
use Prim.Native.Nat.{ℕ, zero, suc, ◌+◌, ◌-◌}
use Rattle.model.specs.declared.Code.{Code}
use Rattle.model.specs.declared.Code.TheVariants.{Leaf, Fact, Action, One, Two, Unknown}
use Rattle.model.specs.logic.Formula.{Formula, constant, fact, action, unary, binary, choose, code_of}

-- a formula and the position after it, or the position of the first wrong byte; where the bytes end too early, that is the section's end
pub data Parsed : Type 0 where
  formula : Formula → ℕ → Parsed
  wrong : ℕ → Parsed

unfoldable pub then : (Formula → Formula) → Parsed → Parsed
then f (formula φ n) = formula (f φ) n
then f (wrong p) = wrong p

unfoldable pub and_then : Parsed → (Formula → ℕ → Parsed) → Parsed
and_then (formula φ n) k = k φ n
and_then (wrong p) k = wrong p

-- v facts, a actions, the section's bytes s
module _ (v a : ℕ) (s : List ℕ) where
  -- the number at a position, which has to be below a bound
  unfoldable pub numbered : (ℕ → Formula) → ℕ → ℕ → Parsed
  numbered f bound at =
      choose (ltb at (length s)) (choose (ltb (get_or s at 0) bound) (formula (f (get_or s at 0)) (at + 1)) (wrong at)) (wrong (length s))

  -- what stands after a code at a position, where rec reads the operands
  unfoldable pub operands : Code → (ℕ → Parsed) → ℕ → Parsed
  unfolding then and_then numbered
  operands (Leaf c) rec at = formula (constant c) (at + 1)
  operands Fact rec at = numbered fact v (at + 1)
  operands Action rec at = numbered action a (at + 1)
  operands (One o) rec at = then (unary o) (rec (at + 1))
  operands (Two o) rec at = and_then (rec (at + 1)) (λ φ m. then (binary o φ) (rec m))
  operands Unknown rec at = wrong at

  unfoldable pub node : (ℕ → Parsed) → ℕ → Parsed
  unfolding operands code_of
  node rec at = choose (ltb at (length s)) (operands (code_of (get_or s at 0)) rec at) (wrong (length s))

  -- at most so many nodes deep
  unfoldable pub parse : ℕ → ℕ → Parsed
  unfolding node
  parse zero at = wrong (length s)
  parse (suc k) at = node (λ m. parse k m) at

  -- the formula at a position: none is deeper than the bytes that are left
  unfoldable pub parsed : ℕ → Parsed
  unfolding parse
  parsed at = parse (length s - at) at

  -- bytes after the formula are wrong from the first on
  unfoldable pub whole : Parsed → Parsed
  whole (formula φ n) = choose (eqb n (length s)) (formula φ n) (wrong n)
  whole (wrong p) = wrong p

  -- the formula that the section holds
  unfoldable pub section : Parsed
  unfolding parsed whole
  section = whole (parsed 0)
