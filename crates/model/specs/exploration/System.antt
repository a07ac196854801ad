-- The transition system that a search explores: nodes, actions, an estimate and hint residuals, with nothing said of formulas, bits or bytes.
use Rattle.std.specs.Prelude.{ℕ, Bool, Option}
use Rattle.model.specs.exploration.Key.{Key, rank}

-- Actions are the numbers below `actions`.
pub record System : Type 1 where
  -- "A pair is a state with the remainders of all rules."
  pub Node : Type 0
  pub same : Node → Node → Bool
  -- the start node, unless a constraint is dead there
  pub start : Option Node
  pub actions : ℕ
  pub cost : ℕ → ℕ
  -- the node to which an action leads, unless it is not applicable or a constraint is dead there
  pub step : Node → ℕ → Option Node
  -- has the goal, and the constraints' residuals are true of the closing world alone
  pub goal : Node → Bool
  -- an estimate of the cost that is left from a node
  pub estimate : Node → ℕ
  -- the hint residuals of a path, all together
  pub Hints : Type 0
  pub start_hints : Hints
  -- the residuals after one more action, which leads to a node
  pub carry : Hints → Node → ℕ → Hints
  -- one setting of one hint's parts, and the truth of that hint's residual at it
  pub Setting : Type 0
  pub true_at : Hints → Setting → Bool
  -- the conjunction, hint by hint
  pub meet : Hints → Hints → Hints
  -- "A pair is cut if a hint remainder of it is dead."
  pub cut : Hints → Bool
  -- numbers that are truth tables of the hints' parts, one for each hint
  pub Proper : Hints → Type 0
  -- at least as many as there are nodes
  pub bound : ℕ

-- what a node is taken by, which a path of key k reaches
abbrev pub rank_of : (S : System) → S.Node → Key → Key
rank_of S n k = rank k (S.estimate n)
