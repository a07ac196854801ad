-- What a job stands for.
use Rattle.std.specs.Prelude.{ℕ, zero, suc, List, [], ◌∷◌, ◌++◌, get_or}
use Rattle.model.specs.logic.Formula.{Formula}

-- Document 01 calls an action a step: needed, added, deleted and forbidden facts as bits of numbers, and the cost.
pub record Action : Type 0 where
  pub pre : ℕ
  pub add : ℕ
  pub del : ℕ
  pub forbidden : ℕ
  pub cost : ℕ

-- A constraint is a rule of document 01.
pub record Job : Type 0 where
  pub start : ℕ
  pub goal : ℕ
  pub actions : List Action
  pub constraints : List Formula
  pub hints : List Formula

unfoldable pub no_action : Action
no_action = record { pre = 0; add = 0; del = 0; forbidden = 0; cost = 0 }

-- action i of a job
unfoldable pub action_of : Job → ℕ → Action
unfolding no_action
action_of j i = get_or j.actions i no_action

-- f 0 to f (n - 1)
module _ {A : Type 0} (f : ℕ → A) where
  unfoldable pub list_of : ℕ → List A
  list_of zero = []
  list_of (suc n) = list_of n ++ (f n ∷ [])
