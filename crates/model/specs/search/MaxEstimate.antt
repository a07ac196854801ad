-- What the max estimate is: the sentences of card 2 as equations over the costs of facts, and what is shown of the function that gives it.
use Rattle.std.specs.Prelude.{◌≡◌, ℕ, ◌+◌, ◌≤◌, ◌<◌, true, false, ◌↔◌, List, length, Option, None, Some}
use Rattle.model.specs.Bits.{bit}
use Rattle.model.specs.job.Job.{Job, action_of}
use Rattle.model.specs.task.State.{within, applicable, after}
use Rattle.model.specs.task.Plan.{state_after, executable, cost_of}
use Rattle.model.specs.search.Estimate.{estimate_of}

-- A cost is at most t. What cannot be built costs none, which is above every number.
abbrev pub AtMost : Option ℕ → ℕ → Type 0
AtMost None t = ⊥
AtMost (Some c) t = c ≤ t

-- the cost of each fact
abbrev pub Costs : Type 0
Costs = ℕ → Option ℕ

module _ (j : Job) where
  -- "the step's cost plus the dearest needed fact (0 if it needs none)" is at most t
  abbrev pub Ready : Costs → ℕ → ℕ → Type 0
  Ready v i t = (u : ℕ) × ((g : ℕ) → bit (action_of j i).pre g ≡ true → AtMost (v g) u) × ((action_of j i).cost + u ≤ t)

  pub record Solves (s : ℕ) (v : Costs) : Type 0 where
    -- "a true fact costs 0,"
    pub true_fact : (f : ℕ) → bit s f ≡ true → v f ≡ Some 0
    -- "any other the least over steps that add it of the step's cost plus the dearest needed fact": it is at most t if that of one of them is
    pub other : (f t : ℕ) → bit s f ≡ false → AtMost (v f) t ↔ ((i : ℕ) × (i < length j.actions) × (bit (action_of j i).add f ≡ true) × Ready v i t)

  -- "where free cycles allow several values, the largest holds"
  pub record Largest (s : ℕ) (v : Costs) : Type 0 where
    pub solves : Solves s v
    pub largest : (w : Costs) → Solves s w → (f t : ℕ) → AtMost (v f) t → AtMost (w f) t

  -- What is shown of the estimate of a state, whatever rules and hints the job has.
  pub record MaxEstimate (s : ℕ) : Type 0 where
    pub costs : Costs
    pub costs_largest : Largest s costs
    -- "a state costs its dearest goal fact (0 without goal), or has no estimate if one cannot be built from true facts by steps"
    pub dearest : (t : ℕ) → AtMost (estimate_of j s) t ↔ ((f : ℕ) → bit j.goal f ≡ true → AtMost (costs f) t)
    -- "never to exceed the least cost left": that of any steps that are applicable one after the other and lead to the goal
    pub admissible : (p : List ℕ) → executable j s p ≡ true → within j.goal (state_after j s p) ≡ true → AtMost (estimate_of j s) (cost_of j p)
    -- "never to fall by more than a step's cost along that step"
    pub consistent : (i t : ℕ) → i < length j.actions → applicable (action_of j i) s ≡ true
        → AtMost (estimate_of j (after (action_of j i) s)) t → AtMost (estimate_of j s) ((action_of j i).cost + t)

-- The actions of two jobs need, add and cost the same, and their goals are the same. What actions delete or forbid may differ, and so may start, rules
-- and hints.
pub record BuildAlike (j k : Job) : Type 0 where
  pub goals : j.goal ≡ k.goal
  pub count : length j.actions ≡ length k.actions
  pub needed : (i : ℕ) → (action_of j i).pre ≡ (action_of k i).pre
  pub added : (i : ℕ) → (action_of j i).add ≡ (action_of k i).add
  pub costs : (i : ℕ) → (action_of j i).cost ≡ (action_of k i).cost

-- "Forbidden facts are overlooked", and so is all else in which such jobs differ.
abbrev pub Overlooks : Job → Type 0
Overlooks j = (k : Job) → BuildAlike j k → (s : ℕ) → estimate_of j s ≡ estimate_of k s
