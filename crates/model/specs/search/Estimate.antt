-- The max estimate of what is left to pay (card 2, after Bonet and Geffner 2001) as a function: the facts that can be built from a state, at a rising
-- level of cost, until all goal facts are among them. MaxEstimate has the card's sentences as equations, and what is shown of the function.
use Rattle.std.specs.Prelude.{Option, None, Some, ltb, length, get_or}
use Prim.Native.Nat.{ℕ, zero, suc, ◌+◌}
use Rattle.std.proofs.Math.Bool.{true, false}
use mathlib.Core.List.{List, []}
use Rattle.std.specs.Int.Bits.{bit_or}
use Rattle.model.specs.job.Job.{Job, action_of, list_of}
use Rattle.model.specs.task.State.{within}

-- the cost at which each action ends, none where it is not ready
abbrev pub Ends : Type 0
Ends = List (Option ℕ)

-- the facts that an action adds, and the level at which it ends
pub record Gain : Type 0 where
  pub level : ℕ
  pub adds : ℕ

-- of two gains the one of the lower level, the first of equals
unfoldable pub sooner : Option Gain → Option Gain → Option Gain
sooner None y = y
sooner (Some x) None = Some x
sooner (Some x) (Some y) = elim (ltb y.level x.level) [ true ↦ Some y | false ↦ Some x ]

module _ (j : Job) where
  -- The end of action i: as it was, or its cost after the level where its needed facts are built and were not before.
  unfoldable pub end_of : ℕ → ℕ → Option ℕ → ℕ → Option ℕ
  unfolding within action_of
  end_of built level end i = elim end [
    | Some e ↦ Some e
    | None ↦ elim (within (action_of j i).pre built) [ true ↦ Some (level + (action_of j i).cost) | false ↦ None ]
  ]

  -- the ends of all actions at a level
  unfoldable pub readied : ℕ → ℕ → Ends → Ends
  unfolding end_of list_of
  readied built level ends = list_of (λ i. end_of built level (get_or ends i None) i) (length j.actions)

  -- what action i gains at its end, if it has one and adds a fact that is not built
  unfoldable pub gain_of : ℕ → Option ℕ → ℕ → Option Gain
  unfolding within action_of
  gain_of built end i = elim end [
    | None ↦ None
    | Some e ↦ elim (within (action_of j i).add built) [ true ↦ None | false ↦ Some (record { level = e; adds = (action_of j i).add }) ]
  ]

  -- the soonest gain of the actions below n
  unfoldable pub soonest : ℕ → Ends → ℕ → Option Gain
  unfolding sooner gain_of
  soonest built ends zero = None
  soonest built ends (suc n) = sooner (soonest built ends n) (gain_of built (get_or ends n None) n)

  -- the level at which all facts of a set are built, in so many turns; a turn goes on to the soonest gain
  unfoldable pub level_from : ℕ → ℕ → ℕ → ℕ → Ends → Option ℕ
  unfolding within readied soonest
  level_from zero goal built level ends = None
  level_from (suc n) goal built level ends = elim (within goal built) [
    | true ↦ Some level
    | false ↦ elim (soonest built (readied built level ends) (length j.actions)) [
      | None ↦ None
      | Some g ↦ level_from n goal (bit_or built g.adds) g.level (readied built level ends)
    ]
  ]

  -- the level at which all facts of a set can be built from the facts of s: after each turn one action more has nothing left to add, so one turn
  -- more than there are actions is enough
  unfoldable pub level_of : ℕ → ℕ → Option ℕ
  unfolding level_from
  level_of goal s = level_from (suc (length j.actions)) goal s 0 []

  -- "a state costs its dearest goal fact (0 without goal), or has no estimate if one cannot be built from true facts by steps"
  unfoldable pub estimate_of : ℕ → Option ℕ
  unfolding level_of
  estimate_of s = level_of j.goal s
