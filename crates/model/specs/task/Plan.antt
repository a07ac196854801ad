-- Action sequences: document 01 calls them step lists.
use Rattle.std.specs.Prelude.{◌≡◌, ℕ, ◌+◌, ◌≤◌, ◌<◌, Bool, ◌&&◌, ◌⊎◌, length, ltb, None, Some}
use Rattle.std.proofs.Math.Bool.{true, false}
use mathlib.Core.List.{List, [], ◌∷◌}
use Rattle.model.specs.logic.Truth.{World, all_hold}
use Rattle.model.specs.job.Job.{Job, action_of}
use Rattle.model.specs.task.State.{within, applicable, after}
use Rattle.model.specs.exploration.Key.{earlier}

module _ (j : Job) where
  -- the state that actions lead to
  unfoldable pub state_after : ℕ → List ℕ → ℕ
  unfolding after action_of
  state_after s [] = s
  state_after s (i ∷ is) = state_after (after (action_of j i) s) is

  -- the worlds after the one of state s: "for each step, the facts after it and that step; last, the closing world, which repeats the
  -- final facts with no step"
  unfoldable pub worlds_after : ℕ → List ℕ → List World
  unfolding after action_of
  worlds_after s [] = record { state = s; made = None } ∷ []
  worlds_after s (i ∷ is) = record { state = after (action_of j i) s; made = Some i } ∷ worlds_after (after (action_of j i) s) is

  -- "A step list gives a sequence of worlds: the start facts; .. The empty list gives two worlds."
  unfoldable pub worlds : List ℕ → List World
  unfolding worlds_after
  worlds p = record { state = j.start; made = None } ∷ worlds_after j.start p

  -- "a list of applicable steps", each the number of one
  unfoldable pub executable : ℕ → List ℕ → Bool
  unfolding applicable after action_of
  executable s [] = true
  executable s (i ∷ is) = elim (ltb i (length j.actions) && applicable (action_of j i) s) [
    | true ↦ executable (after (action_of j i) s) is
    | false ↦ false
  ]

  -- "An allowed plan is a list of applicable steps that ends with all goal facts true and whose worlds meet every rule."
  unfoldable pub allowed : List ℕ → Bool
  unfolding executable within state_after all_hold worlds
  allowed p = executable j.start p && within j.goal (state_after j.start p) && all_hold j.constraints (worlds p)

  -- "a plan meets a hint if its worlds do"
  unfoldable pub meets_hints : List ℕ → Bool
  unfolding all_hold worlds
  meets_hints p = all_hold j.hints (worlds p)

  -- "The cost of a step list is the sum of its steps' costs, its length the number of its steps."
  unfoldable pub cost_of : List ℕ → ℕ
  unfolding action_of
  cost_of [] = 0
  cost_of (i ∷ is) = (action_of j i).cost + cost_of is

  -- q "costs more, or costs as much and is longer, or costs as much, is as long and comes later by step numbers" than p
  abbrev pub Worse : List ℕ → List ℕ → Type 0
  Worse p q =
      (cost_of p < cost_of q)
      ⊎ ((cost_of p ≡ cost_of q) × (length p < length q))
      ⊎ ((cost_of p ≡ cost_of q) × (length p ≡ length q) × (earlier p q ≡ true))

  -- "The best plan of a job, whatever its hints, is the allowed plan against which every other allowed plan" is worse.
  pub record Best (p : List ℕ) : Type 0 where
    pub is_allowed : allowed p ≡ true
    pub against : (q : List ℕ) → allowed q ≡ true → (p ≡ q → ⊥) → Worse p q

  -- "one whose every allowed plan of least cost meets all its hints"
  abbrev pub MeetsHints : Type 0
  MeetsHints = (p : List ℕ) → allowed p ≡ true → ((q : List ℕ) → allowed q ≡ true → cost_of p ≤ cost_of q) → meets_hints p ≡ true
