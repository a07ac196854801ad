-- The search, in a table of a given number of slots.
use Rattle.std.specs.Prelude.{Bool, ◌&&◌, ◌||◌, length, set, ltb, Option, None, Some}
use Prim.Native.Nat.{ℕ, zero, suc}
use Rattle.std.proofs.Math.Bool.{true, false, not}
use mathlib.Core.List.{List, [], ◌∷◌, ◌++◌}
use Rattle.std.specs.List.{slice_get}
use Rattle.model.specs.exploration.Key.{Key, zero_key, extend, less, same_key, earlier, first_of}
use Rattle.model.specs.exploration.System.{System}
use Rattle.model.specs.exploration.Equations.{Answer, plan, no_plan}
use Rattle.astar.specs.Records.{Held, Table, find, least_open, mark, path_of}

-- what a search in a table comes to
pub data Result : Type 0 where
  answered : Answer → Result
  too_small : Result

-- a table of records of type R that goes on, or one that is full
pub data FilledOf (R : Type 0) : Type 0 where
  goes_on : List R → FilledOf R
  full : FilledOf R

module _ (S : System) where
  abbrev pub Filled : Type 0
  Filled = FilledOf (Held S)

  -- ---- one arrival

  -- the path of n actions that goes to slot i and on by action a
  unfoldable pub path_by : Table S → ℕ → ℕ → ℕ → List ℕ
  unfolding path_of
  path_by t zero i a = []
  path_by t (suc n) i a = path_of S t n i ++ (a ∷ [])

  -- Of two ways to a node with equal keys, the one whose path comes first is kept: the new one, from slot i by action a, if it is earlier.
  unfoldable pub tied : Table S → Held S → S.Hints → ℕ → ℕ → Held S
  unfolding earlier path_by
  tied t r h i a = elim (earlier (path_by t r.key.steps i a) (path_by t r.key.steps r.parent r.action)) [
    | true ↦ record { node = r.node; key = r.key; hints = S.meet r.hints h; parent = i; action = a; taken = false }
    | false ↦ record { node = r.node; key = r.key; hints = S.meet r.hints h; parent = r.parent; action = r.action; taken = false }
  ]

  -- a node's record after one more arrival of key k with hint residuals h: a lesser key replaces, an equal one merges
  unfoldable pub relaxed : Table S → Held S → Key → S.Hints → ℕ → ℕ → Held S
  unfolding less same_key tied
  relaxed t r k h i a = elim r.taken [
    | true ↦ r
    | false ↦ elim (less k r.key) [
      | true ↦ record { node = r.node; key = k; hints = h; parent = i; action = a; taken = false }
      | false ↦ elim (same_key k r.key) [ true ↦ tied t r h i a | false ↦ r ]
    ]
  ]

  -- an arrival at node n, in a table of so many slots
  unfoldable pub arrive : ℕ → Table S → S.Node → Key → S.Hints → ℕ → ℕ → Filled
  unfolding find relaxed
  arrive slots t n k h i a = elim (find S n t 0) [
    | None ↦ elim (ltb (length t) slots) [
      | true ↦ goes_on (t ++ (record { node = n; key = k; hints = h; parent = i; action = a; taken = false } ∷ []))
      | false ↦ full
    ]
    | Some j ↦ elim (slice_get t j) [ None ↦ goes_on t | Some r ↦ goes_on (set t j (relaxed t r k h i a)) ]
  ]

  -- ---- one node expanded

  -- the record of slot i, and action a from it
  unfoldable pub follow : ℕ → Table S → Held S → ℕ → ℕ → Filled
  unfolding arrive extend
  follow slots t r i a = elim (S.step r.node a) [
    | None ↦ goes_on t
    | Some n ↦ arrive slots t n (extend r.key (S.cost a)) (S.carry r.hints n a) i a
  ]

  -- the actions below c, in order
  unfoldable pub expand : ℕ → Table S → Held S → ℕ → ℕ → Filled
  unfolding follow
  expand slots t r i zero = goes_on t
  expand slots t r i (suc c) = elim (expand slots t r i c) [ full ↦ full | goes_on u ↦ follow slots u r i c ]

  -- ---- the whole search

  -- the first path among the uncut goal nodes of key k; the slots are numbered from i on, and t is the whole table
  unfoldable pub first_goal : Table S → Key → Table S → ℕ → Option (List ℕ)
  unfolding same_key first_of path_of
  first_goal t k [] i = None
  first_goal t k (r ∷ rs) i = elim (same_key r.key k && not (S.cut r.hints) && S.goal r.node) [
    | false ↦ first_goal t k rs (suc i)
    | true ↦ elim (first_goal t k rs (suc i)) [
      | None ↦ Some (path_of S t k.steps i)
      | Some p ↦ Some (first_of (path_of S t k.steps i) p)
    ]
  ]

  unfoldable pub has_cut_in : Table S → Bool
  has_cut_in [] = false
  has_cut_in (r ∷ rs) = S.cut r.hints || has_cut_in rs

  -- nothing is open: "search, no answer"
  unfoldable pub exhausted : Table S → Answer
  unfolding has_cut_in
  exhausted t = elim (has_cut_in t) [ true ↦ no_plan 11 | false ↦ no_plan 12 ]

  -- So many turns. All nodes of the least open rank are held, and final, once it is the least: an uncut goal node among them, whose rank is
  -- its key, ends the search before any of them is expanded. Otherwise the first of them is taken; a cut node leads nowhere, any other is expanded.
  unfoldable pub turns : ℕ → ℕ → Table S → Result
  unfolding least_open mark expand first_goal exhausted
  turns slots zero t = too_small
  turns slots (suc n) t = elim (least_open S t 0) [
    | None ↦ answered (exhausted t)
    | Some o ↦ elim (first_goal t o.rank t 0) [
      | Some p ↦ answered (plan o.rank.cost p)
      | None ↦ elim (slice_get t o.slot) [
        | None ↦ too_small
        | Some r ↦ elim (S.cut r.hints) [
          | true ↦ turns slots n (mark S t o.slot)
          | false ↦ elim (expand slots (mark S t o.slot) r o.slot S.actions) [ full ↦ too_small | goes_on u ↦ turns slots n u ]
        ]
      ]
    ]
  ]

  -- the start node in slot 0
  unfoldable pub start_table : S.Node → Table S
  unfolding zero_key
  start_table m = record { node = m; key = zero_key; hints = S.start_hints; parent = 0; action = 0; taken = false } ∷ []

  -- a search in a table of so many slots; each turn takes one slot, so one turn more than there are slots is enough
  unfoldable pub search_in : ℕ → Result
  unfolding turns start_table
  search_in slots = elim S.start [
    | None ↦ answered (no_plan 12)
    | Some m ↦ elim (ltb 0 slots) [ true ↦ turns slots (suc slots) (start_table m) | false ↦ too_small ]
  ]
