-- The records that a search holds, in order of arrival: one for each node, in the slot of that number.
use Rattle.std.specs.Prelude.{ℕ, zero, suc, Bool, Option, None, Some}
use Rattle.std.proofs.Math.Bool.{true, false}
use mathlib.Core.List.{List, [], ◌∷◌, ◌++◌}
use Rattle.std.proofs.Math.ListN.{set}
use Rattle.std.specs.List.{slice_get}
use Rattle.model.specs.exploration.Key.{Key, less}
use Rattle.model.specs.exploration.System.{System, rank_of}

-- A node of type N with the least key so far, its hint residuals of type H, and the slot and action that it was reached from; open until taken.
pub record HeldOf (N H : Type 0) : Type 0 where
  pub node : N
  pub key : Key
  pub hints : H
  pub parent : ℕ
  pub action : ℕ
  pub taken : Bool

-- a record of a system: of its nodes and hint residuals alone, so that systems that differ in the rest have the same records
abbrev pub Held : System → Type 0
Held S = HeldOf S.Node S.Hints

-- an open slot and its rank
pub record Open : Type 0 where
  pub slot : ℕ
  pub rank : Key

module _ (S : System) where
  abbrev pub Table : Type 0
  Table = List (Held S)

  -- the rank of a record: cost plus estimate, then steps
  abbrev pub rank_in : Held S → Key
  rank_in r = rank_of S r.node r.key

  -- the slot of a node, the slots being numbered from k on
  unfoldable pub find : S.Node → Table → ℕ → Option ℕ
  find n [] k = None
  find n (r ∷ rs) k = elim (S.same n r.node) [ true ↦ Some k | false ↦ find n rs (suc k) ]

  -- the first open slot of the least rank
  unfoldable pub least_open : Table → ℕ → Option Open
  unfolding less
  least_open [] k = None
  least_open (r ∷ rs) k = elim r.taken [
    | true ↦ least_open rs (suc k)
    | false ↦ elim (least_open rs (suc k)) [
      | None ↦ Some (record { slot = k; rank = rank_in r })
      | Some o ↦ elim (less o.rank (rank_in r)) [ true ↦ Some o | false ↦ Some (record { slot = k; rank = rank_in r }) ]
    ]
  ]

  -- a record that is taken now
  unfoldable pub take-it : Held S → Held S
  take-it r = record { node = r.node; key = r.key; hints = r.hints; parent = r.parent; action = r.action; taken = true }

  unfoldable pub mark : Table → ℕ → Table
  unfolding take-it
  mark t i = elim (slice_get t i) [ None ↦ t | Some r ↦ set t i (take-it r) ]

  -- the actions that lead to a slot, found from parent to parent, n of them
  unfoldable pub path_of : Table → ℕ → ℕ → List ℕ
  path_of t zero i = []
  path_of t (suc n) i = elim (slice_get t i) [ None ↦ [] | Some r ↦ path_of t n r.parent ++ (r.action ∷ []) ]
