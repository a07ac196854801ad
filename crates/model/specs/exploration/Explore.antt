-- The section "Pairs and hints" of document 01 as a function: the entries by rising key, each computed from the ones before.
use Rattle.std.specs.Prelude.{◌≡◌, Bool, ◌&&◌, ◌||◌, Option, None, Some}
use Prim.Native.Nat.{ℕ, zero, suc}
use Rattle.std.proofs.Math.Bool.{true, false, not}
use mathlib.Core.List.{List, [], ◌∷◌, ◌++◌, Memᴰ}
use Rattle.model.specs.exploration.Key.{Key, zero_key, extend, less, same_key, earlier, first_of}
use Rattle.model.specs.exploration.System.{System}
use Rattle.model.specs.exploration.Equations.{Answer, plan, no_plan, Entries}

-- a node with its key, its hint residuals and the first path of that key
pub record Entry (S : System) : Type 0 where
  pub node : S.Node
  pub key : Key
  pub hints : S.Hints
  pub path : List ℕ

module _ (S : System) where
  -- the entries of a list, as a set of the kind that the equations speak of
  abbrev pub Of : List (Entry S) → Entries S
  Of M n k h = (e : Entry S) × Memᴰ e M × (e.node ≡ n) × (e.key ≡ k) × (e.hints ≡ h)

  abbrev pub is_cut : Entry S → Bool
  is_cut e = S.cut e.hints

  -- ---- arrivals

  -- what action i leads to from an entry
  unfoldable pub arrival : Entry S → ℕ → List (Entry S)
  unfolding extend
  arrival e i = elim (S.step e.node i) [
    | None ↦ []
    | Some m ↦ record { node = m; key = extend e.key (S.cost i); hints = S.carry e.hints m i; path = e.path ++ (i ∷ []) } ∷ []
  ]

  -- what the k actions from i on lead to
  unfoldable pub moves : Entry S → ℕ → ℕ → List (Entry S)
  unfolding arrival
  moves e zero i = []
  moves e (suc k) i = arrival e i ++ moves e k (suc i)

  -- every arrival from an uncut entry
  unfoldable pub arrivals : List (Entry S) → List (Entry S)
  unfolding moves
  arrivals [] = []
  arrivals (e ∷ es) = elim (is_cut e) [ true ↦ arrivals es | false ↦ moves e S.actions 0 ++ arrivals es ]

  -- ---- the next entry

  unfoldable pub known : S.Node → List (Entry S) → Bool
  known m [] = false
  known m (e ∷ es) = elim (S.same m e.node) [ true ↦ true | false ↦ known m es ]

  -- those of the arrivals that are at no closed node
  unfoldable pub fresh : List (Entry S) → List (Entry S) → List (Entry S)
  unfolding known
  fresh closed [] = []
  fresh closed (x ∷ xs) = elim (known x.node closed) [ true ↦ fresh closed xs | false ↦ x ∷ fresh closed xs ]

  unfoldable pub frontier : List (Entry S) → List (Entry S)
  unfolding arrivals fresh
  frontier closed = fresh closed (arrivals closed)

  -- the first of the least key
  unfoldable pub least : Entry S → List (Entry S) → Entry S
  unfolding less
  least x [] = x
  least x (y ∷ ys) = elim (less y.key x.key) [ true ↦ least y ys | false ↦ least x ys ]

  unfoldable pub alike : Entry S → Entry S → Bool
  unfolding same_key
  alike c x = elim (S.same c.node x.node) [ true ↦ same_key c.key x.key | false ↦ false ]

  -- an entry with one more arrival of its node and key: the conjunction of the hint residuals, and the first path
  unfoldable pub merge : Entry S → Entry S → Entry S
  unfolding first_of
  merge c x = record { node = c.node; key = c.key; hints = S.meet c.hints x.hints; path = first_of c.path x.path }

  -- an entry with all arrivals of its node and key
  unfoldable pub gather : Entry S → List (Entry S) → Entry S
  unfolding merge alike
  gather c [] = c
  gather c (x ∷ xs) = elim (alike c x) [ true ↦ gather (merge c x) xs | false ↦ gather c xs ]

  -- ---- all entries

  -- the entries, the last first; or more of them than were allowed for
  pub data Explored : Type 0 where
    all_of : List (Entry S) → Explored
    no_more : Explored

  -- "Take pairs by rising key."
  unfoldable pub explore : ℕ → List (Entry S) → Explored
  unfolding frontier least gather
  explore zero closed = no_more
  explore (suc n) closed = elim (frontier closed) [ [] ↦ all_of closed | x ∷ xs ↦ explore n (gather (least x xs) (x ∷ xs) ∷ closed) ]

  unfoldable pub start_entry : S.Node → Entry S
  unfolding zero_key
  start_entry m = record { node = m; key = zero_key; hints = S.start_hints; path = [] }

  -- the entries of all nodes reached
  unfoldable pub reached : List (Entry S)
  unfolding explore start_entry
  reached = elim S.start [
    | None ↦ []
    | Some m ↦ elim (explore S.bound (start_entry m ∷ [])) [ all_of es ↦ es | no_more ↦ [] ]
  ]

  -- ---- the answer

  -- of two goal entries the one of the lesser key, or with the first path
  unfoldable pub better : Entry S → Option (Entry S) → Option (Entry S)
  unfolding less earlier
  better x None = Some x
  better x (Some y) =
      elim (less x.key y.key) [
        | true ↦ Some x
        | false ↦ elim (less y.key x.key) [
          | true ↦ Some y
          | false ↦ elim (earlier x.path y.path) [ true ↦ Some x | false ↦ Some y ]
        ]
      ]

  -- the best of the uncut goal entries
  unfoldable pub best_goal : List (Entry S) → Option (Entry S)
  unfolding better
  best_goal [] = None
  best_goal (e ∷ es) = elim (S.goal e.node && not (is_cut e)) [ true ↦ better e (best_goal es) | false ↦ best_goal es ]

  unfoldable pub has_cut : List (Entry S) → Bool
  has_cut [] = false
  has_cut (e ∷ es) = is_cut e || has_cut es

  unfoldable pub answer : List (Entry S) → Answer
  unfolding best_goal has_cut
  answer es = elim (best_goal es) [
    | Some e ↦ plan e.key.cost e.path
    | None ↦ elim (has_cut es) [ true ↦ no_plan 11 | false ↦ no_plan 12 ]
  ]

  -- the answer of a search to which no table is too small
  unfoldable pub solve : Answer
  unfolding reached answer
  solve = answer reached
