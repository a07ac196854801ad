-- What the arrays of the code stand for in the model, and what the functions promise of them.
use Rattle.std.specs.Prelude.{◌≡◌, ℕ, zero, suc, ◌<◌, true, List, [], ◌∷◌, length, take, drop, get_or, Option, None, Some}
use Rattle.model.specs.Bits.{bit}
use Rattle.model.specs.job.Job.{Action, Job, action_of}
use Rattle.model.specs.task.State.{applicable}
use Rattle.model.specs.search.Node.{Node}
use Rattle.model.specs.search.JobSystem.{alive}
use Rattle.task.specs.declared.Action as code
use Rattle.task.specs.Meaning.{action_is}
use Rattle.progression.specs.Padded.{padded}

-- the node of an array, where there are n constraints
unfoldable pub node_is : ℕ → List ℕ → Node
node_is n node = record { state = get_or node 0 0; residuals = take n (drop 1 node) }

-- Nothing stands after the last constraint, so equal nodes are equal arrays.
abbrev pub Clean : ℕ → List ℕ → Type 0
Clean n node = node ≡ get_or node 0 0 ∷ padded (take n (drop 1 node))

-- the hints' residuals of an array, where there are n hints
unfoldable pub hints_is : ℕ → List ℕ → List ℕ
hints_is n hints = take n hints

-- Nothing stands after the last hint.
abbrev pub CleanHints : ℕ → List ℕ → Type 0
CleanHints n hints = hints ≡ padded (take n hints)

-- where an action leads, if anywhere
unfoldable pub reached_is : ℕ → Option (List ℕ) → Option Node
unfolding node_is
reached_is n (Some node) = Some (node_is n node)
reached_is n None = None

-- n actions of a job from action a on; none does anything after the last
unfoldable pub actions_from : Job → ℕ → ℕ → List Action
unfolding action_of
actions_from j a zero = []
actions_from j a (suc n) = action_of j a ∷ actions_from j (suc a) n

-- Action i is applicable at a node.
abbrev pub Applies : Job → Node → ℕ → Type 0
Applies j m i = applicable (action_of j i) m.state ≡ true

-- ---- what the functions promise

-- Bit i of a set tells of each action of a job whether it is applicable in a state; bits of no action mean nothing.
abbrev pub Chooses : Job → ℕ → ℕ → Type 0
Chooses j s r = (i : ℕ) → i < length j.actions → bit r i ≡ applicable (action_of j i) s

-- Action i of a job was read; costs have 16 bits.
pub record Acts (j : Job) (i : ℕ) (r : code.Action) : Type 0 where
  pub acts : action_is r ≡ action_of j i
  pub cheap : r.cost < 65536

pub record Costs (j : Job) (i r : ℕ) : Type 0 where
  pub costs : r ≡ (action_of j i).cost
  pub cheap : r < 65536

-- A state and residuals were put together.
pub record Made (n facts : ℕ) (rs : List ℕ) (r : Option (List ℕ)) : Type 0 where
  pub lives : reached_is n r ≡ alive facts (take n rs)
  pub holds : (node : List ℕ) → r ≡ Some node → node ≡ facts ∷ rs

-- The node that is reached, if any.
pub record Leads (n : ℕ) (to : Option Node) (r : Option (List ℕ)) : Type 0 where
  pub leads : reached_is n r ≡ to
  pub clean : (node : List ℕ) → r ≡ Some node → Clean n node

-- The residuals that the hints leave.
pub record Carries (n : ℕ) (to r : List ℕ) : Type 0 where
  pub carries : hints_is n r ≡ to
  pub clean : CleanHints n r
