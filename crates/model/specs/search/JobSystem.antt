-- The transition system of a job, and its answer.
use Rattle.std.specs.Prelude.{◌≡◌, ℕ, ◌*◌, ◌^◌, ◌<◌, Bool, true, false, List, length, get_or, Option, None, Some}
use Rattle.model.specs.Bits.{bit}
use Rattle.model.specs.job.Job.{Job, action_of}
use Rattle.model.specs.task.State.{within, applicable, after}
use Rattle.model.specs.exploration.System.{System}
use Rattle.model.specs.exploration.Equations.{Answer}
use Rattle.model.specs.exploration.Explore.{reached, solve}
use Rattle.model.specs.exploration.Guided.{kept, guided}
use Rattle.model.specs.search.Estimate.{estimate_of}
use Rattle.model.specs.search.Node.{Node, node_words, residuals, progressed_all, closing_all, some_dead, meet_all, same_node}

-- a node, unless a constraint is dead: "but a pair with a dead rule remainder is not reached"
unfoldable pub alive : ℕ → List ℕ → Option Node
unfolding some_dead
alive s rs = elim (some_dead rs) [ true ↦ None | false ↦ Some (record { state = s; residuals = rs }) ]

-- "The start pair, the start facts with the remainders they leave"
unfoldable pub start_node : Job → Option Node
unfolding alive residuals
start_node j = alive j.start (residuals j.constraints (record { state = j.start; made = None }))

-- the node after action i, where it is applicable
unfoldable pub next_node : Job → Node → ℕ → Option Node
unfolding alive applicable after progressed_all action_of
next_node j n i = elim (applicable (action_of j i) n.state) [
  | false ↦ None
  | true ↦ (let s = after (action_of j i) n.state in alive s (progressed_all j.constraints n.residuals (record { state = s; made = Some i })))
]

-- "whose state has the goal and whose rule remainders are true of the closing world alone"
unfoldable pub is_goal : Job → Node → Bool
unfolding within closing_all
is_goal j n = elim (within j.goal n.state) [
  | true ↦ closing_all j.constraints n.residuals (record { state = n.state; made = None })
  | false ↦ false
]

-- "The start pair's hint remainders come from the start facts."
unfoldable pub start_hints : Job → List ℕ
unfolding residuals
start_hints j = residuals j.hints (record { state = j.start; made = None })

unfoldable pub carry_hints : Job → List ℕ → Node → ℕ → List ℕ
unfolding progressed_all
carry_hints j h n i = progressed_all j.hints h (record { state = n.state; made = Some i })

-- a hint's number and a setting of its parts
pub record HintSetting : Type 0 where
  pub hint : ℕ
  pub parts : ℕ

unfoldable pub hint_true_at : List ℕ → HintSetting → Bool
unfolding bit
hint_true_at h s = bit (get_or h s.hint 0) s.parts

-- a truth table of 64 bits for each hint
abbrev pub Tables : Job → List ℕ → Type 0
Tables j h = (length h ≡ length j.hints) × ((i : ℕ) → get_or h i 0 < 2 ^ 64)

-- There are no more nodes than a node's words have values.
unfoldable pub most_nodes : ℕ
most_nodes = 2 ^ (64 * node_words)

-- document 01's pairs and steps, with nothing estimated
abbrev pub plain_system : Job → System
plain_system j = record {
  Node = Node;
  same = same_node;
  start = start_node j;
  actions = length j.actions;
  cost = λ i. (action_of j i).cost;
  step = next_node j;
  goal = is_goal j;
  estimate = λ n. 0;
  Hints = List ℕ;
  start_hints = start_hints j;
  carry = carry_hints j;
  Setting = HintSetting;
  true_at = hint_true_at;
  meet = meet_all;
  cut = some_dead;
  Proper = Tables j;
  bound = most_nodes;
}

-- the estimate of a node, which is that of its state: rules and hints are not looked at
abbrev pub node_estimate : Job → Node → Option ℕ
node_estimate j n = estimate_of j n.state

-- "The search now takes pairs by cost plus estimate, then steps."
abbrev pub system_of : Job → System
system_of j = guided (plain_system j) (node_estimate j)

-- the job's plan with its cost, or 11 or 12: "The job's plan is the answer's path as just defined"
unfoldable pub solve_job : Job → Answer
unfolding solve kept same_node start_node action_of next_node is_goal estimate_of start_hints carry_hints meet_all some_dead most_nodes
solve_job j = solve (system_of j)

-- the number of nodes reached
unfoldable pub reached_count : Job → ℕ
unfolding reached kept same_node start_node action_of next_node is_goal estimate_of start_hints carry_hints meet_all some_dead most_nodes
reached_count j = length (reached (system_of j))
