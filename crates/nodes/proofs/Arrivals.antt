-- Which node the start is, and which node an action leads to.
use Rattle.std.proofs.Common.{◌≡◌, refl, sym, ap, ◌∙◌, ℕ, ◌+◌, ◌≤◌, true, false, Option, None, Some, List, [], ◌∷◌, length, take, drop, get_or, replicate}
use Rattle.std.proofs.Common.{arith, length-drop}
use Rattle.model.specs.logic.Formula.{Formula}
use Rattle.model.specs.logic.Truth.{World}
use Rattle.model.specs.job.Job.{Action, Job, action_of}
use Rattle.model.specs.task.State.{within, applicable, after}
use Rattle.model.specs.search.Node.{Node, progressed_all, closing_all, some_dead}
use Rattle.model.specs.search.JobSystem.{alive, next_node, is_goal}
use Rattle.progression.specs.Padded.{padded}
use Rattle.progression.proofs.Padding.{take-padded}
use Rattle.nodes.specs.Meaning.{node_is, Applies, reached_is, Made, Leads}
use Rattle.nodes.proofs.Fields.{length-left}

-- ---- what an answer says

pub leads_some : {n : ℕ} {to : Option Node} {r : Option (List ℕ)} {node : List ℕ} → Leads n to r → r ≡ Some node → to ≡ Some (node_is n node)
unfolding reached_is
leads_some {n} l e = sym l.leads ∙ ap (reached_is n) e

pub leads_none : {n : ℕ} {to : Option Node} {r : Option (List ℕ)} → Leads n to r → r ≡ None → to ≡ None
unfolding reached_is
leads_none {n} l e = sym l.leads ∙ ap (reached_is n) e

-- ---- making a node

module _ (n s : ℕ) (rs : List ℕ) {count : ℕ} (k : count ≡ n) where
  -- One of so many constraints is dead.
  pub made_none : some_dead (take count rs) ≡ true → Made n s rs None
  unfolding reached_is alive
  made_none e = let d = rw k at e in record { lives = rw (alive, d) refl; holds = λ node f. absurd (cc) }

  -- None of them is.
  pub made_some : {node : List ℕ} → some_dead (take count rs) ≡ false → node ≡ s ∷ rs → Made n s rs (Some node)
  unfolding reached_is alive node_is
  made_some {node} e f = let d = rw k at e in record { lives = rw (alive, d, f) refl; holds = λ m g. let q : m ≡ node = cc in q ∙ f }

-- The residuals of all constraints and nothing else make a clean node.
pub made_leads : {n s : ℕ} {rs : List ℕ} (l : List ℕ) {r : Option (List ℕ)} → rs ≡ padded l → length l ≡ n → Made n s rs r → Leads n (alive s l) r
made_leads {n} {s} {rs} l e k m =
    let t : take n rs ≡ l = rw e (take-padded l n k) in
    record {
      leads = rw t at m.lives;
      clean = λ node f. rw (m.holds node f) (ap (λ (x : List ℕ). s ∷ x) (rw t e));
    }

-- ---- actions

-- An action that is not applicable leads nowhere.
pub next_none : (j : Job) (n : Node) (i : ℕ) → applicable (action_of j i) n.state ≡ false → next_node j n i ≡ None
unfolding next_node
next_none j n i e = rw (e, next_node)

-- Where there are no formulas, all entries are 0.
none_left : (φs : List Formula) (rs : List ℕ) (w : World) → length φs ≡ 0 → replicate 8 0 ≡ padded (progressed_all φs rs w)
unfolding progressed_all padded
none_left [] rs w e = refl
none_left (φ ∷ φs) rs w e = absurd (omega arith)

-- An action a that is applicable leads to a state s.
module _ (j : Job) (n : ℕ) (node : List ℕ) (i : ℕ) {a : Action} {s : ℕ} (act : a ≡ action_of j i) (e : Applies j (node_is n node) i)
    (f : s ≡ after a (get_or node 0 0)) (k : length j.constraints ≡ n) (l : n + 1 ≤ length node) where
  -- The constraints see the state after it.
  pub next_leads : {qs rs : List ℕ} {r : Option (List ℕ)} → qs ≡ drop 1 node
      → rs ≡ padded (progressed_all j.constraints (take n qs) (record { state = s; made = Some i })) → Made n s rs r
      → Leads n (next_node j (node_is n node) i) r
  unfolding next_node node_is
  next_leads d g m =
      rw (e, next_node, ← act, ← f)
      (made_leads _ (rw d at g) (length-left j.constraints n (drop 1 node) _ k (rw length-drop (omega arith))) m)

  -- Without constraints a node is its state alone.
  pub next_alone : n ≡ 0 → Leads n (next_node j (node_is n node) i) (Some (s ∷ replicate 8 0))
  unfolding some_dead
  next_alone z = next_leads refl (none_left j.constraints _ _ (k ∙ z)) (made_some n s (replicate 8 0) (sym z) refl refl)

-- ---- the goal
module _ (j : Job) (n : ℕ) (node : List ℕ) {g : ℕ} (goal : g ≡ j.goal) where
  pub goal_not : within g (get_or node 0 0) ≡ false → is_goal j (node_is n node) ≡ false
  unfolding is_goal node_is
  goal_not e = let q = rw goal at e in rw (q, is_goal)

  -- Where the goal is true, the constraints decide.
  pub goal_closing : within g (get_or node 0 0) ≡ true
      → is_goal j (node_is n node) ≡ closing_all j.constraints (take n (drop 1 node)) (record { state = get_or node 0 0; made = None })
  unfolding is_goal node_is
  goal_closing e = let q = rw goal at e in rw (q, is_goal)
