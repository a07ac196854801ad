-- The allowed plans of a job are the runs of its system from the start to a goal, with their cost and length as the key.
use Rattle.std.proofs.Common.{None, Some}
use mathlib.Core.Path.{◌≡◌, refl, sym, ap, ◌∙◌, subst}
use mathlib.Core.Logic.{◌↔◌}
use Prim.Native.Nat.{ℕ, ◌+◌}
use native.Mathlib.Omega.{arith}
use native.Mathlib.Nat.{zero-add}
use mathlib.Core.Bool.{Bool, true, false, true≢false}
use mathlib.Core.List.{List, [], ◌∷◌}
use lib.ListN.{length}
use Rattle.model.specs.logic.Truth.{World, all_hold}
use Rattle.model.specs.job.Job.{Job, action_of}
use Rattle.model.specs.task.State.{within, after}
use Rattle.model.specs.task.Plan.{state_after, worlds_after, worlds, executable, allowed, cost_of}
use Rattle.model.specs.exploration.Key.{Key, zero_key, extend}
use Rattle.model.specs.search.Node.{Node, closing_all, some_dead}
use Rattle.model.specs.search.JobSystem.{start_node, next_node, is_goal, plain_system}
use Rattle.model.proofs.exploration.Runs.{Run, stop, on, run_steps}
use Rattle.model.proofs.exploration.Optimality.{GoalRun}
use Rattle.model.proofs.job.Accepted.{ProperJob}
use Rattle.model.proofs.job.PlanLaws.{executable_cons, allowed_split}
use Rattle.model.proofs.job.NodeLaws.{first_node, world_after, node_after, start_some, next_some}
use Rattle.model.proofs.job.ResidualLists.{length-residuals, length-progressed_all}
use Rattle.model.proofs.job.ResidualsHold.{residuals_hold, closing_right, dead_right, right_first, right_next}

module _ (j : Job) where
  -- the closing world of a state
  abbrev closing_world : ℕ → World
  closing_world s = record { state = s; made = None }

  -- A node is a goal if its state has the goal facts and its residuals hold of the closing world.
  goal_split : (n : Node) → (is_goal j n ≡ true)
      ↔ ((within j.goal n.state ≡ true) × (residuals_hold j.constraints n.residuals (closing_world n.state ∷ []) ≡ true))
  unfolding is_goal
  goal_split n = go (within j.goal n.state) refl
    where
      closed : closing_all j.constraints n.residuals (closing_world n.state) ≡ residuals_hold j.constraints n.residuals (closing_world n.state ∷ [])
      closed = closing_right j.constraints n.residuals (closing_world n.state)

      go : (b : Bool) → within j.goal n.state ≡ b → (is_goal j n ≡ true)
          ↔ ((within j.goal n.state ≡ true) × (residuals_hold j.constraints n.residuals (closing_world n.state ∷ []) ≡ true))
      go true e = rw (e, is_goal) (λ h. (refl, sym closed ∙ h), λ h. closed ∙ h.1)
      go false e = rw (e, is_goal) (λ h. absurd (true≢false (sym h)), λ h. h.0)

  -- the key of a plan
  abbrev pub key_of : List ℕ → Key
  key_of p = record { cost = cost_of j p; steps = length p }

  module _ (proper : ProperJob j) where
    -- the residuals of a node hold of the worlds that actions lead through from it
    abbrev HoldsOn : Node → List ℕ → Bool
    HoldsOn m p = residuals_hold j.constraints m.residuals (worlds_after j m.state p)

    -- They do exactly if those after the first action hold of the rest.
    holds_on : (m : Node) (i : ℕ) (p : List ℕ) → HoldsOn (node_after j m i) p ≡ HoldsOn m (i ∷ p)
    unfolding worlds_after
    holds_on m i p = right_next j j.constraints proper.constraint_parts m.residuals (world_after j m.state i) (after (action_of j i) m.state) p

    -- A node whose residuals hold of something is alive.
    alive_if : (m : Node) (p : List ℕ) → length m.residuals ≡ length j.constraints → HoldsOn m p ≡ true → some_dead m.residuals ≡ false
    alive_if m p l h = go (some_dead m.residuals) refl
      where
        go : (b : Bool) → some_dead m.residuals ≡ b → some_dead m.residuals ≡ false
        go true e = absurd (true≢false (sym h ∙ dead_right j.constraints m.residuals (worlds_after j m.state p) l e))
        go false e = e

    -- Actions that can be made, and whose worlds meet the residuals of a node, are a run from it.
    makes_run : (p : List ℕ) (m : Node) (k : Key) → length m.residuals ≡ length j.constraints → executable j m.state p ≡ true → HoldsOn m p ≡ true
        → (t : Node) × (l : Key) × Run (plain_system j) m k p t l
    makes_run [] m k r e h = (m, k, stop)
    makes_run (i ∷ p) m k r e h =
        let n : Node = node_after j m i in
        let c = (executable_cons j m.state i p).0 e in
        let r' : length n.residuals ≡ length j.constraints = length-progressed_all j.constraints m.residuals (world_after j m.state i) r in
        let h' : HoldsOn n p ≡ true = holds_on m i p ∙ h in
        let s : next_node j m i ≡ Some n = (next_some j m i n).1 (c.1, alive_if n p r' h', refl) in
        let q = makes_run p n (extend k (action_of j i).cost) r' c.2 h' in
        (q.0, q.1, on i c.0 s q.2)

    -- what a run by these actions is, from a node with a key to a node with a key
    record Course (m : Node) (k : Key) (p : List ℕ) (t : Node) (l : Key) : Type 0 where
      pub made : executable j m.state p ≡ true
      pub state : t.state ≡ state_after j m.state p
      pub meets : HoldsOn m p ≡ HoldsOn t []
      pub cost : l.cost ≡ k.cost + cost_of j p

    run_course : {m t : Node} {k l : Key} {p : List ℕ} → Run (plain_system j) m k p t l → Course m k p t l
    unfolding executable state_after cost_of extend
    run_course stop = record { made = refl; state = refl; meets = refl; cost = omega arith }
    run_course (on {m = m} {n = n} {t = t} {k = k} {j = l} {as' = p} i b s r) =
        let a = (next_some j m i n).0 s in
        subst (λ (x : Node). Course x (extend k (action_of j i).cost) p t l → Course m k (i ∷ p) t l) a.2 (λ c. record {
          made = (executable_cons j m.state i p).1 (b, a.0, c.made);
          state = c.state;
          meets = sym (holds_on m i p) ∙ c.meets;
          cost = omega (arith, c.cost);
        }) (run_course r)

    -- The constraints hold of a plan's worlds exactly if what the start leaves of them does.
    start_holds : (p : List ℕ) → HoldsOn (first_node j) p ≡ all_hold j.constraints (worlds j p)
    unfolding worlds
    start_holds p = right_first j j.constraints proper.constraint_parts (closing_world j.start) j.start p

    course_key : {m t : Node} {k : Key} {p : List ℕ} → Run (plain_system j) m zero_key p t k → k ≡ key_of p
    unfolding zero_key
    course_key {p = p} r =
        let a = (run_course r).cost ∙ zero-add (cost_of j p) in
        let b = run_steps (plain_system j) r ∙ zero-add (length p) in
        λ i. record { cost = a i; steps = b i }

    -- The end of a run is a goal exactly if its state has the goal facts and its actions meet what the residuals before them say.
    end_goal : {m t : Node} {k l : Key} {p : List ℕ} → Course m k p t l
        → (is_goal j t ≡ true) ↔ ((within j.goal (state_after j m.state p) ≡ true) × (HoldsOn m p ≡ true))
    unfolding worlds_after
    end_goal {t = t} c = (
      λ g. let h = (goal_split t).0 g in (ap (within j.goal) (sym c.state) ∙ h.0, c.meets ∙ h.1),
      λ h. (goal_split t).1 (ap (within j.goal) c.state ∙ h.0, sym c.meets ∙ h.1),
    )

    -- An allowed plan is a run from the start to a goal, and its cost and length are the key.
    pub plain_allowed_run : (p : List ℕ) → allowed j p ≡ true → GoalRun (plain_system j) p (key_of p)
    plain_allowed_run p h =
        let a = (allowed_split j p).0 h in
        let met : HoldsOn (first_node j) p ≡ true = start_holds p ∙ a.2 in
        let l : length (first_node j).residuals ≡ length j.constraints = length-residuals j.constraints (closing_world j.start) in
        let s : start_node j ≡ Some (first_node j) = (start_some j (first_node j)).1 (alive_if (first_node j) p l met, refl) in
        let r = makes_run p (first_node j) zero_key l a.0 met in
        let q = subst (Run (plain_system j) (first_node j) zero_key p r.0) (course_key r.2) r.2 in
        (first_node j, r.0, s, q, (end_goal (run_course r.2)).1 (a.1, met))

    -- A run from the start to a goal is an allowed plan, and its key is the plan's.
    pub plain_run_allowed : (p : List ℕ) (k : Key) → GoalRun (plain_system j) p k → (allowed j p ≡ true) × (k ≡ key_of p)
    plain_run_allowed p k (m, t, s, r, g) =
        let first = sym ((start_some j m).0 s).1 in
        let r' : Run (plain_system j) (first_node j) zero_key p t k = subst (λ (n : Node). Run (plain_system j) n zero_key p t k) first r in
        let c = run_course r' in
        let e = (end_goal c).0 g in
        ((allowed_split j p).1 (c.made, e.0, sym (start_holds p) ∙ e.1), course_key r')
