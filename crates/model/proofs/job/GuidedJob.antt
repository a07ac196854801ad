-- The system of a job with its estimate: the estimate is consistent, and the plans are the same runs as without.
use Rattle.std.proofs.Common.{Option, None, Some}
use mathlib.Core.Path.{◌≡◌, refl, sym, ap, subst}
use Prim.Native.Nat.{ℕ, ◌+◌, ◌≤◌, ◌<◌}
use native.Mathlib.Omega.{arith}
use mathlib.Core.Bool.{Bool, true, false, true≢false}
use mathlib.Core.List.{List}
use lib.ListN.{length}
use Rattle.model.specs.job.Job.{Job, action_of}
use Rattle.model.specs.task.State.{within}
use Rattle.model.specs.task.Plan.{allowed, meets_hints}
use Rattle.model.specs.exploration.Key.{Key}
use Rattle.model.specs.exploration.Guided.{has, value_of, PlansStay}
use Rattle.model.specs.search.Node.{Node}
use Rattle.model.specs.search.MaxEstimate.{AtMost}
use Rattle.model.specs.search.JobSystem.{start_node, next_node, is_goal, start_hints, plain_system, node_estimate, system_of}
use Rattle.model.proofs.exploration.Laws.{Laws, Finite, HintLaws}
use Rattle.model.proofs.exploration.Optimality.{GoalRun}
use Rattle.model.proofs.exploration.Guiding.{kept_some, step_kept, guided_laws, guided_finite, guided_hints, goal_run_to, goal_run_from}
use Rattle.model.proofs.exploration.Pruning.{plans_stay}
use Rattle.model.proofs.job.Accepted.{ProperJob}
use Rattle.model.proofs.job.NodeLaws.{next_some}
use Rattle.model.proofs.estimate.Estimates.{falls_least, goal_zero}
use Rattle.model.proofs.job.SystemLaws.{plain_laws}
use Rattle.model.proofs.job.FiniteNodes.{plain_finite}
use Rattle.model.proofs.job.HintMeaning as hints
use Rattle.model.proofs.job.HintMeaning.{plain_hints}
use Rattle.model.proofs.job.PlansAsRuns.{key_of, plain_allowed_run, plain_run_allowed}

module _ (j : Job) where
  abbrev left : Node → Option ℕ
  left n = node_estimate j n

  -- what is at most a number is there
  most_has : (o : Option ℕ) (t : ℕ) → AtMost o t → has o ≡ true
  most_has None t h = absurd h
  most_has (Some e) t h = refl

  most_value : (o : Option ℕ) (t : ℕ) → AtMost o t → value_of o ≤ t
  most_value None t h = absurd h
  most_value (Some e) t h = h

  own : (o : Option ℕ) → has o ≡ true → AtMost o (value_of o)
  own None h = absurd (true≢false (sym h))
  own (Some e) h = omega arith

  -- "never to fall by more than a step's cost along that step"
  falls : (m n : Node) (i : ℕ) → i < length j.actions → next_node j m i ≡ Some n → has (left n) ≡ true
      → AtMost (left m) ((action_of j i).cost + value_of (left n))
  falls m n i b s h =
      let a = (next_some j m i n).0 s in
      falls_least j m.state i (value_of (left n)) b a.0 (subst (λ (k : Node). AtMost (left k) (value_of (left n))) (sym a.2) (own (left n) h))

  -- What leads to a node that has an estimate has one.
  back : (m n : Node) (i : ℕ) → i < length j.actions → next_node j m i ≡ Some n → has (left n) ≡ true → has (left m) ≡ true
  back m n i b s h = most_has (left m) _ (falls m n i b s h)

  goal_facts : (n : Node) → is_goal j n ≡ true → within j.goal n.state ≡ true
  unfolding is_goal
  goal_facts n h = go (within j.goal n.state) refl
    where
      go : (b : Bool) → within j.goal n.state ≡ b → within j.goal n.state ≡ true
      go true e = e
      go false e = absurd (true≢false (sym (rw (e, is_goal) at h)))

  goals_zero : (n : Node) → is_goal j n ≡ true → left n ≡ Some 0
  goals_zero n h = goal_zero j n.state (goal_facts n h)

  goals : (n : Node) → is_goal j n ≡ true → has (left n) ≡ true
  goals n h = ap has (goals_zero n h)

  pub job_laws : Laws (system_of j)
  job_laws = guided_laws (plain_system j) left (plain_laws j)
      (λ m n i b s. let k = step_kept (plain_system j) left m n i s in most_value (left m) _ (falls m n i b k.0 k.1))
      (λ n h. ap value_of (goals_zero n h))

  module _ (proper : ProperJob j) where
    pub job_finite : Finite (system_of j)
    job_finite = guided_finite (plain_system j) left (plain_finite j proper)

    unfoldable pub job_hints : HintLaws (system_of j)
    job_hints = guided_hints (plain_system j) left (plain_hints j proper)

    pub meets_start : (m : Node) (p : List ℕ) → (system_of j).start ≡ Some m → job_hints.meets m (start_hints j) p ≡ meets_hints j p
    unfolding job_hints guided_hints
    meets_start m p e = hints.meets_start j proper m p ((kept_some (λ (z : Node). has (left z)) (start_node j) m).0 e).0

    pub allowed_run : (p : List ℕ) → allowed j p ≡ true → GoalRun (system_of j) p (key_of j p)
    allowed_run p h = goal_run_to (plain_system j) left back goals (plain_allowed_run j proper p h)

    pub run_allowed : (p : List ℕ) (k : Key) → GoalRun (system_of j) p k → (allowed j p ≡ true) × (k ≡ key_of j p)
    run_allowed p k r = plain_run_allowed j proper p k (goal_run_from (plain_system j) left back r)

    -- "Plans stay equal to those of document 01."
    pub job_plans_stay : PlansStay (plain_system j) (node_estimate j)
    job_plans_stay = plans_stay (plain_system j) left back goals (plain_laws j) (plain_finite j proper) job_laws job_finite
