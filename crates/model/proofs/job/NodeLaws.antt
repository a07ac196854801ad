-- The nodes of a job: when two are the same, and which node an action leads to.
use Rattle.std.proofs.Common.{None, Some}
use mathlib.Core.Path.{◌≡◌, refl, sym, ap, ap₂}
use mathlib.Core.Logic.{◌↔◌}
use Prim.Native.Nat.{ℕ}
use native.Mathlib.Omega.{arith}
use mathlib.Core.Bool.{Bool, true, false, true≢false}
use mathlib.Core.List.{List, [], ◌∷◌}
use lib.Dec.{eqb}
use borrow.Author.Tests.{eqb-true, eq-eqb}
use Rattle.model.specs.logic.Truth.{World}
use Rattle.model.specs.job.Job.{Job, action_of}
use Rattle.model.specs.task.State.{applicable, after}
use Rattle.model.specs.search.Node.{Node, residuals, progressed_all, some_dead, same_numbers, same_node}
use Rattle.model.specs.search.JobSystem.{alive, start_node, next_node}

-- ---- equal nodes

pub numbers_eq : (rs qs : List ℕ) → same_numbers rs qs ≡ true → rs ≡ qs
unfolding same_numbers
numbers_eq [] [] h = refl
numbers_eq [] (q ∷ qs) h = absurd (true≢false (sym h))
numbers_eq (r ∷ rs) [] h = absurd (true≢false (sym h))
numbers_eq (r ∷ rs) (q ∷ qs) h = go (eqb r q) refl (numbers_eq rs qs)
  where
    go : (c : Bool) → eqb r q ≡ c → (same_numbers rs qs ≡ true → rs ≡ qs) → r ∷ rs ≡ q ∷ qs
    go true e ih = ap₂ (λ (x : ℕ) (xs : List ℕ). x ∷ xs) (eqb-true r q e) (ih (rw (e, same_numbers) at h))
    go false e ih = absurd (true≢false (sym (rw (e, same_numbers) at h)))

pub numbers_same : (rs : List ℕ) → same_numbers rs rs ≡ true
unfolding same_numbers
numbers_same [] = refl
numbers_same (r ∷ rs) = rw (eq-eqb r r refl, same_numbers) (numbers_same rs)

-- Nodes that test the same are equal.
pub node_eq : (m n : Node) → same_node m n ≡ true → m ≡ n
unfolding same_node
node_eq m n h = go (eqb m.state n.state) refl
  where
    go : (c : Bool) → eqb m.state n.state ≡ c → m ≡ n
    go true e =
        let p = eqb-true m.state n.state e in
        let q = numbers_eq m.residuals n.residuals (rw (e, same_node) at h) in
        λ i. record { state = p i; residuals = q i }
    go false e = absurd (true≢false (sym (rw (e, same_node) at h)))

pub node_same : (m : Node) → same_node m m ≡ true
unfolding same_node
node_same m = rw (eq-eqb m.state m.state refl, same_node) (numbers_same m.residuals)

-- ---- alive nodes

-- A node is there exactly if none of its residuals is dead.
pub alive_some : (s : ℕ) (rs : List ℕ) (m : Node) → (alive s rs ≡ Some m) ↔ ((some_dead rs ≡ false) × (record { state = s; residuals = rs } ≡ m))
unfolding alive
alive_some s rs m = go (some_dead rs) refl
  where
    go : (b : Bool) → some_dead rs ≡ b → (alive s rs ≡ Some m) ↔ ((some_dead rs ≡ false) × (record { state = s; residuals = rs } ≡ m))
    go true e = rw (e, alive) (λ h. let z : ◌≡◌ {A = ℕ} 0 1 = cc in absurd (omega arith), λ h. absurd (true≢false h.0))
    go false e = rw (e, alive) (λ h. (refl, (cc)), λ h. ap Some h.1)

module _ (j : Job) where
  -- the start node, and the node after an action, dead or not
  abbrev pub first_node : Node
  first_node = record { state = j.start; residuals = residuals j.constraints (record { state = j.start; made = None }) }

  abbrev pub world_after : ℕ → ℕ → World
  world_after s i = record { state = after (action_of j i) s; made = Some i }

  abbrev pub node_after : Node → ℕ → Node
  node_after m i = record {
    state = after (action_of j i) m.state;
    residuals = progressed_all j.constraints m.residuals (world_after m.state i);
  }

  -- The start node is there exactly if no constraint is dead.
  pub start_some : (m : Node) → (start_node j ≡ Some m) ↔ ((some_dead first_node.residuals ≡ false) × (first_node ≡ m))
  unfolding start_node
  start_some m = alive_some j.start first_node.residuals m

  -- An action leads to a node exactly if it is applicable and no constraint is dead after it.
  pub next_some : (m : Node) (i : ℕ) (n : Node) → (next_node j m i ≡ Some n)
      ↔ ((applicable (action_of j i) m.state ≡ true) × (some_dead (node_after m i).residuals ≡ false) × (node_after m i ≡ n))
  unfolding next_node
  next_some m i n = go (applicable (action_of j i) m.state) refl
    where
      lives : (alive (node_after m i).state (node_after m i).residuals ≡ Some n) ↔ ((some_dead (node_after m i).residuals ≡ false) × (node_after m i ≡ n))
      lives = alive_some (node_after m i).state (node_after m i).residuals n

      go : (b : Bool) → applicable (action_of j i) m.state ≡ b → (next_node j m i ≡ Some n)
          ↔ ((applicable (action_of j i) m.state ≡ true) × (some_dead (node_after m i).residuals ≡ false) × (node_after m i ≡ n))
      go true e = rw (e, next_node) (λ h. let l = lives.0 h in (refl, l.0, l.1), λ h. lives.1 (h.1, h.2))
      go false e = rw (e, next_node) (λ h. let z : ◌≡◌ {A = ℕ} 0 1 = cc in absurd (omega arith), λ h. absurd (true≢false (sym h.0)))
