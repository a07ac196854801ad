-- The first path among the uncut goal nodes of a key.
use Rattle.std.proofs.Common.{Option, None, Some}
use mathlib.Core.Path.{◌≡◌, refl, sym, ap, ◌∙◌, subst}
use Prim.Native.Nat.{ℕ, zero, suc, ◌+◌}
use native.Mathlib.Omega.{arith}
use mathlib.Core.Bool.{Bool, true, false, not, ◌&&◌, true≢false}
use mathlib.Core.List.{List, [], ◌∷◌}
use mathlib.Core.Logic.{inl}
use lib.ListN.{length}
use borrow.Author.Tests.{not-true}
use Rattle.model.specs.exploration.Key.{Key, same_key, first_of, First}
use Rattle.model.specs.exploration.System.{System}
use Rattle.model.proofs.exploration.KeyLaws.{same_key_lem, same_key_refl, first_trans, first_of_is, first_of_first}
use Rattle.astar.specs.Records.{Held, Table, path_of}
use Rattle.astar.specs.Search.{first_goal}
use Rattle.model.proofs.Tests.{and_both}
use Rattle.astar.proofs.Slots.{Holds}

module _ (S : System) (k : Key) where
  -- an uncut goal node of key k
  abbrev pub AtGoal : Held S → Type 0
  AtGoal r = (r.key ≡ k) × (S.cut r.hints ≡ false) × (S.goal r.node ≡ true)

  test : Held S → Bool
  test r = same_key r.key k && not (S.cut r.hints) && S.goal r.node

  test_true : (r : Held S) → test r ≡ true → AtGoal r
  unfolding test
  test_true r h =
      let a = (and_both _ _).0 h in
      let b = (and_both _ _).0 a.0 in
      (same_key_lem _ _ b.0, not-true _ b.1, a.1)

  test_false : (r : Held S) → test r ≡ false → AtGoal r → ⊥
  unfolding test
  test_false r h g =
      let a : same_key r.key k ≡ true = subst (λ (z : Key). same_key z k ≡ true) (sym g.0) (same_key_refl k) in
      true≢false (sym ((and_both _ _).1 ((and_both _ _).1 (a, ap not g.1), g.2)) ∙ h)

  module _ (t : Table S) where
    -- p is the path of an uncut goal node of the slots rs, which are numbered from i on
    abbrev GoalPath : Table S → ℕ → List ℕ → Type 0
    GoalPath rs i p = (d : ℕ) × (j : ℕ) × (r : Held S) × Holds rs d r × (j ≡ i + d) × AtGoal r × (p ≡ path_of S t k.steps j)

    -- what `first_goal` has of these slots
    abbrev GoalOf : Table S → ℕ → Option (List ℕ) → Type 0
    GoalOf rs i None = (d : ℕ) (r : Held S) → Holds rs d r → AtGoal r → ⊥
    GoalOf rs i (Some p) = GoalPath rs i p × ((d j : ℕ) (r : Held S) → Holds rs d r → j ≡ i + d → AtGoal r → First p (path_of S t k.steps j))

    abbrev Sized : Table S → ℕ → Type 0
    Sized rs i = (d j : ℕ) (r : Held S) → Holds rs d r → j ≡ i + d → AtGoal r → length (path_of S t k.steps j) ≡ k.steps

    later : (x : Held S) (rs : Table S) (i : ℕ) (p : List ℕ) → GoalPath rs (suc i) p → GoalPath (x ∷ rs) i p
    later x rs i p g = (suc g.0, g.1, g.2, g.3, omega (arith, g.4), g.5, g.6)

    skip : (x : Held S) (rs : Table S) (i : ℕ) → (AtGoal x → ⊥) → (o : Option (List ℕ)) → GoalOf rs (suc i) o → GoalOf (x ∷ rs) i o
    skip x rs i n None g = go
      where
        go : (d : ℕ) (r : Held S) → Holds (x ∷ rs) d r → AtGoal r → ⊥
        go zero r h a = let e : x ≡ r = cc in n (subst AtGoal (sym e) a)
        go (suc d) r h a = g d r h a
    skip x rs i n (Some p) g = (later x rs i p g.0, go)
      where
        go : (d j : ℕ) (r : Held S) → Holds (x ∷ rs) d r → j ≡ i + d → AtGoal r → First p (path_of S t k.steps j)
        go zero j r h e a = let q : x ≡ r = cc in absurd (n (subst AtGoal (sym q) a))
        go (suc d) j r h e a = g.1 d j r h (omega arith) a

    only : (x : Held S) (rs : Table S) (i : ℕ) → AtGoal x → GoalOf rs (suc i) None → GoalOf (x ∷ rs) i (Some (path_of S t k.steps i))
    only x rs i a g = ((0, i, x, refl, omega arith, a, refl), go)
      where
        go : (d j : ℕ) (r : Held S) → Holds (x ∷ rs) d r → j ≡ i + d → AtGoal r → First (path_of S t k.steps i) (path_of S t k.steps j)
        go zero j r h e b = let q : i ≡ j = omega arith in inl (ap (path_of S t k.steps) q)
        go (suc d) j r h e b = absurd (g d r h b)

    first_one : (x : Held S) (rs : Table S) (i : ℕ) (p : List ℕ) → Sized (x ∷ rs) i → AtGoal x → GoalOf rs (suc i) (Some p) → GoalOf (x ∷ rs) i (Some (first_of (path_of S t k.steps i) p))
    first_one x rs i p sized a g = (first_of_is (GoalPath (x ∷ rs) i) own p (0, i, x, refl, omega arith, a, refl) (later x rs i p g.0), go)
      where
        own : List ℕ
        own = path_of S t k.steps i

        lengths : length own ≡ length p
        lengths = sized 0 i x refl (omega arith) a ∙ sym (ap length g.0.6 ∙ sized (suc g.0.0) g.0.1 g.0.2 g.0.3 (omega (arith, g.0.4)) g.0.5)

        go : (d j : ℕ) (r : Held S) → Holds (x ∷ rs) d r → j ≡ i + d → AtGoal r → First (first_of own p) (path_of S t k.steps j)
        go zero j r h e b = let q : i ≡ j = omega arith in subst (λ (z : ℕ). First (first_of own p) (path_of S t k.steps z)) q (first_of_first own p lengths).0
        go (suc d) j r h e b = first_trans _ _ _ (first_of_first own p lengths).1 (g.1 d j r h (omega arith) b)

    goal_of : (rs : Table S) (i : ℕ) → Sized rs i → GoalOf rs i (first_goal S t k rs i)
    unfolding first_goal test
    goal_of [] i sized = λ d r h a. let z : ◌≡◌ {A = ℕ} 0 1 = cc in absurd (omega arith)
    goal_of (x ∷ rs) i sized = go (test x) refl (first_goal S t k rs (suc i)) refl (goal_of rs (suc i) (λ d j r h e a. sized (suc d) j r h (omega arith) a))
      where
        go : (b : Bool) → test x ≡ b → (o : Option (List ℕ)) → first_goal S t k rs (suc i) ≡ o → GoalOf rs (suc i) (first_goal S t k rs (suc i)) → GoalOf (x ∷ rs) i (first_goal S t k (x ∷ rs) i)
        go true e None f ih = rw (e, first_goal, f) (only x rs i (test_true x e) (rw f at ih))
        go true e (Some p) f ih = rw (e, first_goal, f) (first_one x rs i p sized (test_true x e) (rw f at ih))
        go false e o f ih = rw (e, first_goal) (skip x rs i (test_false x e) (first_goal S t k rs (suc i)) ih)

    module _ (sized : (i : ℕ) (r : Held S) → Holds t i r → r.key ≡ k → length (path_of S t k.steps i) ≡ k.steps) where
      whole : GoalOf t 0 (first_goal S t k t 0)
      whole = goal_of t 0 (λ d j r h e a. let q : d ≡ j = omega arith in sized j r (subst (λ (z : ℕ). Holds t z r) q h) a.0)

      pub goal_none : first_goal S t k t 0 ≡ None → (i : ℕ) (r : Held S) → Holds t i r → AtGoal r → ⊥
      goal_none e = rw e at whole

      -- The path found is that of an uncut goal node of key k, and the first of all these.
      pub goal_some : {p : List ℕ} → first_goal S t k t 0 ≡ Some p
          → ((i : ℕ) × (r : Held S) × Holds t i r × AtGoal r × (p ≡ path_of S t k.steps i)) × ((i : ℕ) (r : Held S) → Holds t i r → AtGoal r → First p (path_of S t k.steps i))
      goal_some {p} e =
          let g : GoalOf t 0 (Some p) = rw e at whole in
          let q : g.0.0 ≡ g.0.1 = omega (arith, g.0.4) in
          ((g.0.1, g.0.2, subst (λ (z : ℕ). Holds t z g.0.2) q g.0.3, g.0.5, g.0.6), λ i r h a. g.1 i i r h (omega arith) a)
