-- What a system with an estimate keeps of the system without: its laws, its finiteness, and the runs that lead to a goal.
use Rattle.std.proofs.Common.{Option, None, Some}
use mathlib.Core.Path.{◌≡◌, refl, sym, ap, ◌∙◌}
use Prim.Native.Nat.{ℕ, ◌+◌, ◌≤◌, ◌<◌}
use mathlib.Core.Bool.{Bool, true, false, true≢false}
use mathlib.Core.List.{List}
use mathlib.Core.Logic.{◌↔◌}
use Rattle.model.specs.exploration.Key.{Key}
use Rattle.model.specs.exploration.System.{System}
use Rattle.model.specs.exploration.Guided.{kept, has, value_of, guided}
use Rattle.model.proofs.Tests.{none_some}
use Rattle.model.proofs.exploration.Laws.{Laws, Finite, HintLaws}
use Rattle.model.proofs.exploration.Runs.{Run, stop, on}
use Rattle.model.proofs.exploration.Optimality.{GoalRun}

same_node : {N : Type 0} {m n : N} → Some m ≡ Some n → m ≡ n
same_node h = cc

-- A node is kept exactly if it is there and passes.
pub kept_some : {N : Type 0} (test : N → Bool) (o : Option N) (n : N) → (kept test o ≡ Some n) ↔ ((o ≡ Some n) × (test n ≡ true))
unfolding kept
kept_some test None n = (λ h. none_some h, λ h. none_some h.0)
kept_some test (Some m) n = go (test m) refl
  where
    go : (b : Bool) → test m ≡ b → (kept test (Some m) ≡ Some n) ↔ ((Some m ≡ Some n) × (test n ≡ true))
    go true e = rw (e, kept) (λ h. (h, ap test (sym (same_node h)) ∙ e), λ h. h.0)
    go false e = rw (e, kept) (λ h. none_some h, λ h. absurd (true≢false (sym h.1 ∙ ap test (sym (same_node h.0)) ∙ e)))

-- Where there is no node, none is kept.
pub kept_none : {N : Type 0} (test : N → Bool) {o : Option N} → o ≡ None → kept test o ≡ None
unfolding kept
kept_none test e = ap (kept test) e

-- A node that does not pass is not kept.
pub kept_out : {N : Type 0} (test : N → Bool) {o : Option N} {n : N} → o ≡ Some n → test n ≡ false → kept test o ≡ None
unfolding kept
kept_out test e f = rw (e, kept, f)

module _ (S : System) (est : S.Node → Option ℕ) where
  abbrev G : System
  G = guided S est

  pub step_kept : (m n : S.Node) (i : ℕ) → G.step m i ≡ Some n → (S.step m i ≡ Some n) × (has (est n) ≡ true)
  step_kept m n i e = (kept_some (λ z. has (est z)) (S.step m i) n).0 e

  -- the laws, if the estimate is consistent and nothing is left at a goal
  pub guided_laws : Laws S → ((m n : S.Node) (i : ℕ) → i < S.actions → G.step m i ≡ Some n → value_of (est m) ≤ S.cost i + value_of (est n))
      → ((n : S.Node) → S.goal n ≡ true → value_of (est n) ≡ 0) → Laws G
  guided_laws laws c g = record {
    same_eq = laws.same_eq;
    same_refl = laws.same_refl;
    meet_true = laws.meet_true;
    start_proper = laws.start_proper;
    carry_proper = laws.carry_proper;
    meet_proper = laws.meet_proper;
    consistent = c;
    at_goal = g;
    ext = laws.ext;
  }

  pub guided_finite : Finite S → Finite G
  guided_finite fin = record {
    Ok = fin.Ok;
    start_ok = λ {m} e. fin.start_ok ((kept_some (λ z. has (est z)) S.start m).0 e).0;
    step_ok = λ m {n} i o e. fin.step_ok m i o (step_kept m n i e).0;
    code = fin.code;
    code_lt = fin.code_lt;
    code_eq = fin.code_eq;
  }

  unfoldable pub guided_hints : HintLaws S → HintLaws G
  guided_hints hl = record {
    meets = hl.meets;
    made = hl.made;
    meets_made = hl.meets_made;
    carried = λ m {n} h i as' p e. hl.carried m h i as' p (step_kept m n i e).0;
    dead = hl.dead;
  }

  module _ (back : (m n : S.Node) (i : ℕ) → i < S.actions → S.step m i ≡ Some n → has (est n) ≡ true → has (est m) ≡ true) where
    -- Runs to nodes with an estimate are runs in both.
    run_to : {m t : S.Node} {k l : Key} {p : List ℕ} → Run S m k p t l → has (est t) ≡ true → Run G m k p t l × (has (est m) ≡ true)
    run_to stop e = (stop, e)
    run_to (on {m = m} {n = n} i b s r) e =
        let q = run_to r e in
        (on i b ((kept_some (λ z. has (est z)) (S.step m i) n).1 (s, q.1)) q.0, back m n i b s q.1)

    run_from : {m t : S.Node} {k l : Key} {p : List ℕ} → Run G m k p t l → Run S m k p t l
    run_from stop = stop
    run_from (on {m = m} {n = n} i b s r) = on i b (step_kept m n i s).0 (run_from r)

    pub goal_run_to : ((n : S.Node) → S.goal n ≡ true → has (est n) ≡ true) → {p : List ℕ} {k : Key} → GoalRun S p k → GoalRun G p k
    goal_run_to goals (m, t, s, r, g) =
        let q = run_to r (goals t g) in
        (m, t, (kept_some (λ z. has (est z)) S.start m).1 (s, q.1), q.0, g)

    pub goal_run_from : {p : List ℕ} {k : Key} → GoalRun G p k → GoalRun S p k
    goal_run_from (m, t, s, r, g) = (m, t, ((kept_some (λ z. has (est z)) S.start m).0 s).0, run_from r, g)
