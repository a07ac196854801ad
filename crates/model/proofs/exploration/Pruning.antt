-- Nodes from which no goal can be reached may be left out: the plans stay the same.
use Rattle.std.proofs.Common.{Option, Some}
use mathlib.Core.Path.{◌≡◌, sym, subst}
use Prim.Native.Nat.{ℕ, ◌<◌}
use mathlib.Core.Bool.{Bool, true}
use mathlib.Core.List.{List}
use mathlib.Core.Logic.{◌⊎◌, inl, inr}
use Rattle.model.specs.exploration.Key.{Key}
use Rattle.model.specs.exploration.System.{System}
use Rattle.model.specs.exploration.Equations.{unbounded, Answer, plan, no_plan, Entries, Starts, Arrives, Explores, Path, begin, onward, Plan, NoGoal, SomeCut}
use Rattle.model.specs.exploration.Equations.{Answers, with_plan, some_cut, none_cut}
use Rattle.model.specs.exploration.Explore.{Of, reached, solve}
use Rattle.model.specs.exploration.Guided.{has, guided, CutWithEstimate, Stays, plan_stays, twelve_stays, eleven_stays, eleven_twelve, PlansStay}
use Rattle.model.proofs.exploration.Laws.{Laws, Finite}
use Rattle.model.proofs.exploration.Solves.{reached_solves}
use Rattle.model.proofs.exploration.Answered.{answer_is, solve_answers}
use Rattle.model.proofs.exploration.Uniqueness.{unique}
use Rattle.model.proofs.exploration.Paths.{path_end}
use Rattle.model.proofs.exploration.Guiding.{kept_some}

module _ (S : System) (est : S.Node → Option ℕ)
    -- what leads to a kept node is kept, and every goal is
    (back : (m n : S.Node) (i : ℕ) → i < S.actions → S.step m i ≡ Some n → has (est n) ≡ true → has (est m) ≡ true)
    (goals : (n : S.Node) → S.goal n ≡ true → has (est n) ≡ true) where
  abbrev keep : S.Node → Bool
  keep n = has (est n)

  abbrev P : System
  P = guided S est

  abbrev R : Entries S
  R = Of S (reached S)

  -- the entries at kept nodes
  abbrev L : Entries P
  L n k h = R n k h × (keep n ≡ true)

  module _ (laws : Laws S) (fin : Finite S) where
    x : Explores S unbounded R
    x = reached_solves S laws fin

    to : {n : S.Node} {k : Key} {h : S.Hints} → Arrives P L n k h → Arrives S R n k h
    to {n} a = record {
      source = a.source;
      key = a.key;
      hints = a.hints;
      action = a.action;
      entry = a.entry.0;
      in_range = a.in_range;
      uncut = a.uncut;
      leads = ((kept_some keep (S.step a.source a.action) n).0 a.leads).0;
      key_is = a.key_is;
      hints_are = a.hints_are;
    }

    from : {n : S.Node} {k : Key} {h : S.Hints} → keep n ≡ true → Arrives S R n k h → Arrives P L n k h
    from {n} e a = record {
      source = a.source;
      key = a.key;
      hints = a.hints;
      action = a.action;
      entry = (a.entry, back a.source n a.action a.in_range a.leads e);
      in_range = a.in_range;
      uncut = a.uncut;
      leads = (kept_some keep (S.step a.source a.action) n).1 (a.leads, e);
      key_is = a.key_is;
      hints_are = a.hints_are;
    }

    arrived_go : {n : S.Node} {k : Key} → keep n ≡ true → Starts S n ⊎ ((g : S.Hints) × Arrives S R n k g) → Starts P n ⊎ ((g : S.Hints) × Arrives P L n k g)
    arrived_go {n} e (inl s) = inl ((kept_some keep S.start n).1 (s, e))
    arrived_go e (inr a) = inr (a.0, from e a.1)

    -- They solve the equations of the pruned system.
    pub pruned_solves : Explores P unbounded L
    pruned_solves = record {
      start = λ {n} s. let d = (kept_some keep S.start n).0 s in (x.start d.0, d.1);
      complete = λ {n} w a. let c = x.complete tt (to a) in (c.0, c.1, (c.2, ((kept_some keep (S.step a.source a.action) n).0 a.leads).1));
      arrived = λ l. arrived_go l.1 (x.arrived l.0);
      least = λ l a. x.least l.0 (to a);
      conjoined = λ {n} far l s.
          let c = x.conjoined (λ d. far ((kept_some keep S.start n).1 (d, l.1))) l.0 s in
          (λ y g a. c.0 y g (to a), λ f. c.1 (λ g a. f g (from l.1 a)));
      one = λ l m. x.one l.0 m.0;
      proper = λ l. x.proper l.0;
    }

    -- Paths to kept nodes are paths in both.
    path_to : {p : List ℕ} {n : S.Node} {k : Key} → keep n ≡ true → Path S R p n k → Path P L p n k
    path_to {n = n} e (begin s u) = begin ((kept_some keep S.start n).1 (s, e)) (u.0, (u.1, e), u.2)
    path_to {n = n} e (onward {m = m} i q b s u) =
        onward i (path_to (back m n i b s e) q) b ((kept_some keep (S.step m i) n).1 (s, e)) (u.0, (u.1, e), u.2)

    path_from : {p : List ℕ} {n : S.Node} {k : Key} → Path P L p n k → Path S R p n k
    path_from {n = n} (begin s u) = begin ((kept_some keep S.start n).0 s).0 (u.0, u.1.0, u.2)
    path_from {n = n} (onward {m = m} i q b s u) = onward i (path_from q) b ((kept_some keep (S.step m i) n).0 s).0 (u.0, u.1.0, u.2)

    plan_to : {c : ℕ} {p : List ℕ} → Plan S R c p → Plan P L c p
    plan_to y = record {
      node = y.node;
      key = y.key;
      cost_is = y.cost_is;
      path = path_to (goals y.node y.goal) y.path;
      goal = y.goal;
      least = λ u g. y.least (u.0, u.1.0, u.2) g;
      first = λ q g. y.first (path_from q) g;
    }

    module _ (plaws : Laws P) (pfin : Finite P) where
      -- The entries that the guided system reaches are those at kept nodes.
      back_to : {n : S.Node} {k : Key} {h : S.Hints} → Of P (reached P) n k h → L n k h
      back_to {n} {k} {h} = unique P plaws unbounded (Of P (reached P)) L (reached_solves P plaws pfin) pruned_solves n k h tt

      on_to : {n : S.Node} {k : Key} {h : S.Hints} → L n k h → Of P (reached P) n k h
      on_to {n} {k} {h} = unique P plaws unbounded L (Of P (reached P)) pruned_solves (reached_solves P plaws pfin) n k h tt

      cut_to : SomeCut P (Of P (reached P)) → CutWithEstimate S est
      cut_to (n, k, h, e, c) = let l = back_to e in (n, k, h, l.0, c, l.1)

      cut_from : CutWithEstimate S est → SomeCut P (Of P (reached P))
      cut_from (n, k, h, e, c, w) = (n, k, h, on_to (e, w), c)

      not_planned : {A : Type 0} {c : ℕ} {p : List ℕ} → NoGoal S R → Plan P (Of P (reached P)) c p → A
      not_planned f y = let u = path_end P y.path in absurd (f y.node y.key (u.0, (back_to u.1).0, u.2) y.goal)

      some_cut_stays : NoGoal S R → {b : Answer} → Answers P (Of P (reached P)) b → Stays S est (no_plan 11) b
      some_cut_stays f (with_plan y) = not_planned f y
      some_cut_stays f (some_cut g c) = eleven_stays (cut_to c)
      some_cut_stays f (none_cut g c) = eleven_twelve (λ d. c (cut_from d))

      none_cut_stays : NoGoal S R → (SomeCut S R → ⊥) → {b : Answer} → Answers P (Of P (reached P)) b → Stays S est (no_plan 12) b
      none_cut_stays f n (with_plan y) = not_planned f y
      none_cut_stays f n (some_cut g c) = let d = cut_to c in absurd (n (d.0, d.1, d.2, d.3, d.4))
      none_cut_stays f n (none_cut g c) = twelve_stays

      answer_stays : {a : Answer} → Answers S R a → Stays S est a (solve P)
      answer_stays (with_plan {c} {p} y) =
          subst (Stays S est (plan c p)) (sym (answer_is P plaws pfin L pruned_solves (with_plan (plan_to y)))) plan_stays
      answer_stays (some_cut f w) = some_cut_stays f (solve_answers P plaws pfin)
      answer_stays (none_cut f w) = none_cut_stays f w (solve_answers P plaws pfin)

      pub plans_stay : PlansStay S est
      plans_stay = answer_stays (solve_answers S laws fin)
