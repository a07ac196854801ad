-- `solve` gives the answer of the equations, and the answer of any solution of them is the one that `solve` gives.
use mathlib.Core.Path.{◌≡◌, refl, sym, ap, ◌∙◌, subst}
use Prim.Native.Nat.{ℕ, ◌≤◌}
use native.Mathlib.Omega.{arith}
use mathlib.Core.Bool.{true}
use mathlib.Core.List.Memᴰ
use mathlib.Core.List.{List, map}
use mathlib.Core.Logic.{◌⊎◌, inl, inr}
use lib.ListN.{length, length-map}
use Rattle.model.specs.exploration.Key.{Key, Le, Lt}
use Rattle.model.specs.exploration.System.{System, rank_of}
use Rattle.model.specs.exploration.Equations.{Bound, unbounded, Within, Answer, plan, Entries, Explores, Uncut, Plan, NoGoal, Answers, with_plan, some_cut}
use Rattle.model.specs.exploration.Equations.{none_cut}
use Rattle.model.specs.exploration.Explore.{Entry, Of, reached, solve}
use Rattle.model.proofs.exploration.KeyLaws.{le_refl, le_trans, lt_le, le_antisym, lt_or_le, rank_zero, first_antisym}
use Rattle.model.proofs.exploration.Laws.{Laws, Finite}
use Rattle.model.proofs.exploration.Each.{All, all_map}
use Rattle.model.proofs.exploration.Counting.{Apart, apart_length}
use Rattle.model.proofs.exploration.Uniqueness.{within_below, unique}
use Rattle.model.proofs.exploration.Solves.{reached_solves}
use Rattle.model.proofs.exploration.Paths.{path_end, path_cast, path_map}
use Rattle.model.proofs.exploration.FirstPaths.{reached_path, reached_first}
use Rattle.model.proofs.exploration.Best.{answer_answers}

module _ (S : System) where
  -- ---- a set of entries has one answer

  plan_unique : {L : Entries S} {c d : ℕ} {p q : List ℕ} → Plan S L c p → Plan S L d q → plan c p ≡ plan d q
  plan_unique {c = c} {d = d} {p = p} {q = q} x y =
      let k : x.key ≡ y.key = le_antisym _ _ (x.least (path_end S y.path) y.goal) (y.least (path_end S x.path) x.goal) in
      let a : c ≡ d = sym x.cost_is ∙ ap (λ (z : Key). z.cost) k ∙ y.cost_is in
      let b : p ≡ q = first_antisym p q (x.first (path_cast S refl refl (sym k) y.path) y.goal) (y.first (path_cast S refl refl k x.path) x.goal) in
      λ i. plan (a i) (b i)

  no_goal_plan : {L : Entries S} {c : ℕ} {p : List ℕ} → NoGoal S L → Plan S L c p → ⊥
  no_goal_plan n x = n x.node x.key (path_end S x.path) x.goal

  -- A set of entries has at most one answer.
  pub answers_unique : {L : Entries S} {a b : Answer} → Answers S L a → Answers S L b → a ≡ b
  answers_unique (with_plan x) (with_plan y) = plan_unique x y
  answers_unique (with_plan x) (some_cut n c) = absurd (no_goal_plan n x)
  answers_unique (with_plan x) (none_cut n c) = absurd (no_goal_plan n x)
  answers_unique (some_cut n c) (with_plan y) = absurd (no_goal_plan n y)
  answers_unique (some_cut n c) (some_cut m d) = refl
  answers_unique (some_cut n c) (none_cut m d) = absurd (d c)
  answers_unique (none_cut n c) (with_plan y) = absurd (no_goal_plan n y)
  answers_unique (none_cut n c) (some_cut m d) = absurd (c d)
  answers_unique (none_cut n c) (none_cut m d) = refl

  -- ---- sets that agree up to a rank have the same plans up to it

  module _ (laws : Laws S) (B : Bound) (L M : Entries S) (to : (n : S.Node) (k : Key) (h : S.Hints) → Within B (rank_of S n k) → L n k h → M n k h)
      (back : (n : S.Node) (k : Key) (h : S.Hints) → Within B (rank_of S n k) → M n k h → L n k h) {c : ℕ}
      {p : List ℕ} (x : Plan S L c p) (w : Within B x.key) where
    -- At a goal the rank is the key.
    goal_le : (n : S.Node) → S.goal n ≡ true → Le (rank_of S n x.key) x.key
    goal_le n g = subst (λ (z : Key). Le z x.key) (sym (rank_zero x.key (S.estimate n) (laws.at_goal n g))) (le_refl x.key)

    same_least : {n : S.Node} {k : Key} → Uncut S M n k → S.goal n ≡ true → Le x.key k
    same_least {n} {k} u g = go (lt_or_le k x.key)
      where
        go : Lt k x.key ⊎ Le x.key k → Le x.key k
        go (inl l) = x.least (
          u.0,
          back n k u.0
              (within_below B _ _ (subst (λ (z : Key). Le z x.key) (sym (rank_zero k (S.estimate n) (laws.at_goal n g))) (lt_le _ _ l)) w) u.1,
          u.2,
        ) g
        go (inr l) = l

    same_plan : Plan S M c p
    same_plan = record {
      node = x.node;
      key = x.key;
      cost_is = x.cost_is;
      path = path_map S laws L M (λ j n le h. to n j h (within_below B _ _ (le_trans _ _ _ le (goal_le x.node x.goal)) w)) x.path;
      goal = x.goal;
      least = same_least;
      first = λ {q} {n} r g. x.first (path_map S laws M L (λ j m le h. back m j h (within_below B _ _ (le_trans _ _ _ le (goal_le n g)) w)) r) g;
    }

  -- A solution is one up to any rank.
  pub weaken : (B : Bound) {L : Entries S} → Explores S unbounded L → Explores S B L
  weaken B x = record {
    start = x.start;
    complete = λ w a. x.complete tt a;
    arrived = x.arrived;
    least = x.least;
    conjoined = x.conjoined;
    one = x.one;
    proper = x.proper;
  }

  module _ (laws : Laws S) (fin : Finite S) where
    -- `solve` gives the answer of the entries reached.
    pub solve_answers : Answers S (Of S (reached S)) (solve S)
    unfolding solve
    solve_answers = answer_answers S (reached S) (reached_path S laws fin) (reached_first S laws fin)

    -- A plan that is found in a solution up to a rank is the answer.
    pub plan_is : (B : Bound) (L : Entries S) → Explores S B L → {c : ℕ} {p : List ℕ} (x : Plan S L c p) → Within B x.key → solve S ≡ plan c p
    plan_is B L e x w =
        let r = weaken B (reached_solves S laws fin) in
        answers_unique solve_answers (with_plan (same_plan laws B L (Of S (reached S)) (unique S laws B L _ e r) (unique S laws B _ L r e) x w))

    module _ (L : Entries S) (e : Explores S unbounded L) where
      to : (n : S.Node) (k : Key) (h : S.Hints) → L n k h → Of S (reached S) n k h
      to n k h = unique S laws unbounded L (Of S (reached S)) e (reached_solves S laws fin) n k h tt

      back : (n : S.Node) (k : Key) (h : S.Hints) → Of S (reached S) n k h → L n k h
      back n k h = unique S laws unbounded (Of S (reached S)) L (reached_solves S laws fin) e n k h tt

      no_goal_lem : NoGoal S L → NoGoal S (Of S (reached S))
      no_goal_lem f n k u g = f n k (u.0, back n k u.0 u.1, u.2) g

    -- The answer of a solution is the one that `solve` gives.
    pub answer_is : (L : Entries S) → Explores S unbounded L → {a : Answer} → Answers S L a → solve S ≡ a
    answer_is L e (with_plan x) = plan_is unbounded L e x tt
    answer_is L e (some_cut n c) = answers_unique solve_answers (some_cut (no_goal_lem L e n) (c.0, c.1, c.2, to L e _ _ _ c.3, c.4))
    answer_is L e (none_cut n c) = answers_unique solve_answers (none_cut (no_goal_lem L e n) (λ d. c (d.0, d.1, d.2, back L e _ _ _ d.3, d.4)))

-- Nodes reached that are different are no more than the entries.
pub reached_at_least : (S : System) → Laws S → (ns : List S.Node) → Apart S.same ns → All (λ n. (k : Key) × (h : S.Hints) × Of S (reached S) n k h) ns → length ns ≤ length (reached S)
reached_at_least S laws ns d h =
    let l = apart_length S.same laws.same_eq laws.same_refl (map (λ (e : Entry S). e.node) (reached S)) ns
    (all_map _ _ (λ n r. Memᴰ.cast (sym r.2.2) (Memᴰ.map (λ (e : Entry S). e.node) r.2.1)) ns h) d in
    omega (arith, length-map (reached S) (λ (e : Entry S). e.node))
