-- The entries of all nodes reached solve the equations of exploration.
use Rattle.std.proofs.Common.{Option, None, Some}
use mathlib.Core.Path.{◌≡◌, refl, sym, ap, ◌∙◌, subst}
use Prim.Native.Nat.{ℕ, ◌<◌}
use native.Mathlib.Omega.{arith}
use mathlib.Core.Bool.{true, false, true≢false}
use mathlib.Core.List.Memᴰ
use mathlib.Core.List.{List, [], ◌∷◌, Memᴰ}
use mathlib.Core.Logic.{◌⊎◌, inl, inr, ◌↔◌}
use Rattle.model.specs.exploration.Key.{Key, zero_key, extend, Le}
use Rattle.model.specs.exploration.System.{System}
use Rattle.model.specs.exploration.Equations.{unbounded, Within, Starts, Arrives, Explores}
use Rattle.model.specs.exploration.Explore.{Entry, Of, is_cut, arrivals, known, start_entry, reached}
use Rattle.model.proofs.exploration.Laws.{Laws, Finite}
use Rattle.model.proofs.exploration.Stepping.{arrives_by}
use Rattle.model.proofs.exploration.Each.{All, all_map, all_at, all_mem}
use Rattle.model.proofs.exploration.Arrivals.{arrivals_all, arrivals_at, new_apart, known_entry}
use Rattle.model.proofs.exploration.Gather.{At}
use Rattle.model.proofs.exploration.Invariant.{Gathered, Distinct, Complete, Inv}
use Rattle.model.proofs.exploration.Fuel.{reached_none, reached_inv}

module _ (S : System) where
  -- What holds of every arrival in the list holds of every arrival of the set.
  to_set : (M : List (Entry S)) (P : S.Node → Key → S.Hints → Type 0) → All (λ x. P x.node x.key x.hints) (arrivals S M)
      → {n : S.Node} {k : Key} {h : S.Hints} → Arrives S (Of S M) n k h → P n k h
  to_set M P f {n} {k} {h} a =
      let e = a.entry.0 in
      let cut : is_cut S e ≡ false = ap S.cut a.entry.4 ∙ a.uncut in
      let step : S.step e.node a.action ≡ Some n = ap (λ (z : S.Node). S.step z a.action) a.entry.2 ∙ a.leads in
      let p = arrivals_at S (λ x. P x.node x.key x.hints) M f a.entry.1 cut a.in_range step in
      subst (λ (z : Key). P n z h) (ap (λ (z : Key). extend z (S.cost a.action)) a.entry.3 ∙ sym a.key_is)
      (subst (λ (z : S.Hints). P n (extend e.key (S.cost a.action)) z) (ap (λ (z : S.Hints). S.carry z n a.action) a.entry.4 ∙ sym a.hints_are) p)

  -- Every arrival in the list is one of the set.
  all_arrive : (M : List (Entry S)) → All (λ x. Arrives S (Of S M) x.node x.key x.hints) (arrivals S M)
  all_arrive M = arrivals_all S (λ e. Memᴰ e M) _ one M (all_mem _ M (λ y m. m))
    where
      one : (e : Entry S) (n : S.Node) (i : ℕ) → Memᴰ e M → is_cut S e ≡ false → i < S.actions → S.step e.node i ≡ Some n
          → Arrives S (Of S M) n (extend e.key (S.cost i)) (S.carry e.hints n i)
      one e n i m c b s = arrives_by S (Of S M) i (e, m, refl, refl, refl) b c s

  module _ (laws : Laws S) where
    not_new : (L : List (Entry S)) (e x : Entry S) → Memᴰ e L → e.node ≡ x.node → known S x.node L ≡ false → ⊥
    not_new L e x m q f =
        true≢false (sym (laws.same_refl x.node) ∙ ap (S.same x.node) (sym q) ∙ all_at (λ y. S.same x.node y.node ≡ false) L m (new_apart S L x f))

    -- A list of entries at different nodes has one entry for a node.
    pub distinct_eq : (L : List (Entry S)) → Distinct S L → (a b : Entry S) → Memᴰ a L → Memᴰ b L → a.node ≡ b.node → a ≡ b
    distinct_eq [] d a b ma mb e = absurd (Memᴰ.not-nil ma)
    distinct_eq (x ∷ L) d a b ma mb e = go (Memᴰ.cases_cons ma) (Memᴰ.cases_cons mb) (distinct_eq L d.1 a b)
      where
        go : (a ≡ x) ⊎ Memᴰ a L → (b ≡ x) ⊎ Memᴰ b L → (Memᴰ a L → Memᴰ b L → a.node ≡ b.node → a ≡ b) → a ≡ b
        go (inl p) (inl q) ih = p ∙ sym q
        go (inl p) (inr m) ih = absurd (not_new L b x m (sym e ∙ ap (λ (z : Entry S). z.node) p) d.0)
        go (inr m) (inl q) ih = absurd (not_new L a x m (e ∙ ap (λ (z : Entry S). z.node) q) d.0)
        go (inr m) (inr k) ih = ih m k e

    module _ (m0 : S.Node) (starts : Starts S m0) (M : List (Entry S)) (inv : Inv S (start_entry S m0) M) (full : Complete S M) where
      -- An arrival at the node and of the key of an entry, as one at n with k.
      moved : {n : S.Node} {k : Key} {f : S.Hints} (m : S.Node) (j : Key) → m ≡ n → j ≡ k → Arrives S (Of S M) m j f → Arrives S (Of S M) n k f
      moved {n} {k} {f} m j p q a = subst (λ (z : S.Node). Arrives S (Of S M) z k f) p (subst (λ (z : Key). Arrives S (Of S M) m z f) q a)

      start_at : {e : Entry S} {n : S.Node} → e ≡ start_entry S m0 → e.node ≡ n → Starts S n
      unfolding start_entry
      start_at p q = starts ∙ ap Some (sym (ap (λ (z : Entry S). z.node) p) ∙ q)

      solve_start : {n : S.Node} → Starts S n → Of S M n zero_key S.start_hints
      unfolding start_entry
      solve_start {n} s = let e : m0 ≡ n = cc in (start_entry S m0, inv.begun, e, refl, refl)

      solve_complete : {n : S.Node} {k : Key} {h : S.Hints} → Within unbounded k → Arrives S (Of S M) n k h → (j : Key) × (g : S.Hints) × Of S M n j g
      solve_complete {n} w a =
          let e = known_entry S laws n M (to_set M (λ z i f. known S z M ≡ false → ⊥) full a) in
          (e.0.key, e.0.hints, (e.0, e.1, e.2, refl, refl))

      solve_arrived : {n : S.Node} {k : Key} {h : S.Hints} → Of S M n k h → Starts S n ⊎ ((g : S.Hints) × Arrives S (Of S M) n k g)
      solve_arrived {n} {k} {h} l = go (all_at _ M l.1 inv.founded)
        where
          go : (l.0 ≡ start_entry S m0) ⊎ Gathered S (arrivals S M) l.0 → Starts S n ⊎ ((g : S.Hints) × Arrives S (Of S M) n k g)
          go (inl p) = inl (start_at p l.2)
          go (inr f) =
              let x = f.from in
              inr (x.0.hints, moved x.0.node x.0.key (x.2.0 ∙ l.2) (x.2.1 ∙ l.3) (all_at _ (arrivals S M) x.1 (all_arrive M)))

      solve_least : {n : S.Node} {j k : Key} {g h : S.Hints} → Of S M n j g → Arrives S (Of S M) n k h → Le j k
      solve_least {n} {j} {k} l a =
          let q = to_set M (λ z i f. All (λ y. S.same z y.node ≡ true → Le y.key i) M) (all_map _ _ (λ x good. good.0) (arrivals S M) inv.good) a in
          subst (λ (z : Key). Le z k) l.3 (all_at _ M l.1 q (subst (λ (z : S.Node). S.same n z ≡ true) (sym l.2) (laws.same_refl n)))

      solve_conjoined : {n : S.Node} {k : Key} {h : S.Hints} → (Starts S n → ⊥) → Of S M n k h → (s : S.Setting)
          → (S.true_at h s ≡ true) ↔ ((g : S.Hints) → Arrives S (Of S M) n k g → S.true_at g s ≡ true)
      solve_conjoined {n} {k} {h} far l s = go (all_at _ M l.1 inv.founded)
        where
          go : (l.0 ≡ start_entry S m0) ⊎ Gathered S (arrivals S M) l.0 → (S.true_at h s ≡ true) ↔ ((g : S.Hints) → Arrives S (Of S M) n k g → S.true_at g s ≡ true)
          go (inl p) = absurd (far (start_at p l.2))
          go (inr f) = (
            λ t g a.
                let all = (f.conjoined s).0 (ap (λ (z : S.Hints). S.true_at z s) l.4 ∙ t) in
                to_set M (λ z i d. (z ≡ l.0.node) × (i ≡ l.0.key) → S.true_at d s ≡ true) all a (sym l.2, sym l.3),
            λ t.
                let all : All (λ x. At S l.0 x → S.true_at x.hints s ≡ true) (arrivals S M) = all_map _ _ (λ x a q. t x.hints (moved x.node x.key (q.0 ∙ l.2) (q.1 ∙ l.3) a)) (arrivals S M) (all_arrive M) in
                ap (λ (z : S.Hints). S.true_at z s) (sym l.4) ∙ (f.conjoined s).1 all,
          )

      solve_one : {n : S.Node} {j k : Key} {g h : S.Hints} → Of S M n j g → Of S M n k h → (j ≡ k) × (g ≡ h)
      solve_one a b =
          let p = distinct_eq M inv.distinct a.0 b.0 a.1 b.1 (a.2 ∙ sym b.2) in
          (sym a.3 ∙ ap (λ (z : Entry S). z.key) p ∙ b.3, sym a.4 ∙ ap (λ (z : Entry S). z.hints) p ∙ b.4)

      solve_proper : {n : S.Node} {k : Key} {h : S.Hints} → Of S M n k h → S.Proper h
      solve_proper l = subst S.Proper l.4 (all_at _ M l.1 inv.fit).0

      solves : Explores S unbounded (Of S M)
      solves = record {
        start = solve_start;
        complete = solve_complete;
        arrived = solve_arrived;
        least = solve_least;
        conjoined = solve_conjoined;
        one = solve_one;
        proper = solve_proper;
      }

  -- Where no start node is, no entry solves the equations.
  none_solves : S.start ≡ None → Explores S unbounded (Of S [])
  none_solves e = record {
    start = λ s. let z : ◌≡◌ {A = ℕ} 0 1 = cc in absurd (omega arith);
    complete = λ w a. absurd (Memᴰ.not-nil a.entry.1);
    arrived = λ l. absurd (Memᴰ.not-nil l.1);
    least = λ l a. absurd (Memᴰ.not-nil l.1);
    conjoined = λ far l s. absurd (Memᴰ.not-nil l.1);
    one = λ l m. absurd (Memᴰ.not-nil l.1);
    proper = λ l. absurd (Memᴰ.not-nil l.1);
  }

-- The entries of all nodes reached are a solution of the equations, with no bound.
pub reached_solves : (S : System) → Laws S → Finite S → Explores S unbounded (Of S (reached S))
reached_solves S laws fin = go S.start refl
  where
    go : (o : Option S.Node) → S.start ≡ o → Explores S unbounded (Of S (reached S))
    go None e = subst (λ (M : List (Entry S)). Explores S unbounded (Of S M)) (sym (reached_none S e)) (none_solves S e)
    go (Some m) e = let i = reached_inv S laws fin e in solves S laws m e (reached S) i.0 i.1
