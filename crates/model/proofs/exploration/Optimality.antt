-- If every plan of least cost meets the hints, the answer is the best of all runs to a goal, whatever the hints cut.
use mathlib.Core.Path.{◌≡◌, refl, sym, ap, ◌∙◌, subst}
use Prim.Native.Nat.{ℕ, ◌≤◌}
use mathlib.Core.Bool.{Bool, true, false, true≢false}
use mathlib.Core.List.{List, [], ◌∷◌, ◌++◌, append-nil, append_assoc}
use mathlib.Core.Logic.{◌⊎◌, inl, inr}
use Rattle.model.specs.exploration.Key.{Key, zero_key, Le, Lt, First}
use Rattle.model.specs.exploration.System.{System}
use Rattle.model.specs.exploration.Equations.{unbounded, Entries, Starts, Arrives, Explores, Uncut, Path, begin, onward, Plan, NoGoal}
use Rattle.model.proofs.exploration.Stepping.{arrives_by}
use Rattle.model.proofs.exploration.KeyLaws.{lt_le, le_lt_trans, not_below, le_antisym, lt_or_le, key_ind}
use Rattle.model.proofs.exploration.Laws.{Laws, HintLaws}
use Rattle.model.proofs.exploration.Uniqueness.{arrives_lt, start_only, away}
use Rattle.model.proofs.exploration.Runs.{Run, stop, on, run_append, run_lower, sound}
use Rattle.model.proofs.exploration.Paths.{path_end, path_run, path_cast}

module _ (S : System) where
  -- a run from the start node to a goal, with its key
  abbrev pub GoalRun : List ℕ → Key → Type 0
  GoalRun p k = (m : S.Node) × (t : S.Node) × Starts S m × Run S m zero_key p t k × (S.goal t ≡ true)

  -- Every run to a goal of the least cost meets the hints.
  abbrev pub Kept : HintLaws S → Type 0
  Kept hl = (p : List ℕ) (k : Key) → GoalRun p k → ((q : List ℕ) (j : Key) → GoalRun q j → k.cost ≤ j.cost)
      → (m : S.Node) → Starts S m → hl.meets m S.start_hints p ≡ true

  -- A plan is a run to a goal at its cost.
  pub plan_runs : {L : Entries S} {c : ℕ} {p : List ℕ} → Plan S L c p → (k : Key) × GoalRun p k × (k.cost ≡ c)
  plan_runs x = let r = path_run S x.path in (x.key, (r.0, x.node, r.1, r.2, x.goal), x.cost_is)

  module _ (laws : Laws S) (hl : HintLaws S) {L : Entries S} (x : Explores S unbounded L) where
    -- ---- runs of the least key

    module _ (e : Key) (least : (q : List ℕ) (j : Key) → GoalRun q j → Le e j)
        (kept : (p : List ℕ) → GoalRun p e → (m : S.Node) → Starts S m → hl.meets m S.start_hints p ≡ true) where
      abbrev KeptAt : Key → Type 0
      KeptAt k = (n : S.Node) (h : S.Hints) → L n k h → (as' : List ℕ) (t : S.Node) → Run S n k as' t e → S.goal t ≡ true → hl.meets n h as' ≡ true

      module _ (k : Key) (ih : (j : Key) → Lt j k → KeptAt j) (n : S.Node) (as' : List ℕ) (t : S.Node) (r : Run S n k as' t e) (g : S.goal t ≡ true) where
        -- What an arrival brings to a node on such a run is met by the rest of the run.
        arrival_kept : (f : S.Hints) (b : Arrives S L n k f) (s : S.Setting) → hl.made n as' s → S.true_at f s ≡ true
        arrival_kept f b s made =
            let p = x.proper b.entry in
            let met : hl.meets n f as' ≡ true =
            ap (λ (z : S.Hints). hl.meets n z as') b.hints_are ∙ hl.carried b.source b.hints b.action as' p b.leads
            ∙ ih b.key (arrives_lt S b) b.source b.hints b.entry (b.action ∷ as') t (on b.action b.in_range b.leads (subst (λ (z : Key). Run S n z as' t e) b.key_is r)) g in
            (hl.meets_made n f as' (subst S.Proper (sym b.hints_are) (laws.carry_proper b.hints n b.action p))).0 met s made

        entry_kept : (h : S.Hints) → L n k h → Starts S n ⊎ ((f : S.Hints) × Arrives S L n k f) → hl.meets n h as' ≡ true
        entry_kept h l (inl s) =
            let p = start_only S x s l in
            subst (λ (z : S.Hints). hl.meets n z as' ≡ true) p.1 (kept as' (n, t, s, subst (λ (z : Key). Run S n z as' t e) (sym p.0) r, g) n s)
        entry_kept h l (inr a) = (hl.meets_made n h as' (x.proper l)).1 (λ s made. (x.conjoined (away S x l a.1) l s).1 (λ f b. arrival_kept f b s made))

      -- The rest of a run of the least key meets the hint residuals of each entry on it.
      hints_kept : (k : Key) → KeptAt k
      hints_kept = key_ind KeptAt (λ k ih n h l as' t r g. entry_kept k ih n as' t r g h l (x.arrived l))

      -- No entry on a run of the least key is cut.
      uncut_on : {n : S.Node} {k : Key} {h : S.Hints} {as' : List ℕ} {t : S.Node} → L n k h → Run S n k as' t e → S.goal t ≡ true → S.cut h ≡ false
      uncut_on {n} {k} {h} {as'} {t} l r g = go (S.cut h) refl
        where
          go : (b : Bool) → S.cut h ≡ b → S.cut h ≡ false
          go true c = absurd (true≢false (sym (hints_kept k n h l as' t r g) ∙ hl.dead n h as' (x.proper l) c))
          go false c = c

      -- The key of an entry on such a run is the run's.
      on_least : {n t : S.Node} {k : Key} {h : S.Hints} {as' : List ℕ} → Arrives S L n k h → Run S n k as' t e → S.goal t ≡ true → (g : S.Hints) × L n k g
      on_least {n} {t} {k} {h} {as'} a r g = (c.1, subst (λ (z : Key). L n z c.1) (go (lt_or_le c.0 k)) c.2)
        where
          c : (j : Key) × (f : S.Hints) × L n j f
          c = x.complete tt a

          go : Lt c.0 k ⊎ Le k c.0 → c.0 ≡ k
          go (inl lt) =
              let b = sound S x c.0 n c.1 c.2 in
              let q = run_lower S r c.0 lt in
              absurd (not_below q.0 e q.2 (least (b.1 ++ as') q.0 (b.0, t, b.2, run_append S b.3 q.1, g)))
          go (inr le) = le_antisym c.0 k (x.least c.2 a) le

      -- A run of the least key goes on through uncut entries.
      follows : {n t : S.Node} {k : Key} {as' : List ℕ} → Run S n k as' t e → S.goal t ≡ true → (p : List ℕ) → Path S L p n k → Path S L (p ++ as') t e
      follows stop g p q = path_cast S (sym (append-nil p)) refl refl q
      follows (on {m = m} {n = n} {t = t} {k = k} {as' = as'} i d s r) g p q =
          let u = path_end S q in
          let a = arrives_by S L i u.1 d u.2 s in
          let l = on_least a r g in
          path_cast S (append_assoc p (i ∷ []) as') refl refl (follows r g (p ++ (i ∷ [])) (onward i q d s (l.0, l.1, uncut_on l.1 r g)))

      -- A run to a goal of the least key is a path through uncut entries.
      run_path : (p : List ℕ) → GoalRun p e → (t : S.Node) × Path S L p t e × (S.goal t ≡ true)
      run_path p r = (r.1, follows r.3 r.4 [] (begin r.2 (S.start_hints, x.start r.2, uncut_on (x.start r.2) r.3 r.4)), r.4)

    -- ---- the answer

    module _ (kept : Kept hl) where
      kept_at : (k : Key) → ((q : List ℕ) (j : Key) → GoalRun q j → Le k j) → (p : List ℕ) → GoalRun p k → (m : S.Node) → Starts S m → hl.meets m S.start_hints p ≡ true
      kept_at k least p g = kept p k g (λ q j r. (least q j r).0)

      -- Where no uncut entry below a key is at a goal, no run to a goal is below it.
      none_below : (Below : Key → Type 0) → ((j k : Key) → Lt j k → Below k → Below j) → ((n : S.Node) (k : Key) → Uncut S L n k → S.goal n ≡ true → Below k → ⊥)
          → (k : Key) → Below k → (p : List ℕ) → GoalRun p k → ⊥
      none_below Below down free = key_ind (λ k. Below k → (p : List ℕ) → GoalRun p k → ⊥) go
        where
          go : (k : Key) → ((j : Key) → Lt j k → Below j → (p : List ℕ) → GoalRun p j → ⊥) → Below k → (p : List ℕ) → GoalRun p k → ⊥
          go k ih b p r =
              let q = run_path k least (kept_at k least) p r in
              free q.0 k (path_end S q.1) q.2 b
            where
              least : (q : List ℕ) (j : Key) → GoalRun q j → Le k j
              least q j s = elim (lt_or_le j k) [ inl lt ↦ absurd (ih j lt (down j k lt b) q s) | inr le ↦ le ]

      -- The plan has the least key of all runs to a goal, and is the first of that key.
      pub best_plan : {c : ℕ} {p : List ℕ} (y : Plan S L c p) (q : List ℕ) (j : Key) → GoalRun q j → Le y.key j × (y.key ≡ j → First p q)
      best_plan {c} {p} y q j r = (lower q j r, first)
        where
          lower : (q : List ℕ) (j : Key) → GoalRun q j → Le y.key j
          lower q j r = elim (lt_or_le j y.key) [
            | inl lt ↦ absurd (none_below (λ k. Lt k y.key) (λ i k l m. le_lt_trans i k y.key (lt_le i k l) m) (λ n k u g l. not_below k y.key l (y.least u g)) j lt q r)
            | inr le ↦ le
          ]

          first : y.key ≡ j → First p q
          first e =
              let s = run_path y.key lower (kept_at y.key lower) q (subst (GoalRun q) (sym e) r) in
              y.first s.1 s.2

      -- Where no uncut entry is at a goal, no run leads to one.
      pub no_goal_run : NoGoal S L → (q : List ℕ) (j : Key) → GoalRun q j → ⊥
      no_goal_run n q j r = none_below (λ k. Unit {0}) (λ i k l m. tt) (λ m k u g b. n m k u g) j tt q r
