-- What is found in a table: the slot of a node, the first open slot of the least rank, a cut node, and the number of taken slots.
use Rattle.std.proofs.Common.{Option, None, Some}
use mathlib.Core.Path.{◌≡◌, refl, sym, ap, ◌∙◌, subst}
use Prim.Native.Nat.{ℕ, zero, suc, ◌+◌}
use native.Mathlib.Omega.{arith}
use mathlib.Core.Bool.{Bool, true, false, true≢false}
use mathlib.Core.List.{[], ◌∷◌}
use Rattle.model.specs.exploration.Key.{Le, less}
use Rattle.model.specs.exploration.System.{System}
use Rattle.model.proofs.exploration.KeyLaws.{le_refl, le_trans, lt_le, less_yes, less_no}
use Rattle.model.proofs.exploration.Laws.{Laws}
use Rattle.astar.specs.Records.{Held, Open, Table, rank_in, find, least_open}
use Rattle.astar.specs.Search.{has_cut_in}
use Rattle.astar.proofs.Slots.{Holds}

module _ (S : System) where
  -- ---- the slot of a node

  -- what `find` has of a table whose slots are numbered from k on
  abbrev Found : S.Node → Table S → ℕ → Option ℕ → Type 0
  Found n t k None = (d : ℕ) (r : Held S) → Holds t d r → S.same n r.node ≡ false
  Found n t k (Some j) = (d : ℕ) × (r : Held S) × Holds t d r × (j ≡ k + d) × (S.same n r.node ≡ true)

  found : (n : S.Node) (t : Table S) (k : ℕ) → Found n t k (find S n t k)
  unfolding find
  found n [] k = λ d r h. let z : ◌≡◌ {A = ℕ} 0 1 = cc in absurd (omega arith)
  found n (x ∷ t) k = go (S.same n x.node) refl (find S n t (suc k)) refl (found n t (suc k))
    where
      go : (a : Bool) → S.same n x.node ≡ a → (o : Option ℕ) → find S n t (suc k) ≡ o → Found n t (suc k) (find S n t (suc k)) → Found n (x ∷ t) k (find S n (x ∷ t) k)
      go true e o f ih = rw (e, find) (0, x, refl, omega arith, e)
      go false e None f ih = rw (e, find, f) (none_there (rw f at ih))
        where
          none_there : ((d : ℕ) (r : Held S) → Holds t d r → S.same n r.node ≡ false) → (d : ℕ) (r : Held S) → Holds (x ∷ t) d r → S.same n r.node ≡ false
          none_there g zero r h = let q : x ≡ r = cc in subst (λ (y : Held S). S.same n y.node ≡ false) q e
          none_there g (suc d) r h = g d r h
      go false e (Some j) f ih = rw (e, find, f) (let g = rw f at ih in (suc g.0, g.1, g.2, omega (arith, g.3), g.4))

  pub find_none : (n : S.Node) (t : Table S) → find S n t 0 ≡ None → (i : ℕ) (r : Held S) → Holds t i r → S.same n r.node ≡ false
  find_none n t e = rw e at (found n t 0)

  pub find_some : (n : S.Node) (t : Table S) {j : ℕ} → find S n t 0 ≡ Some j → (r : Held S) × Holds t j r × (S.same n r.node ≡ true)
  find_some n t {j} e =
      let f = rw e at (found n t 0) in
      let q : f.0 ≡ j = omega (arith, f.3) in
      (f.1, subst (λ (i : ℕ). Holds t i f.1) q f.2, f.4)

  -- A node that no other slot holds is found in its slot.
  pub find_own : Laws S → (t : Table S) (i : ℕ) (r : Held S) → Holds t i r
      → ((j : ℕ) (q : Held S) → Holds t j q → r.node ≡ q.node → i ≡ j) → find S r.node t 0 ≡ Some i
  find_own laws t i r h alone = go (find S r.node t 0) refl
    where
      go : (o : Option ℕ) → find S r.node t 0 ≡ o → find S r.node t 0 ≡ Some i
      go None e = absurd (true≢false (sym (laws.same_refl r.node) ∙ find_none r.node t e i r h))
      go (Some j) e = let f = find_some r.node t e in e ∙ ap Some (sym (alone j f.0 f.1 (laws.same_eq _ _ f.2)))

  -- ---- the first open slot of the least rank

  -- what `least_open` has of a table whose slots are numbered from k on
  abbrev LeastOf : Table S → ℕ → Option Open → Type 0
  LeastOf t k None = (d : ℕ) (r : Held S) → Holds t d r → r.taken ≡ true
  LeastOf t k (Some o) = ((d : ℕ) × (r : Held S) × Holds t d r × (o.slot ≡ k + d) × (r.taken ≡ false) × (o.rank ≡ rank_in S r))
      × ((d : ℕ) (r : Held S) → Holds t d r → r.taken ≡ false → Le o.rank (rank_in S r))

  -- One more slot in front, taken or open.
  skip_taken : (x : Held S) (t : Table S) (k : ℕ) → x.taken ≡ true → (o : Option Open) → LeastOf t (suc k) o → LeastOf (x ∷ t) k o
  skip_taken x t k e None h = go
    where
      go : (d : ℕ) (r : Held S) → Holds (x ∷ t) d r → r.taken ≡ true
      go zero r p = let q : x ≡ r = cc in subst (λ (y : Held S). y.taken ≡ true) q e
      go (suc d) r p = h d r p
  skip_taken x t k e (Some o) h = ((suc h.0.0, h.0.1, h.0.2, omega (arith, h.0.3), h.0.4, h.0.5), go)
    where
      go : (d : ℕ) (r : Held S) → Holds (x ∷ t) d r → r.taken ≡ false → Le o.rank (rank_in S r)
      go zero r p f = let q : x ≡ r = cc in absurd (true≢false (sym e ∙ ap (λ (y : Held S). y.taken) q ∙ f))
      go (suc d) r p f = h.1 d r p f

  -- the open slot in front is the least
  front : (x : Held S) (t : Table S) (k : ℕ) → x.taken ≡ false → ((d : ℕ) (r : Held S) → Holds t d r → r.taken ≡ false → Le (rank_in S x) (rank_in S r))
      → LeastOf (x ∷ t) k (Some (record { slot = k; rank = rank_in S x }))
  front x t k e h = ((0, x, refl, omega arith, e, refl), go)
    where
      go : (d : ℕ) (r : Held S) → Holds (x ∷ t) d r → r.taken ≡ false → Le (rank_in S x) (rank_in S r)
      go zero r p f = let q : x ≡ r = cc in subst (λ (y : Held S). Le (rank_in S x) (rank_in S y)) q (le_refl (rank_in S x))
      go (suc d) r p f = h d r p f

  behind : (x : Held S) (t : Table S) (k : ℕ) (o : Open) → Le o.rank (rank_in S x) → LeastOf t (suc k) (Some o) → LeastOf (x ∷ t) k (Some o)
  behind x t k o e h = ((suc h.0.0, h.0.1, h.0.2, omega (arith, h.0.3), h.0.4, h.0.5), go)
    where
      go : (d : ℕ) (r : Held S) → Holds (x ∷ t) d r → r.taken ≡ false → Le o.rank (rank_in S r)
      go zero r p f = let q : x ≡ r = cc in subst (λ (y : Held S). Le o.rank (rank_in S y)) q e
      go (suc d) r p f = h.1 d r p f

  least_of : (t : Table S) (k : ℕ) → LeastOf t k (least_open S t k)
  unfolding least_open
  least_of [] k = λ d r h. let z : ◌≡◌ {A = ℕ} 0 1 = cc in absurd (omega arith)
  least_of (x ∷ t) k = go x.taken refl (least_open S t (suc k)) refl (least_of t (suc k))
    where
      none_open : LeastOf t (suc k) None → (d : ℕ) (r : Held S) → Holds t d r → r.taken ≡ false → Le (rank_in S x) (rank_in S r)
      none_open h d r p f = absurd (true≢false (sym (h d r p) ∙ f))

      to : (o : Option Open) → least_open S (x ∷ t) k ≡ o → LeastOf (x ∷ t) k o → LeastOf (x ∷ t) k (least_open S (x ∷ t) k)
      to o e h = subst (LeastOf (x ∷ t) k) (sym e) h

      less_go : (o : Open) (a : Bool) → less o.rank (rank_in S x) ≡ a → x.taken ≡ false → least_open S t (suc k) ≡ Some o → LeastOf t (suc k) (Some o)
          → LeastOf (x ∷ t) k (least_open S (x ∷ t) k)
      less_go o true l e f h = to (Some o) (rw (e, least_open, f, l) refl) (behind x t k o (lt_le _ _ (less_yes _ _ l)) h)
      less_go o false l e f h = to (Some (record { slot = k; rank = rank_in S x })) (rw (e, least_open, f, l) refl)
          (front x t k e (λ d r p g. le_trans _ _ _ (less_no _ _ l) (h.1 d r p g)))

      go : (a : Bool) → x.taken ≡ a → (o : Option Open) → least_open S t (suc k) ≡ o → LeastOf t (suc k) (least_open S t (suc k)) → LeastOf (x ∷ t) k (least_open S (x ∷ t) k)
      go true e o f ih = to (least_open S t (suc k)) (rw (e, least_open) refl) (skip_taken x t k e (least_open S t (suc k)) ih)
      go false e None f ih = to (Some (record { slot = k; rank = rank_in S x })) (rw (e, least_open, f) refl) (front x t k e (none_open (rw f at ih)))
      go false e (Some o) f ih = less_go o (less o.rank (rank_in S x)) refl e f (rw f at ih)

  -- Where no slot is open, all are taken.
  pub least_none : (t : Table S) → least_open S t 0 ≡ None → (i : ℕ) (r : Held S) → Holds t i r → r.taken ≡ true
  least_none t e = rw e at (least_of t 0)

  -- The least open slot is open, and its rank is least.
  pub least_some : (t : Table S) {o : Open} → least_open S t 0 ≡ Some o
      → (r : Held S) × Holds t o.slot r × (r.taken ≡ false) × (o.rank ≡ rank_in S r) ×
      ((i : ℕ) (q : Held S) → Holds t i q → q.taken ≡ false → Le o.rank (rank_in S q))
  least_some t {o} e =
      let f = rw e at (least_of t 0) in
      let q : f.0.0 ≡ o.slot = omega (arith, f.0.3) in
      (f.0.1, subst (λ (i : ℕ). Holds t i f.0.1) q f.0.2, f.0.4, f.0.5, f.1)

  -- ---- cut nodes

  pub some_cut_in : (t : Table S) → has_cut_in S t ≡ true → (i : ℕ) × (r : Held S) × Holds t i r × (S.cut r.hints ≡ true)
  unfolding has_cut_in
  some_cut_in [] h = absurd (true≢false (sym h))
  some_cut_in (x ∷ t) h = go (S.cut x.hints) refl (some_cut_in t)
    where
      go : (a : Bool) → S.cut x.hints ≡ a → (has_cut_in S t ≡ true → (i : ℕ) × (r : Held S) × Holds t i r × (S.cut r.hints ≡ true))
          → (i : ℕ) × (r : Held S) × Holds (x ∷ t) i r × (S.cut r.hints ≡ true)
      go true e ih = (0, x, refl, e)
      go false e ih = let r = ih (rw (e, has_cut_in) at h) in (suc r.0, r.1, r.2, r.3)

  pub none_cut_in : (t : Table S) → has_cut_in S t ≡ false → (i : ℕ) (r : Held S) → Holds t i r → S.cut r.hints ≡ false
  unfolding has_cut_in
  none_cut_in [] h i r p = let z : ◌≡◌ {A = ℕ} 0 1 = cc in absurd (omega arith)
  none_cut_in (x ∷ t) h i r p = go (S.cut x.hints) refl (none_cut_in t) i p
    where
      go : (a : Bool) → S.cut x.hints ≡ a → (has_cut_in S t ≡ false → (i : ℕ) (r : Held S) → Holds t i r → S.cut r.hints ≡ false)
          → (j : ℕ) → Holds (x ∷ t) j r → S.cut r.hints ≡ false
      go true e ih j q = absurd (true≢false (rw (e, has_cut_in) at h))
      go false e ih zero q = let d : x ≡ r = cc in subst (λ (y : Held S). S.cut y.hints ≡ false) d e
      go false e ih (suc j) q = ih (rw (e, has_cut_in) at h) j r q
