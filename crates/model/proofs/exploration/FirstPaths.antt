-- The path of every uncut entry that `reached` has is a path through uncut entries, and the first of its node and key.
use Rattle.std.proofs.Common.{Option, None, Some}
use mathlib.Core.Path.{◌≡◌, refl, sym, ap, ◌∙◌, subst}
use Prim.Native.Nat.{ℕ}
use mathlib.Core.Bool.{false}
use mathlib.Core.List.Memᴰ
use mathlib.Core.List.{List, [], ◌∷◌, ◌++◌, Memᴰ}
use mathlib.Core.Logic.{◌⊎◌, inl, inr}
use lib.ListN.{length}
use Rattle.model.specs.exploration.Key.{Key, extend, Lt, First}
use Rattle.model.specs.exploration.System.{System}
use Rattle.model.specs.exploration.Equations.{Starts, Uncut, Path, begin, onward}
use Rattle.model.specs.exploration.Explore.{Entry, Of, is_cut, arrivals, start_entry, reached}
use Rattle.model.proofs.exploration.KeyLaws.{extend_lt, extend_not_zero, key_ind, first_trans, first_snoc}
use Rattle.model.proofs.exploration.Laws.{Laws, Finite}
use Rattle.model.proofs.exploration.Each.{All, all_at, all_mem}
use Rattle.model.proofs.exploration.Arrivals.{arrivals_all, arrivals_at}
use Rattle.model.proofs.exploration.Gather.{At}
use Rattle.model.proofs.exploration.Invariant.{Gathered, Inv}
use Rattle.model.proofs.exploration.Fuel.{reached_none, reached_inv}
use Rattle.model.proofs.exploration.Solves.{distinct_eq}
use Rattle.model.proofs.exploration.Paths.{path_end, path_run, path_steps, path_cast}

module _ (S : System) (laws : Laws S) (m0 : S.Node) (starts : Starts S m0) (M : List (Entry S)) (inv : Inv S (start_entry S m0) M) where
  -- ---- the path of an entry is a path

  abbrev Whole : Entry S → Type 0
  Whole e = Path S (Of S M) e.path e.node e.key

  abbrev WholeAt : Key → Type 0
  WholeAt k = (e : Entry S) → Memᴰ e M → e.key ≡ k → is_cut S e ≡ false → Whole e

  start_whole : is_cut S (start_entry S m0) ≡ false → Whole (start_entry S m0)
  unfolding start_entry
  start_whole c = begin starts (S.start_hints, (start_entry S m0, inv.begun, refl, refl, refl), c)

  -- An arrival's path is a path, if those of the entries of lower keys are.
  arrivals_whole : All (λ x. ((j : Key) → Lt j x.key → WholeAt j) → Uncut S (Of S M) x.node x.key → Whole x) (arrivals S M)
  arrivals_whole = arrivals_all S (λ e. Memᴰ e M) _ (λ e n i m c b s ih u. onward i (ih e.key (extend_lt e.key (S.cost i)) e m refl c) b s u) M (all_mem _ M (λ y m. m))

  whole : (k : Key) → WholeAt k
  whole = key_ind WholeAt (λ k ih e m q c. go k ih e m q c (all_at _ M m inv.founded))
    where
      go : (k : Key) → ((j : Key) → Lt j k → WholeAt j) → (e : Entry S) → Memᴰ e M → e.key ≡ k → is_cut S e ≡ false
          → (e ≡ start_entry S m0) ⊎ Gathered S (arrivals S M) e → Whole e
      go k ih e m q c (inl p) = subst Whole (sym p) (start_whole (ap (is_cut S) (sym p) ∙ c))
      go k ih e m q c (inr g) =
          let f = g.from in
          let x = f.0 in
          let w = all_at _ (arrivals S M) f.1 arrivals_whole in
          path_cast S (sym f.3) f.2.0 f.2.1 (w (λ j lt. ih j (subst (Lt j) (f.2.1 ∙ q) lt)) (e.hints, (e, m, sym f.2.0, sym f.2.1, refl), c))

  -- ---- and the first of its node and key

  first : {q : List ℕ} {n : S.Node} {k : Key} → Path S (Of S M) q n k → (e : Entry S) → Memᴰ e M → e.node ≡ n → e.key ≡ k → First e.path q
  unfolding start_entry
  first (begin {n = n} s u) e m a b =
      let at_start : n ≡ m0 = cc in
      let p : e ≡ start_entry S m0 = distinct_eq S laws M inv.distinct e (start_entry S m0) m inv.begun (a ∙ at_start) in
      inl (ap (λ (z : Entry S). z.path) p)
  first (onward {p = p} {m = o} {n = n} {k = k} i r bound s u) e m a b = go (all_at _ M m inv.founded) (path_end S r) (λ d l x y. first r d l x y)
    where
      go : (e ≡ start_entry S m0) ⊎ Gathered S (arrivals S M) e → Uncut S (Of S M) o k → ((d : Entry S) → Memᴰ d M → d.node ≡ o → d.key ≡ k → First d.path p)
          → First e.path (p ++ (i ∷ []))
      go (inl z) v ih = absurd (extend_not_zero k (S.cost i) (sym b ∙ ap (λ (z : Entry S). z.key) z))
      go (inr g) v ih =
          let d = v.1.0 in
          let step : S.step d.node i ≡ Some n = ap (λ (z : S.Node). S.step z i) v.1.2 ∙ s in
          let f : First e.path (d.path ++ (i ∷ [])) = arrivals_at S (λ x. At S e x → First e.path x.path) M g.first v.1.1 (ap S.cut v.1.4 ∙ v.2) bound step
          (sym a, ap (λ (z : Key). extend z (S.cost i)) v.1.3 ∙ sym b) in
          let l : length d.path ≡ length p = (all_at _ M v.1.1 inv.fit).1 ∙ ap (λ (z : Key). z.steps) v.1.3 ∙ path_steps S r in
          first_trans _ _ _ f (first_snoc d.path p i l (ih d v.1.1 v.1.2 v.1.3))

module _ (S : System) (laws : Laws S) (fin : Finite S) where
  -- The path of an uncut entry is a path to its node with its key.
  pub reached_path : (e : Entry S) → Memᴰ e (reached S) → is_cut S e ≡ false → Path S (Of S (reached S)) e.path e.node e.key
  reached_path e m c = go S.start refl
    where
      go : (o : Option S.Node) → S.start ≡ o → Path S (Of S (reached S)) e.path e.node e.key
      go None s = absurd (Memᴰ.not-nil (subst (Memᴰ e) (reached_none S s) m))
      go (Some m0) s = whole S laws m0 s (reached S) (reached_inv S laws fin s).0 e.key e m refl c

  -- The path of an entry is the first of all paths to its node with its key.
  pub reached_first : (e : Entry S) → Memᴰ e (reached S) → (q : List ℕ) → Path S (Of S (reached S)) q e.node e.key → First e.path q
  reached_first e m q r =
      let s = path_run S r in
      first S laws s.0 s.1 (reached S) (reached_inv S laws fin s.1).0 r e m refl refl
