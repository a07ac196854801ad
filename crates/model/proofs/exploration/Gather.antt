-- An entry with all arrivals of its node and key: its hint residuals are their conjunction, and its path is the first of theirs.
use mathlib.Core.Path.{◌≡◌, refl, sym, ap, ◌∙◌, subst}
use Prim.Native.Nat.{ℕ}
use mathlib.Core.Bool.{Bool, true, false, true≢false}
use mathlib.Core.List.{List, [], ◌∷◌}
use mathlib.Core.Logic.{inl, ◌↔◌}
use lib.ListN.{length}
use Rattle.model.specs.exploration.Key.{Key, same_key, first_of, First}
use Rattle.model.specs.exploration.System.{System}
use Rattle.model.specs.exploration.Explore.{Entry, alike, merge, gather}
use Rattle.model.proofs.exploration.KeyLaws.{same_key_lem, same_key_refl, first_trans, first_of_is, first_of_first}
use Rattle.model.proofs.exploration.Laws.{Laws}
use Rattle.model.proofs.exploration.Each.{All}
use Rattle.model.proofs.Tests.{and_both}

module _ (S : System) where
  -- x is at the node and of the key of c
  abbrev pub At : Entry S → Entry S → Type 0
  At c x = (x.node ≡ c.node) × (x.key ≡ c.key)

  -- the path of an entry has as many actions as its key says
  abbrev pub Sized : Entry S → Type 0
  Sized e = length e.path ≡ e.key.steps

  -- the hint residuals of an entry are proper besides
  abbrev pub Fit : Entry S → Type 0
  Fit e = S.Proper e.hints × Sized e

  pub gather_same : (c : Entry S) (xs : List (Entry S)) → At c (gather S c xs)
  unfolding gather merge
  gather_same c [] = (refl, refl)
  gather_same c (x ∷ xs) = go (alike S c x) refl (gather_same (merge S c x) xs) (gather_same c xs)
    where
      go : (a : Bool) → alike S c x ≡ a → At (merge S c x) (gather S (merge S c x) xs) → At c (gather S c xs) → At c (gather S c (x ∷ xs))
      go true e s t = rw (e, gather) s
      go false e s t = rw (e, gather) t

  module _ (laws : Laws S) where
    alike_at : (c x : Entry S) → alike S c x ≡ true → At c x
    unfolding alike
    alike_at c x h = go (S.same c.node x.node) refl h
      where
        go : (a : Bool) → S.same c.node x.node ≡ a → alike S c x ≡ true → At c x
        go true e k = (sym (laws.same_eq _ _ e), sym (same_key_lem c.key x.key (rw (e, alike) at k)))
        go false e k = absurd (true≢false (sym (rw (e, alike) at k)))

    at_alike : (c x : Entry S) → At c x → alike S c x ≡ true
    unfolding alike
    at_alike c x h =
        let e : S.same c.node x.node ≡ true = subst (λ (m : S.Node). S.same c.node m ≡ true) (sym h.0) (laws.same_refl c.node) in
        rw (e, alike) (subst (λ (k : Key). same_key c.key k ≡ true) (sym h.1) (same_key_refl c.key))

    merge_fit : (c x : Entry S) → At c x → Fit c → Fit x → Fit (merge S c x)
    unfolding merge
    merge_fit c x q a b = (
      laws.meet_proper _ _ a.0 b.0,
      first_of_is (λ p. length p ≡ c.key.steps) c.path x.path a.1 (b.1 ∙ ap (λ (k : Key). k.steps) q.1),
    )

    pub gather_fit : (c : Entry S) (xs : List (Entry S)) → Fit c → All Fit xs → Fit (gather S c xs)
    unfolding gather
    gather_fit c [] a h = a
    gather_fit c (x ∷ xs) a h = go (alike S c x) refl (λ b. gather_fit (merge S c x) xs b h.1) (gather_fit c xs a h.1)
      where
        go : (b : Bool) → alike S c x ≡ b → (Fit (merge S c x) → Fit (gather S (merge S c x) xs)) → Fit (gather S c xs) → Fit (gather S c (x ∷ xs))
        go true e s t = rw (e, gather) (s (merge_fit c x (alike_at c x e) a h.0))
        go false e s t = rw (e, gather) t

    -- The gathered hint residuals are true at a setting where those of the entry and of each arrival like it are.
    pub gather_true : (s : S.Setting) (c : Entry S) (xs : List (Entry S))
        → (S.true_at (gather S c xs).hints s ≡ true) ↔ ((S.true_at c.hints s ≡ true) × All (λ x. At c x → S.true_at x.hints s ≡ true) xs)
    unfolding gather merge
    gather_true s c [] = (λ t. (t, tt), λ p. p.0)
    gather_true s c (x ∷ xs) = go (alike S c x) refl (gather_true s (merge S c x) xs) (gather_true s c xs)
      where
        go : (a : Bool) → alike S c x ≡ a
            → (S.true_at (gather S (merge S c x) xs).hints s ≡ true) ↔ ((S.true_at (S.meet c.hints x.hints) s ≡ true) × All (λ z. At c z → S.true_at z.hints s ≡ true) xs)
            → (S.true_at (gather S c xs).hints s ≡ true) ↔ ((S.true_at c.hints s ≡ true) × All (λ z. At c z → S.true_at z.hints s ≡ true) xs)
            → (S.true_at (gather S c (x ∷ xs)).hints s ≡ true) ↔ ((S.true_at c.hints s ≡ true) × All (λ z. At c z → S.true_at z.hints s ≡ true) (x ∷ xs))
        go true e r t = rw (e, gather) (
          λ k. let b = (and_both _ _).0 (sym (laws.meet_true c.hints x.hints s) ∙ (r.0 k).0) in (b.0, (λ q. b.1, (r.0 k).1)),
          λ k. r.1 (laws.meet_true c.hints x.hints s ∙ (and_both _ _).1 (k.0, k.1.0 (alike_at c x e)), k.1.1),
        )
        go false e r t = rw (e, gather) (
          λ k. ((t.0 k).0, (λ q. absurd (true≢false (sym (at_alike c x q) ∙ e)), (t.0 k).1)),
          λ k. t.1 (k.0, k.1.1),
        )

    -- The gathered path is that of the entry or of an arrival at the same node with the same key.
    pub gather_path : (P : List ℕ → Type 0) (c : Entry S) (xs : List (Entry S)) → P c.path → All (λ x. At c x → P x.path) xs → P (gather S c xs).path
    unfolding gather merge
    gather_path P c [] a h = a
    gather_path P c (x ∷ xs) a h = go (alike S c x) refl (λ b. gather_path P (merge S c x) xs b h.1) (gather_path P c xs a h.1)
      where
        go : (b : Bool) → alike S c x ≡ b → (P (first_of c.path x.path) → P (gather S (merge S c x) xs).path) → P (gather S c xs).path → P (gather S c (x ∷ xs)).path
        go true e s t = rw (e, gather) (s (first_of_is P c.path x.path a (h.0 (alike_at c x e))))
        go false e s t = rw (e, gather) t

    -- The gathered path is the first of those of the entry and of the arrivals like it.
    pub gather_first : (c : Entry S) (xs : List (Entry S)) → Fit c → All Fit xs
        → First (gather S c xs).path c.path × All (λ x. At c x → First (gather S c xs).path x.path) xs
    unfolding gather merge
    gather_first c [] a h = (inl refl, tt)
    gather_first c (x ∷ xs) a h = go (alike S c x) refl (λ b. gather_first (merge S c x) xs b h.1) (gather_first c xs a h.1)
      where
        go : (b : Bool) → alike S c x ≡ b
            → (Fit (merge S c x) → First (gather S (merge S c x) xs).path (first_of c.path x.path) × All (λ z. At c z → First (gather S (merge S c x) xs).path z.path) xs)
            → First (gather S c xs).path c.path × All (λ z. At c z → First (gather S c xs).path z.path) xs
            → First (gather S c (x ∷ xs)).path c.path × All (λ z. At c z → First (gather S c (x ∷ xs)).path z.path) (x ∷ xs)
        go true e s t =
            let q = alike_at c x e in
            let r = s (merge_fit c x q a h.0) in
            let f = first_of_first c.path x.path (a.1 ∙ ap (λ (k : Key). k.steps) (sym q.1) ∙ sym h.0.1) in
            let p : gather S (merge S c x) xs ≡ gather S c (x ∷ xs) = rw (e, gather) refl in
            subst (λ (k : Entry S). First k.path c.path × All (λ z. At c z → First k.path z.path) (x ∷ xs)) p
            (first_trans _ _ _ r.0 f.0, (λ q'. first_trans _ _ _ r.0 f.1, r.1))
        go false e s t =
            let p : gather S c xs ≡ gather S c (x ∷ xs) = rw (e, gather) refl in
            subst (λ (k : Entry S). First k.path c.path × All (λ z. At c z → First k.path z.path) (x ∷ xs)) p
            (t.0, (λ q. absurd (true≢false (sym (at_alike c x q) ∙ e)), t.1))
