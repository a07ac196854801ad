-- The lists from which an exploration takes its next entry: all arrivals, those at new nodes, and the first of least key.
use Rattle.std.proofs.Common.{Option, None, Some}
use mathlib.Core.Path.{◌≡◌, refl, sym, ap, ◌∙◌, subst}
use Prim.Native.Nat.{ℕ, zero, suc, ◌+◌, ◌≤◌, ◌<◌}
use native.Mathlib.Omega.{arith}
use native.Mathlib.Decide.{dec_lt}
use mathlib.Core.Bool.{Bool, true, false, true≢false}
use mathlib.Core.List.Memᴰ
use mathlib.Core.List.Memᴰ.{head as here, tail as there}
use mathlib.Core.List.{List, [], ◌∷◌, ◌++◌, Memᴰ}
use mathlib.Core.Logic.{◌⊎◌, inl, inr}
use Rattle.model.specs.exploration.Key.{extend, Le, less}
use Rattle.model.specs.exploration.System.{System}
use Rattle.model.specs.exploration.Explore.{Entry, is_cut, arrival, moves, arrivals, known, fresh, least}
use Rattle.model.proofs.exploration.KeyLaws.{le_refl, le_trans, lt_le, less_yes, less_no}
use Rattle.model.proofs.exploration.Laws.{Laws}
use Rattle.model.proofs.exploration.Each.{All, all_append, all_left, all_right}

module _ (S : System) where
  -- what an entry becomes by action i, which leads to node n
  abbrev pub To : Entry S → S.Node → ℕ → Entry S
  To e n i = record { node = n; key = extend e.key (S.cost i); hints = S.carry e.hints n i; path = e.path ++ (i ∷ []) }

  -- ---- all arrivals

  -- What holds of an entry after each action that leads somewhere holds of all its moves.
  pub moves_all : (Q : Entry S → Type 0) (e : Entry S) → ((n : S.Node) (i : ℕ) → i < S.actions → S.step e.node i ≡ Some n → Q (To e n i))
      → (k j : ℕ) → j + k ≤ S.actions → All Q (moves S e k j)
  unfolding moves arrival
  moves_all Q e f zero j b = tt
  moves_all Q e f (suc k) j b = all_append _ (arrival S e j) _ (go (S.step e.node j) refl) (moves_all Q e f k (suc j) (omega arith))
    where
      go : (o : Option S.Node) → S.step e.node j ≡ o → All Q (arrival S e j)
      go None p = rw (p, arrival) tt
      go (Some n) p = rw (p, arrival) (f n j (omega arith) p, tt)

  -- The same for all arrivals from the uncut entries of a list.
  pub arrivals_all : (P Q : Entry S → Type 0)
      → ((e : Entry S) (n : S.Node) (i : ℕ) → P e → is_cut S e ≡ false → i < S.actions → S.step e.node i ≡ Some n → Q (To e n i))
      → (L : List (Entry S)) → All P L → All Q (arrivals S L)
  unfolding arrivals
  arrivals_all P Q f [] h = tt
  arrivals_all P Q f (e ∷ L) h = go (is_cut S e) refl (arrivals_all P Q f L h.1)
    where
      go : (a : Bool) → is_cut S e ≡ a → All Q (arrivals S L) → All Q (arrivals S (e ∷ L))
      go true c ih = rw (c, arrivals) ih
      go false c ih = rw (c, arrivals) (all_append _ (moves S e S.actions 0) (arrivals S L) (moves_all Q e (λ n i. f e n i h.0 c) S.actions 0 (omega arith)) ih)

  moves_at : (P : Entry S → Type 0) (e : Entry S) (n : S.Node) (k j i : ℕ) → j ≤ i → i < j + k → S.step e.node i ≡ Some n → All P (moves S e k j) → P (To e n i)
  unfolding moves arrival
  moves_at P e n zero j i lo hi s h = absurd (omega arith)
  moves_at P e n (suc k) j i lo hi s h = go (dec_lt j i) (λ l. moves_at P e n k (suc j) i l (omega arith) s (all_right P (arrival S e j) _ h))
    where
      go : Dec (j < i) → (j < i → P (To e n i)) → P (To e n i)
      go (yes l) ih = ih l
      go (no g) ih =
          let q : j ≡ i = omega arith in
          let a : All P (arrival S e i) = subst (λ (z : ℕ). All P (arrival S e z)) q (all_left P (arrival S e j) _ h) in
          (rw (s, arrival) at a).0

  -- What holds of all arrivals holds of an uncut entry after an action that leads somewhere.
  pub arrivals_at : (P : Entry S → Type 0) (L : List (Entry S)) → All P (arrivals S L)
      → {e : Entry S} {n : S.Node} {i : ℕ} → Memᴰ e L → is_cut S e ≡ false → i < S.actions → S.step e.node i ≡ Some n → P (To e n i)
  unfolding arrivals
  arrivals_at P [] h m c b s = absurd (Memᴰ.not-nil m)
  arrivals_at P (x ∷ L) h {e} {n} {i} m c b s = go (is_cut S x) refl (Memᴰ.cases_cons m) (λ h' m'. arrivals_at P L h' {e = e} {n = n} {i = i} m' c b s)
    where
      go : (a : Bool) → is_cut S x ≡ a → (e ≡ x) ⊎ Memᴰ e L → (All P (arrivals S L) → Memᴰ e L → P (To e n i)) → P (To e n i)
      go true d (inl p) ih = absurd (true≢false (sym d ∙ ap (is_cut S) (sym p) ∙ c))
      go true d (inr m') ih = ih (rw (d, arrivals) at h) m'
      go false d (inl p) ih =
          let all = subst (λ (z : Entry S). All P (moves S z S.actions 0)) (sym p) (all_left P (moves S x S.actions 0) (arrivals S L) (rw (d, arrivals) at h)) in
          moves_at P e n S.actions 0 i (omega arith) (omega arith) s all
      go false d (inr m') ih = ih (all_right P (moves S x S.actions 0) (arrivals S L) (rw (d, arrivals) at h)) m'

  -- ---- arrivals at new nodes

  -- at no node of the list
  abbrev pub New : List (Entry S) → Entry S → Type 0
  New L x = known S x.node L ≡ false

  pub new_tail : (c : Entry S) (L : List (Entry S)) (x : Entry S) → New (c ∷ L) x → New L x
  unfolding known
  new_tail c L x n = go (S.same x.node c.node) refl n
    where
      go : (a : Bool) → S.same x.node c.node ≡ a → New (c ∷ L) x → New L x
      go true e k = absurd (true≢false (rw (e, known) at k))
      go false e k = rw (e, known) at k

  pub new_apart : (L : List (Entry S)) (x : Entry S) → New L x → All (λ y. S.same x.node y.node ≡ false) L
  unfolding known
  new_apart [] x n = tt
  new_apart (y ∷ L) x n = go (S.same x.node y.node) refl (new_apart L x)
    where
      go : (a : Bool) → S.same x.node y.node ≡ a → (New L x → All (λ z. S.same x.node z.node ≡ false) L) → All (λ z. S.same x.node z.node ≡ false) (y ∷ L)
      go true e ih = absurd (true≢false (rw (e, known) at n))
      go false e ih = (e, ih (rw (e, known) at n))

  pub known_entry : Laws S → (n : S.Node) (L : List (Entry S)) → (known S n L ≡ false → ⊥) → (e : Entry S) × Memᴰ e L × (e.node ≡ n)
  unfolding known
  known_entry laws n [] h = absurd (h refl)
  known_entry laws n (y ∷ L) h = go (S.same n y.node) refl (known_entry laws n L)
    where
      go : (a : Bool) → S.same n y.node ≡ a → ((known S n L ≡ false → ⊥) → (e : Entry S) × Memᴰ e L × (e.node ≡ n)) → (e : Entry S) × Memᴰ e (y ∷ L) × (e.node ≡ n)
      go true e ih = (y, here refl, sym (laws.same_eq _ _ e))
      go false e ih = let r = ih (λ q. h (rw (e, known) q)) in (r.0, there r.1, r.2)

  -- What holds of all that `fresh` leaves holds of each that is at a new node, and the reverse.
  pub fresh_from : (P : Entry S → Type 0) (L xs : List (Entry S)) → All P (fresh S L xs) → All (λ x. New L x → P x) xs
  unfolding fresh
  fresh_from P L [] h = tt
  fresh_from P L (x ∷ xs) h = go (known S x.node L) refl (fresh_from P L xs) h
    where
      go : (a : Bool) → known S x.node L ≡ a → (All P (fresh S L xs) → All (λ x. New L x → P x) xs) → All P (fresh S L (x ∷ xs)) → All (λ x. New L x → P x) (x ∷ xs)
      go true e ih k = (λ n. absurd (true≢false (sym e ∙ n)), ih (rw (e, fresh) at k))
      go false e ih k = let m : All P (x ∷ fresh S L xs) = rw (e, fresh) at k in (λ n. m.0, ih m.1)

  pub fresh_to : (P : Entry S → Type 0) (L xs : List (Entry S)) → All (λ x. New L x → P x) xs → All P (fresh S L xs)
  unfolding fresh
  fresh_to P L [] h = tt
  fresh_to P L (x ∷ xs) h = go (known S x.node L) refl (fresh_to P L xs h.1)
    where
      go : (a : Bool) → known S x.node L ≡ a → All P (fresh S L xs) → All P (fresh S L (x ∷ xs))
      go true e ih = rw (e, fresh) ih
      go false e ih = rw (e, fresh) (h.0 e, ih)

  -- ---- the first of least key

  pub least_mem : (x : Entry S) (xs : List (Entry S)) → Memᴰ (least S x xs) (x ∷ xs)
  unfolding least
  least_mem x [] = here refl
  least_mem x (y ∷ ys) = go (less y.key x.key) refl (Memᴰ.cases_cons (least_mem x ys)) (least_mem y ys)
    where
      go : (a : Bool) → less y.key x.key ≡ a → (least S x ys ≡ x) ⊎ Memᴰ (least S x ys) ys → Memᴰ (least S y ys) (y ∷ ys) → Memᴰ (least S x (y ∷ ys)) (x ∷ y ∷ ys)
      go true e s t = rw (e, least) (there t)
      go false e (inl p) t = rw (e, least) (here p)
      go false e (inr m) t = rw (e, least) (there (there m))

  pub least_le : (x : Entry S) (xs : List (Entry S)) → All (λ z. Le (least S x xs).key z.key) (x ∷ xs)
  unfolding least
  least_le x [] = (le_refl _, tt)
  least_le x (y ∷ ys) = go (less y.key x.key) refl (least_le x ys) (least_le y ys)
    where
      go : (a : Bool) → less y.key x.key ≡ a → All (λ z. Le (least S x ys).key z.key) (x ∷ ys) → All (λ z. Le (least S y ys).key z.key) (y ∷ ys)
          → All (λ z. Le (least S x (y ∷ ys)).key z.key) (x ∷ y ∷ ys)
      go true e s t =
          let p : least S y ys ≡ least S x (y ∷ ys) = rw (e, least) refl in
          subst (λ (k : Entry S). All (λ z. Le k.key z.key) (x ∷ y ∷ ys)) p (le_trans _ _ _ t.0 (lt_le _ _ (less_yes _ _ e)), t)
      go false e s t =
          let p : least S x ys ≡ least S x (y ∷ ys) = rw (e, least) refl in
          subst (λ (k : Entry S). All (λ z. Le k.key z.key) (x ∷ y ∷ ys)) p (s.0, (le_trans _ _ _ s.0 (less_no _ _ e), s.1))
