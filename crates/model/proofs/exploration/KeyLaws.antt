-- The order of keys and of ranks, induction by keys, and the order of action sequences of equal length.
use mathlib.Core.Path.{◌≡◌, refl, sym, ap, ◌∙◌, subst}
use Prim.Native.Nat.{ℕ, zero, suc, ◌+◌, ◌≤◌, ◌<◌}
use native.Mathlib.Omega.{arith}
use native.Mathlib.Decide.{dec_lt}
use mathlib.Core.Bool.{Bool, true, false, true≢false}
use mathlib.Core.List.{List, [], ◌∷◌, ◌++◌}
use mathlib.Core.Logic.{◌⊎◌, inl, inr, ◌↔◌}
use lib.ListN.{length}
use lib.Dec.{eqb, ltb}
use borrow.Author.Tests.{ltb-true, ltb-false, eqb-true, eqb-false, lt-ltb, le-ltb, eq-eqb}
use Rattle.model.specs.exploration.Key.{Key, zero_key, extend, rank, Le, Lt, less, same_key, earlier, first_of, First}

-- ---- the order of keys

pub le_refl : (k : Key) → Le k k
le_refl k = omega arith

pub le_trans : (i j k : Key) → Le i j → Le j k → Le i k
le_trans i j k p q = (omega arith, λ e. omega (arith, p.1 (omega arith), q.1 (omega arith)))

pub lt_le : (j k : Key) → Lt j k → Le j k
lt_le j k h = (omega arith, λ e. omega (arith, h.1 e))

pub le_lt_trans : (i j k : Key) → Le i j → Lt j k → Lt i k
le_lt_trans i j k p q = (omega arith, λ e. omega (arith, p.1 (omega arith), q.1 (omega arith)))

-- Of two keys not each is below the other.
pub not_below : (j k : Key) → Lt j k → Le k j → ⊥
not_below j k p q = let e : j.cost ≡ k.cost = omega arith in omega (arith, p.1 e, q.1 (sym e))

pub le_antisym : (j k : Key) → Le j k → Le k j → j ≡ k
le_antisym j k p q =
    let a : j.cost ≡ k.cost = omega arith in
    let b : j.steps ≡ k.steps = omega (arith, p.1 a, q.1 (sym a)) in
    λ i. record { cost = a i; steps = b i }

pub lt_or_le : (j k : Key) → Lt j k ⊎ Le k j
lt_or_le j k = go (dec_lt j.cost k.cost) (dec_lt j.steps k.steps) (dec_lt k.cost j.cost)
  where
    go : Dec (j.cost < k.cost) → Dec (j.steps < k.steps) → Dec (k.cost < j.cost) → Lt j k ⊎ Le k j
    go (yes a) b c = inl (omega arith)
    go (no a) b (yes c) = inr (omega arith)
    go (no a) (yes b) (no c) = inl (omega arith)
    go (no a) (no b) (no c) = inr (omega arith)

-- One more action makes a key larger.
pub extend_lt : (k : Key) (c : ℕ) → Lt k (extend k c)
unfolding extend
extend_lt k c = omega arith

-- The same action keeps the order of two keys.
pub extend_mono : (j k : Key) (c : ℕ) → Lt j k → Lt (extend j c) (extend k c)
unfolding extend
extend_mono j k c h = (omega arith, λ e. omega (arith, h.1 (omega arith)))

pub extend_not_zero : (k : Key) (c : ℕ) → extend k c ≡ zero_key → ⊥
unfolding extend zero_key
extend_not_zero k c e = let s : suc k.steps ≡ 0 = ap (λ (x : Key). x.steps) e in omega arith

-- ---- ranks

-- An action makes the rank larger, if the estimate falls by no more than its cost.
pub rank_step : (k : Key) (c e f : ℕ) → e ≤ c + f → Lt (rank k e) (rank (extend k c) f)
unfolding extend
rank_step k c e f h = (omega arith, λ d. omega arith)

-- At one node ranks compare as keys do.
pub rank_le : (j k : Key) (e : ℕ) → Le j k → Le (rank j e) (rank k e)
rank_le j k e h = (omega arith, λ d. omega (arith, h.1 (omega arith)))

pub rank_lt : (j k : Key) (e : ℕ) → Lt j k → Lt (rank j e) (rank k e)
rank_lt j k e h = (omega arith, λ d. omega (arith, h.1 (omega arith)))

pub unrank_lt : (j k : Key) (e : ℕ) → Lt (rank j e) (rank k e) → Lt j k
unrank_lt j k e h = (omega arith, λ d. omega (arith, h.1 (omega arith)))

pub unrank_le : (j k : Key) (e : ℕ) → Le (rank j e) (rank k e) → Le j k
unrank_le j k e h = (omega arith, λ d. omega (arith, h.1 (omega arith)))

-- Where nothing is left, the rank is the key.
pub rank_zero : (k : Key) (e : ℕ) → e ≡ 0 → rank k e ≡ k
rank_zero k e h = let c : k.cost + e ≡ k.cost = omega arith in λ i. record { cost = c i; steps = k.steps }

-- ---- the tests of keys

pub less_yes : (j k : Key) → less j k ≡ true → Lt j k
unfolding less
less_yes j k h = go (ltb j.cost k.cost) (eqb j.cost k.cost) refl refl h
  where
    go : (a b : Bool) → ltb j.cost k.cost ≡ a → eqb j.cost k.cost ≡ b
        → (elim a as (λ x. Bool) [ true ↦ true | false ↦ elim b [ true ↦ ltb j.steps k.steps | false ↦ false ] ]) ≡ true → Lt j k
    go true b p q h' = omega (arith, ltb-true)
    go false true p q h' = omega (arith, eqb-true, ltb-true)
    go false false p q h' = absurd (true≢false (sym h'))

pub less_no : (j k : Key) → less j k ≡ false → Le k j
unfolding less
less_no j k h = go (ltb j.cost k.cost) (eqb j.cost k.cost) refl refl h
  where
    go : (a b : Bool) → ltb j.cost k.cost ≡ a → eqb j.cost k.cost ≡ b
        → (elim a as (λ x. Bool) [ true ↦ true | false ↦ elim b [ true ↦ ltb j.steps k.steps | false ↦ false ] ]) ≡ false → Le k j
    go true b p q h' = absurd (true≢false h')
    go false true p q h' = omega (arith, eqb-true, ltb-false)
    go false false p q h' = (omega (arith, ltb-false), λ e. absurd (eqb-false j.cost k.cost q (sym e)))

pub same_key_lem : (j k : Key) → same_key j k ≡ true → j ≡ k
unfolding same_key
same_key_lem j k h = go (eqb j.cost k.cost) refl h
  where
    go : (a : Bool) → eqb j.cost k.cost ≡ a → same_key j k ≡ true → j ≡ k
    go true e q =
        let a = eqb-true j.cost k.cost e in
        let b = eqb-true j.steps k.steps (rw (e, same_key) at q) in
        λ i. record { cost = a i; steps = b i }
    go false e q = absurd (true≢false (sym (rw (e, same_key) at q)))

pub same_key_refl : (k : Key) → same_key k k ≡ true
unfolding same_key
same_key_refl k = rw (eq-eqb k.cost k.cost refl, same_key) (eq-eqb k.steps k.steps refl)

-- ---- induction by keys

module _ (P : Key → Type 0) (step : (k : Key) → ((j : Key) → Lt j k → P j) → P k) where
  by_steps : (c : ℕ) → ((j : Key) → j.cost < c → P j) → (s : ℕ) (k : Key) → k.cost ≡ c → k.steps < s → P k
  by_steps c below zero k e l = absurd (omega arith)
  by_steps c below (suc s) k e l = step k (λ j lt. go j lt (dec_lt j.cost k.cost) (by_steps c below s j))
    where
      go : (j : Key) → Lt j k → Dec (j.cost < k.cost) → (j.cost ≡ c → j.steps < s → P j) → P j
      go j lt (yes d) ih = below j (omega arith)
      go j lt (no d) ih = let q : j.cost ≡ k.cost = omega arith in ih (omega arith) (omega (arith, lt.1 q))

  by_cost : (c : ℕ) (k : Key) → k.cost < c → P k
  by_cost zero k l = absurd (omega arith)
  by_cost (suc c) k l = go (dec_lt k.cost c) (by_cost c)
    where
      go : Dec (k.cost < c) → ((j : Key) → j.cost < c → P j) → P k
      go (yes d) ih = ih k d
      go (no d) ih = by_steps c ih (suc k.steps) k (omega arith) (omega arith)

  -- What holds of a key if it holds of all below it, holds of every key.
  pub key_ind : (k : Key) → P k
  key_ind k = by_cost (suc k.cost) k (omega arith)

-- ---- the order of action sequences

pub earlier_irrefl : (p : List ℕ) → earlier p p ≡ false
unfolding earlier
earlier_irrefl [] = refl
earlier_irrefl (a ∷ p) = rw (le-ltb a a (omega arith), eq-eqb a a refl, earlier) (earlier_irrefl p)

-- `earlier` of two sequences goes by their first actions, then by the rest.
earlier_cons : (a b : ℕ) (p q : List ℕ) → (earlier (a ∷ p) (b ∷ q) ≡ true) ↔ ((a < b) ⊎ ((a ≡ b) × (earlier p q ≡ true)))
unfolding earlier
earlier_cons a b p q = (to (ltb a b) (eqb a b) refl refl, from)
  where
    to : (x y : Bool) → ltb a b ≡ x → eqb a b ≡ y → earlier (a ∷ p) (b ∷ q) ≡ true → (a < b) ⊎ ((a ≡ b) × (earlier p q ≡ true))
    to true y e f h = inl (ltb-true a b e)
    to false true e f h = inr (eqb-true a b f, rw (e, f, earlier) at h)
    to false false e f h = absurd (true≢false (sym (rw (e, f, earlier) at h)))

    from : (a < b) ⊎ ((a ≡ b) × (earlier p q ≡ true)) → earlier (a ∷ p) (b ∷ q) ≡ true
    from (inl l) = rw (lt-ltb a b l, earlier) refl
    from (inr h) = let e = h.0 in rw (le-ltb a b (omega arith), eq-eqb a b e, earlier) h.1

pub earlier_trans : (p q r : List ℕ) → earlier p q ≡ true → earlier q r ≡ true → earlier p r ≡ true
unfolding earlier
earlier_trans [] q r h k = absurd (true≢false (sym h))
earlier_trans (a ∷ p) [] r h k = absurd (true≢false (sym h))
earlier_trans (a ∷ p) (b ∷ q) [] h k = absurd (true≢false (sym k))
earlier_trans (a ∷ p) (b ∷ q) (c ∷ r) h k = (earlier_cons a c p r).1 (go ((earlier_cons a b p q).0 h) ((earlier_cons b c q r).0 k) (earlier_trans p q r))
  where
    go : (a < b) ⊎ ((a ≡ b) × (earlier p q ≡ true)) → (b < c) ⊎ ((b ≡ c) × (earlier q r ≡ true)) → (earlier p q ≡ true → earlier q r ≡ true → earlier p r ≡ true)
        → (a < c) ⊎ ((a ≡ c) × (earlier p r ≡ true))
    go (inl l) (inl m) ih = inl (omega arith)
    go (inl l) (inr m) ih = inl (omega (arith, m.0))
    go (inr l) (inl m) ih = inl (omega (arith, l.0))
    go (inr l) (inr m) ih = inr (l.0 ∙ m.0, ih l.1 m.1)

-- Of two sequences of equal length one is first.
pub first_total : (p q : List ℕ) → length p ≡ length q → earlier q p ≡ false → First p q
first_total [] [] e n = inl refl
first_total [] (b ∷ q) e n = absurd (omega arith)
first_total (a ∷ p) [] e n = absurd (omega arith)
first_total (a ∷ p) (b ∷ q) e n = go (dec_lt a b) (dec_lt b a) (earlier q p) refl (first_total p q (omega arith))
  where
    go : Dec (a < b) → Dec (b < a) → (t : Bool) → earlier q p ≡ t → (earlier q p ≡ false → First p q) → First (a ∷ p) (b ∷ q)
    go (yes l) d t f ih = inr ((earlier_cons a b p q).1 (inl l))
    go (no l) (yes m) t f ih = absurd (true≢false (sym ((earlier_cons b a q p).1 (inl m)) ∙ n))
    go (no l) (no m) true f ih = absurd (true≢false (sym ((earlier_cons b a q p).1 (inr (omega arith, f))) ∙ n))
    go (no l) (no m) false f ih = same (ih f)
      where
        ab : a ≡ b
        ab = omega arith

        same : First p q → First (a ∷ p) (b ∷ q)
        same (inl g) = inl (cc ab)
        same (inr g) = inr ((earlier_cons a b p q).1 (inr (ab, g)))

pub first_trans : (p q r : List ℕ) → First p q → First q r → First p r
first_trans p q r (inl e) h = subst (λ (z : List ℕ). First z r) (sym e) h
first_trans p q r (inr a) (inl e) = inr (subst (λ (z : List ℕ). earlier p z ≡ true) e a)
first_trans p q r (inr a) (inr b) = inr (earlier_trans p q r a b)

pub first_antisym : (p q : List ℕ) → First p q → First q p → p ≡ q
first_antisym p q (inl e) h = e
first_antisym p q (inr a) (inl e) = sym e
first_antisym p q (inr a) (inr b) = absurd (true≢false (sym (earlier_trans p q p a b) ∙ earlier_irrefl p))

snoc_to : (p q : List ℕ) (a b : ℕ) → length p ≡ length q → earlier (p ++ (a ∷ [])) (q ++ (b ∷ [])) ≡ true → (earlier p q ≡ true) ⊎ ((p ≡ q) × (a < b))
unfolding earlier
snoc_to [] [] a b e h = go ((earlier_cons a b [] []).0 h)
  where
    go : (a < b) ⊎ ((a ≡ b) × (earlier [] [] ≡ true)) → (earlier [] [] ≡ true) ⊎ ((◌≡◌ {A = List ℕ} [] []) × (a < b))
    go (inl l) = inr (refl, l)
    go (inr k) = inl k.1
snoc_to [] (y ∷ q) a b e h = absurd (omega arith)
snoc_to (x ∷ p) [] a b e h = absurd (omega arith)
snoc_to (x ∷ p) (y ∷ q) a b e h = go ((earlier_cons x y (p ++ (a ∷ [])) (q ++ (b ∷ []))).0 h) (snoc_to p q a b (omega arith))
  where
    rest : x ≡ y → (earlier p q ≡ true) ⊎ ((p ≡ q) × (a < b)) → (earlier (x ∷ p) (y ∷ q) ≡ true) ⊎ ((x ∷ p ≡ y ∷ q) × (a < b))
    rest d (inl k) = inl ((earlier_cons x y p q).1 (inr (d, k)))
    rest d (inr k) = let f = k.0 in inr ((cc), k.1)

    go : (x < y) ⊎ ((x ≡ y) × (earlier (p ++ (a ∷ [])) (q ++ (b ∷ [])) ≡ true)) → (earlier (p ++ (a ∷ [])) (q ++ (b ∷ [])) ≡ true → (earlier p q ≡ true) ⊎ ((p ≡ q) × (a < b)))
        → (earlier (x ∷ p) (y ∷ q) ≡ true) ⊎ ((x ∷ p ≡ y ∷ q) × (a < b))
    go (inl l) ih = inl ((earlier_cons x y p q).1 (inl l))
    go (inr k) ih = rest k.0 (ih k.1)

snoc_before : (p q : List ℕ) (a b : ℕ) → earlier p q ≡ true → earlier (p ++ (a ∷ [])) (q ++ (b ∷ [])) ≡ true
unfolding earlier
snoc_before [] q a b h = absurd (true≢false (sym h))
snoc_before (x ∷ p) [] a b h = absurd (true≢false (sym h))
snoc_before (x ∷ p) (y ∷ q) a b h = (earlier_cons x y (p ++ (a ∷ [])) (q ++ (b ∷ []))).1 (go ((earlier_cons x y p q).0 h) (snoc_before p q a b))
  where
    go : (x < y) ⊎ ((x ≡ y) × (earlier p q ≡ true)) → (earlier p q ≡ true → earlier (p ++ (a ∷ [])) (q ++ (b ∷ [])) ≡ true)
        → (x < y) ⊎ ((x ≡ y) × (earlier (p ++ (a ∷ [])) (q ++ (b ∷ [])) ≡ true))
    go (inl l) ih = inl l
    go (inr k) ih = inr (k.0, ih k.1)

snoc_last : (p : List ℕ) (a b : ℕ) → a < b → earlier (p ++ (a ∷ [])) (p ++ (b ∷ [])) ≡ true
snoc_last [] a b l = (earlier_cons a b [] []).1 (inl l)
snoc_last (x ∷ p) a b l = (earlier_cons x x (p ++ (a ∷ [])) (p ++ (b ∷ []))).1 (inr (refl, snoc_last p a b l))

-- With one more action each, the order goes by the sequences, then by the last actions.
pub earlier_snoc : (p q : List ℕ) (a b : ℕ) → length p ≡ length q
    → (earlier (p ++ (a ∷ [])) (q ++ (b ∷ [])) ≡ true) ↔ ((earlier p q ≡ true) ⊎ ((p ≡ q) × (a < b)))
earlier_snoc p q a b e = (snoc_to p q a b e, from)
  where
    from : (earlier p q ≡ true) ⊎ ((p ≡ q) × (a < b)) → earlier (p ++ (a ∷ [])) (q ++ (b ∷ [])) ≡ true
    from (inl h) = snoc_before p q a b h
    from (inr h) = subst (λ (z : List ℕ). earlier (p ++ (a ∷ [])) (z ++ (b ∷ [])) ≡ true) h.0 (snoc_last p a b h.1)

-- The same action keeps the order of two sequences.
pub first_snoc : (p q : List ℕ) (a : ℕ) → length p ≡ length q → First p q → First (p ++ (a ∷ [])) (q ++ (a ∷ []))
first_snoc p q a e (inl h) = inl (ap (λ (z : List ℕ). z ++ (a ∷ [])) h)
first_snoc p q a e (inr h) = inr ((earlier_snoc p q a a e).1 (inl h))

-- What holds of two sequences holds of the first of them.
pub first_of_is : (P : List ℕ → Type 0) (p q : List ℕ) → P p → P q → P (first_of p q)
unfolding first_of
first_of_is P p q a b = go (earlier q p) refl
  where
    go : (c : Bool) → earlier q p ≡ c → P (first_of p q)
    go true e = rw (e, first_of) b
    go false e = rw (e, first_of) a

pub first_of_first : (p q : List ℕ) → length p ≡ length q → First (first_of p q) p × First (first_of p q) q
unfolding first_of
first_of_first p q l = go (earlier q p) refl
  where
    go : (c : Bool) → earlier q p ≡ c → First (first_of p q) p × First (first_of p q) q
    go true e = rw (e, first_of) (inr e, inl refl)
    go false e = rw (e, first_of) (inl refl, first_total p q l e)
