-- Laws of paths: how long they are, how two of them compare, and how one is written.
use Rattle.std.proofs.Common.{◌≢◌, ◌≡◌, refl, sym, ap, ◌∙◌, ◌⊎◌, inl, inr, true, true≢false, List, [], ◌∷◌, ◌++◌, append_assoc, ℕ, zero, suc, ◌<◌, arith}
use Rattle.std.proofs.Common.{length, drop, set, length-append, drop-cons, get_or-set_same, drop-set-lt, lt-length-set, ltb, ltb-true, lt-ltb}
use Rattle.model.specs.exploration.Key.{earlier}
use Rattle.model.proofs.exploration.KeyLaws.{earlier_irrefl, earlier_snoc}
use Rattle.table.specs.declared.Slot.{Slot}
use Rattle.paths.specs.Chain.{parent_at, action_at, steps_at, slot_path, order, order_by, Chained, Level}
use Rattle.model.proofs.Tests.{same_truth}

-- ---- one path

-- A path has as many actions as are asked for.
pub length-path : (ss : List Slot) (n i : ℕ) → length (slot_path ss n i) ≡ n
unfolding slot_path
length-path ss zero i = refl
length-path ss (suc n) i = length-append (slot_path ss n (parent_at ss i)) (action_at ss i ∷ []) ∙ omega (arith, length-path ss n (parent_at ss i))

-- ---- the order of two sequences with one more action each

-- After the same sequence the last actions decide.
last_same : (p : List ℕ) (a b : ℕ) → earlier (p ++ (a ∷ [])) (p ++ (b ∷ [])) ≡ ltb a b
last_same p a b = same_truth _ _ (λ h. to ((earlier_snoc p p a b refl).0 h)) (λ h. (earlier_snoc p p a b refl).1 (inr (refl, ltb-true a b h)))
  where
    to : (earlier p p ≡ true) ⊎ ((p ≡ p) × (a < b)) → ltb a b ≡ true
    to (inl h) = absurd (true≢false (sym h ∙ earlier_irrefl p))
    to (inr h) = lt-ltb a b h.1

-- Different sequences decide before their last actions.
last_other : (p q : List ℕ) (a b : ℕ) → length p ≡ length q → (p ≡ q → ⊥) → earlier (p ++ (a ∷ [])) (q ++ (b ∷ [])) ≡ earlier p q
last_other p q a b e d = same_truth _ _ (λ h. to ((earlier_snoc p q a b e).0 h)) (λ h. (earlier_snoc p q a b e).1 (inl h))
  where
    to : (earlier p q ≡ true) ⊎ ((p ≡ q) × (a < b)) → earlier p q ≡ true
    to (inl h) = h
    to (inr h) = absurd (d h.0)

-- ---- two slots with equally many steps

-- From one slot and on, the actions decide.
pub order_same : (ss : List Slot) (i j a b : ℕ) → i ≡ j → ltb a b ≡ order_by ss i a j b
order_same ss i j a b d = sym (rw d (last_same (slot_path ss (steps_at ss j) j) a b))

-- The order of two slots is that of their parents and on, if these are one step nearer.
order_last : (ss : List Slot) (i j : ℕ) → steps_at ss i ≡ suc (steps_at ss (parent_at ss i))
    → order ss i j ≡ order_by ss (parent_at ss i) (action_at ss i) (parent_at ss j) (action_at ss j)
unfolding slot_path
order_last ss i j e = ap (λ (k : ℕ). earlier (slot_path ss k i) (slot_path ss k j)) e

-- The slots p and q are compared in place of i and j, and have fewer steps.
pub record Instead (ss : List Slot) (i j p q : ℕ) : Type 0 where
  pub level : Level ss p q
  pub same : order ss i j ≡ order ss p q
  pub nearer : steps_at ss p < steps_at ss i

module _ (ss : List Slot) (ch : Chained ss) (i j : ℕ) (v : Level ss i j) where
  -- Being different, not both are the first slot of all: they have parents, which are one step nearer.
  parents : (steps_at ss i ≡ suc (steps_at ss (parent_at ss i))) × (steps_at ss j ≡ suc (steps_at ss (parent_at ss j))) × (parent_at ss i < length ss)
      × (parent_at ss j < length ss)
  unfolding slot_path
  parents = go (steps_at ss i) refl
    where
      go : (k : ℕ) → steps_at ss i ≡ k
          → (steps_at ss i ≡ suc (steps_at ss (parent_at ss i))) × (steps_at ss j ≡ suc (steps_at ss (parent_at ss j))) × (parent_at ss i < length ss)
          × (parent_at ss j < length ss)
      go zero e = absurd (v.differ (ch.distinct i j 0 e (sym v.level ∙ e) refl v.first v.second))
      go (suc m) e =
          let a = ch.inside i m e v.first in
          let b = ch.inside j m (sym v.level ∙ e) v.second in
          (e ∙ ap suc (sym a.1), sym v.level ∙ e ∙ ap suc (sym b.1), a.0, b.0)

  -- From two such slots and on, their own order decides.
  pub order_other : (a b : ℕ) → order ss i j ≡ order_by ss i a j b
  order_other a b =
      let k = steps_at ss i in
      sym
      (last_other (slot_path ss k i) (slot_path ss k j) a b (length-path ss k i ∙ sym (length-path ss k j))
      (λ e. v.differ (ch.distinct i j k refl (sym v.level) e v.first v.second)))

  -- If two slots have one parent, their actions decide.
  pub order_action : (a b p q : ℕ) → a ≡ action_at ss i → b ≡ action_at ss j → p ≡ parent_at ss i → q ≡ parent_at ss j → p ≡ q → ltb a b ≡ order ss i j
  order_action a b p q ea eb ep eq d =
      rw (ea, eb)
      (order_same ss (parent_at ss i) (parent_at ss j) (action_at ss i) (action_at ss j) (sym ep ∙ d ∙ eq) ∙ sym (order_last ss i j parents.0))

-- If two slots have different parents, these decide.
pub order_up : (ss : List Slot) → Chained ss → (i j p q : ℕ) → p ≡ parent_at ss i → q ≡ parent_at ss j → p ≢ q → Level ss i j → Instead ss i j p q
order_up ss ch i j p q ep eq d v =
    let s = parents ss ch i j v in
    let u : Level ss (parent_at ss i) (parent_at ss j) =
    record { first = s.2; second = s.3; differ = λ e. d (ep ∙ e ∙ sym eq); level = omega (arith, s.0, s.1, v.level) } in
    rw (ep, eq)
    (record {
      level = u;
      same = order_last ss i j s.0 ∙ sym (order_other ss ch (parent_at ss i) (parent_at ss j) u (action_at ss i) (action_at ss j));
      nearer = omega (arith, s.0);
    })

-- ---- a path written from its end

-- Storing the last action leaves one action less to write before what stands after it.
-- The index n need only equal m, so that code which computes the index in another way is answered as well.
pub write_on : (ss : List Slot) (plan : List ℕ) (i k m n a p : ℕ) → k ≡ suc m → n ≡ m → a ≡ action_at ss i → p ≡ parent_at ss i → m < length plan
    → slot_path ss k i ++ drop k plan ≡ slot_path ss m p ++ drop m (set plan n a)
unfolding slot_path
write_on ss plan i k m n a p d en ea ep h =
    rw (d, en, ← ea, ← ep, append_assoc, drop-cons (set plan m a) m 0 (lt-length-set plan m a h), get_or-set_same plan m a 0 h)
    (rw (drop-set-lt (suc m) plan m a (omega arith)))

-- When none is left, the plan is written.
pub write_end : (ss : List Slot) (plan : List ℕ) (i k : ℕ) → k ≡ 0 → slot_path ss k i ++ drop k plan ≡ plan
unfolding slot_path
write_end ss plan i k d = rw d
