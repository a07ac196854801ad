-- One arrival and one action of the search, case by case, as code comes to them.
use Rattle.std.proofs.Common.{◌≡◌, refl, ap, ◌∙◌, Bool, true, false, None, Some, [], ◌∷◌, ◌++◌, ⊎_elim, ℕ, zero, suc, ◌≤◌, ◌<◌, eq-or-lt_of_le}
use Rattle.std.proofs.Common.{le_of_suc-le-suc, arith, length, set, lt-ltb, le-ltb}
use Rattle.model.specs.exploration.Key.{Key, extend, less, same_key, earlier}
use Rattle.model.specs.exploration.System.{System}
use Rattle.astar.specs.Records.{Held, Table, find}
use Rattle.astar.specs.Search.{goes_on, full, path_by, tied, relaxed, arrive, follow, expand}
use Rattle.astar.proofs.Slots.{Holds, set_held}

module _ (S : System) where
  -- ---- an arrival at a node that is held

  module _ (t : Table S) (r : Held S) (h : S.Hints) (i a : ℕ) where
    abbrev comes_first : Bool
    comes_first = earlier (path_by S t r.key.steps i a) (path_by S t r.key.steps r.parent r.action)

    pub tied_new : comes_first ≡ true
        → tied S t r h i a ≡ record { node = r.node; key = r.key; hints = S.meet r.hints h; parent = i; action = a; taken = false }
    unfolding tied
    tied_new e = rw (e, tied) refl

    pub tied_old : comes_first ≡ false
        → tied S t r h i a ≡ record { node = r.node; key = r.key; hints = S.meet r.hints h; parent = r.parent; action = r.action; taken = false }
    unfolding tied
    tied_old e = rw (e, tied) refl

    module _ (k : Key) where
      kept : (b : Bool) → r.taken ≡ b → r ≡ record { node = r.node; key = r.key; hints = r.hints; parent = r.parent; action = r.action; taken = b }
      kept b e = λ d. record { node = r.node; key = r.key; hints = r.hints; parent = r.parent; action = r.action; taken = e d }

      pub relaxed_taken : r.taken ≡ true → relaxed S t r k h i a ≡ r
      unfolding relaxed
      relaxed_taken e = rw (e, relaxed) (kept true e)

      pub relaxed_less : r.taken ≡ false → less k r.key ≡ true
          → relaxed S t r k h i a ≡ record { node = r.node; key = k; hints = h; parent = i; action = a; taken = false }
      unfolding relaxed
      relaxed_less e f = rw (e, relaxed, f) refl

      pub relaxed_same : r.taken ≡ false → less k r.key ≡ false → same_key k r.key ≡ true → relaxed S t r k h i a ≡ tied S t r h i a
      unfolding relaxed
      relaxed_same e f g = rw (e, relaxed, f, g) refl

      pub relaxed_more : r.taken ≡ false → less k r.key ≡ false → same_key k r.key ≡ false → relaxed S t r k h i a ≡ r
      unfolding relaxed
      relaxed_more e f g = rw (e, relaxed, f, g) (kept false e)

  -- ---- an arrival at any node

  module _ (slots : ℕ) (t : Table S) (n : S.Node) (k : Key) (h : S.Hints) (i a : ℕ) where
    pub arrive_held : {j : ℕ} {r : Held S} → find S n t 0 ≡ Some j → Holds t j r → arrive S slots t n k h i a ≡ goes_on (set t j (relaxed S t r k h i a))
    unfolding arrive
    arrive_held f p = rw (f, arrive, p) refl

    -- Where the node's slot is taken, the table stays as it is.
    pub arrive_taken : {j : ℕ} {r : Held S} → find S n t 0 ≡ Some j → Holds t j r → r.taken ≡ true → arrive S slots t n k h i a ≡ goes_on t
    arrive_taken {j} {r} f p e = arrive_held f p ∙ ap goes_on (ap (set t j) (relaxed_taken t r h i a k e) ∙ set_held t j r p)

    pub arrive_new : find S n t 0 ≡ None → length t < slots
        → arrive S slots t n k h i a ≡ goes_on (t ++ (record { node = n; key = k; hints = h; parent = i; action = a; taken = false } ∷ []))
    unfolding arrive
    arrive_new f l = rw (f, arrive, lt-ltb (length t) slots l) refl

    pub arrive_full : find S n t 0 ≡ None → slots ≤ length t → arrive S slots t n k h i a ≡ full
    unfolding arrive
    arrive_full f l = rw (f, arrive, le-ltb (length t) slots l) refl

  -- ---- one action, and those below the next

  module _ (slots : ℕ) (r : Held S) (i : ℕ) where
    pub follow_none : (t : Table S) (a : ℕ) → S.step r.node a ≡ None → follow S slots t r i a ≡ goes_on t
    unfolding follow
    follow_none t a e = rw (e, follow) refl

    pub follow_some : (t : Table S) (a : ℕ) {n : S.Node} → S.step r.node a ≡ Some n
        → follow S slots t r i a ≡ arrive S slots t n (extend r.key (S.cost a)) (S.carry r.hints n a) i a
    unfolding follow
    follow_some t a e = rw (e, follow) refl

    pub expand_on : (t u : Table S) (c : ℕ) → expand S slots t r i c ≡ goes_on u → expand S slots t r i (suc c) ≡ follow S slots u r i c
    unfolding expand
    expand_on t u c e = rw (e, expand) refl

    -- A table that is full stays full.
    full_on : (t : Table S) (c : ℕ) → expand S slots t r i c ≡ full → expand S slots t r i (suc c) ≡ full
    unfolding expand
    full_on t c e = rw (e, expand) refl

    pub expand_full : (t : Table S) (c d : ℕ) → expand S slots t r i c ≡ full → c ≤ d → expand S slots t r i d ≡ full
    expand_full t c zero e l = let z : c ≡ 0 = omega arith in rw z at e
    expand_full t c (suc d) e l = ⊎_elim (λ z. rw z at e) (λ m. full_on t d (expand_full t c d e (le_of_suc-le-suc m))) (eq-or-lt_of_le l)
