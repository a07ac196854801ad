-- The records of a table up to a rank solve the equations of exploration up to it.
use Rattle.std.proofs.Common.{Some}
use mathlib.Core.Path.{◌≡◌, refl, sym, ap, ◌∙◌, subst}
use Prim.Native.Nat.{ℕ, zero, suc}
use native.Mathlib.Omega.{arith}
use mathlib.Core.Bool.{Bool, true, false}
use mathlib.Core.Logic.{◌⊎◌, inl, inr, ◌↔◌}
use Rattle.model.specs.exploration.Key.{Key, zero_key, extend, Le, Lt}
use Rattle.model.specs.exploration.System.{System, rank_of}
use Rattle.model.specs.exploration.Equations.{Bound, up_to, unbounded, Within, Entries, Starts, Arrives, Explores}
use Rattle.model.specs.exploration.Explore.{Entry}
use Rattle.model.proofs.exploration.KeyLaws.{le_trans, lt_le, le_lt_trans, not_below, lt_or_le, rank_le, unrank_lt, unrank_le}
use Rattle.model.proofs.exploration.Laws.{Laws}
use Rattle.model.proofs.exploration.Uniqueness.{within_below, arrives_rank}
use Rattle.model.proofs.exploration.Arrivals.{To}
use Rattle.astar.specs.Records.{Held, Table, rank_in}
use Rattle.astar.proofs.Slots.{Holds, holds_one}
use Rattle.astar.proofs.Invariant.{entry, Linked, Sent, Gathers, Inv, low_at, linked_rank, sent_rank}

-- A rank within the bound is below one that is not.
within_or : (B : Bound) (j k : Key) → Within B j → Within B k ⊎ Lt j k
within_or unbounded j k w = inl tt
within_or (up_to b) j k w = go (lt_or_le b k)
  where
    go : Lt b k ⊎ Le k b → Le k b ⊎ Lt j k
    go (inl l) = inr (le_lt_trans j b k w l)
    go (inr l) = inl l

module _ (S : System) where
  -- the records of t with ranks within the bound, as a set of entries
  abbrev pub Up : Table S → Bound → Entries S
  Up t B n k h = (i : ℕ) × (r : Held S) × Holds t i r × (r.node ≡ n) × (r.key ≡ k) × (r.hints ≡ h) × Within B (rank_of S n k)

  module _ (laws : Laws S) {m0 : S.Node} (starts : Starts S m0) {t : Table S} {P : Entry S → Type 0} (inv : Inv S m0 t P) (B : Bound)
      (past : (i : ℕ) (r : Held S) → Holds t i r → r.taken ≡ false → (k : Key) → Within B k → Le k (rank_in S r))
      (begins : Within B (rank_of S m0 zero_key)) (made : (x : Entry S) → Sent S t x → Within B (rank_of S x.node x.key) → P x) where
    -- ---- arrivals of the set, and those sent

    module _ {n : S.Node} {k : Key} {h : S.Hints} (a : Arrives S (Up t B) n k h) where
      abbrev pub source : Held S
      source = a.entry.1

      abbrev pub as_sent : Entry S
      as_sent = To S (entry S t a.entry.0 source) n a.action

      source_rank : Lt (rank_in S source) (rank_of S n k)
      source_rank = subst (λ (m : S.Node). Lt (rank_of S m source.key) (rank_of S n k)) (sym a.entry.3)
          (subst (λ (z : Key). Lt (rank_of S a.source z) (rank_of S n k)) (sym a.entry.4) (arrives_rank S laws a))

      pub as_sent_key : as_sent.key ≡ k
      as_sent_key = ap (λ (z : Key). extend z (S.cost a.action)) a.entry.4 ∙ sym a.key_is

      as_sent_hints : as_sent.hints ≡ h
      as_sent_hints = ap (λ (z : S.Hints). S.carry z n a.action) a.entry.5 ∙ sym a.hints_are

      is_sent : source.taken ≡ true → Sent S t as_sent
      is_sent y = record {
        slot = a.entry.0;
        source = source;
        action = a.action;
        held = a.entry.2;
        taken = y;
        uncut = ap S.cut a.entry.5 ∙ a.uncut;
        in_range = a.in_range;
        leads = ap (λ (z : S.Node). S.step z a.action) a.entry.3 ∙ a.leads;
        is = refl;
      }

      -- An arrival within the bound was made.
      pub was_made : Within B (rank_of S n k) → P as_sent
      was_made w = made as_sent (is_sent (go source.taken refl)) (subst (λ (z : Key). Within B (rank_of S n z)) (sym as_sent_key) w)
        where
          go : (y : Bool) → source.taken ≡ y → source.taken ≡ true
          go true e = e
          go false e = absurd (not_below (rank_in S source) (rank_of S n k) source_rank (past a.entry.0 source a.entry.2 e (rank_of S n k) w))

    sent_arrives : (x : Entry S) (z : Sent S t x) → Within B (rank_of S x.node x.key) → Arrives S (Up t B) x.node x.key x.hints
    sent_arrives x z w =
        let e : x.key ≡ extend z.source.key (S.cost z.action) = ap (λ (y : Entry S). y.key) z.is in
        let l = sent_rank S laws z in
        record {
          source = z.source.node;
          key = z.source.key;
          hints = z.source.hints;
          action = z.action;
          entry = (z.slot, z.source, z.held, refl, refl, refl, within_below B _ _ (lt_le _ _ l) w);
          in_range = z.in_range;
          uncut = z.uncut;
          leads = z.leads;
          key_is = e;
          hints_are = ap (λ (y : Entry S). y.hints) z.is;
        }

    pub linked_arrives : (r : Held S) (l : Linked S t r) → Within B (rank_in S r)
        → Arrives S (Up t B) r.node r.key (S.carry l.source.hints r.node r.action)
    linked_arrives r l w =
        let lt = linked_rank S laws l in
        record {
          source = l.source.node;
          key = l.source.key;
          hints = l.source.hints;
          action = r.action;
          entry = (r.parent, l.source, l.held, refl, refl, refl, within_below B _ _ (lt_le _ _ lt) w);
          in_range = l.in_range;
          uncut = l.uncut;
          leads = l.leads;
          key_is = l.key_is;
          hints_are = refl;
        }

    moved : {n m : S.Node} {k j : Key} {f : S.Hints} → m ≡ n → j ≡ k → Arrives S (Up t B) m j f → Arrives S (Up t B) n k f
    moved {n} {m} {k} {j} {f} p q a = subst (λ (z : S.Node). Arrives S (Up t B) z k f) p (subst (λ (z : Key). Arrives S (Up t B) m z f) q a)

    -- a rank within the bound, of a node and a key that are the same
    within_at : (m n : S.Node) (j k : Key) → m ≡ n → j ≡ k → Within B (rank_of S n k) → Within B (rank_of S m j)
    within_at m n j k p q w = subst (λ (z : S.Node). Within B (rank_of S z j)) (sym p) (subst (λ (z : Key). Within B (rank_of S n z)) (sym q) w)

    -- ---- the equations

    -- Slot 0 is the start's.
    pub start_node : {n : S.Node} (r : Held S) → Holds t 0 r → r.node ≡ n → Starts S n
    start_node r h e = starts ∙ ap Some (sym inv.begun.2.0 ∙ ap (λ (z : Held S). z.node) (holds_one t 0 inv.begun.1 h) ∙ e)

    solve_start : {n : S.Node} → Starts S n → Up t B n zero_key S.start_hints
    solve_start {n} s =
        let e : m0 ≡ n = cc in
        let r = inv.begun in
        (0, r.0, r.1, r.2.0 ∙ e, r.2.1, r.2.2, subst (λ (z : S.Node). Within B (rank_of S z zero_key)) e begins)

    solve_complete : {n : S.Node} {k : Key} {h : S.Hints} → Within B (rank_of S n k) → Arrives S (Up t B) n k h → (j : Key) × (g : S.Hints) × Up t B n j g
    solve_complete {n} {k} w a =
        let o = inv.low (as_sent a) (was_made a w) in (
          o.1.key,
          o.1.hints,
          (
            o.0,
            o.1,
            o.2,
            o.3,
            refl,
            refl,
            within_below B _ _
                (rank_le o.1.key k (S.estimate n) (subst (Le o.1.key) (as_sent_key a) o.4)) w,
          ),
        )

    solve_arrived : {n : S.Node} {k : Key} {h : S.Hints} → Up t B n k h → Starts S n ⊎ ((g : S.Hints) × Arrives S (Up t B) n k g)
    solve_arrived {n} {k} {h} l = go l.0 l.2
      where
        go : (i : ℕ) → Holds t i l.1 → Starts S n ⊎ ((g : S.Hints) × Arrives S (Up t B) n k g)
        go zero p = inl (start_node l.1 p l.3)
        go (suc i) p =
            let d = inv.linked (suc i) l.1 p (λ z. omega arith) in
            inr (
              S.carry d.source.hints l.1.node l.1.action,
              moved l.3 l.4
                  (linked_arrives l.1 d (within_at l.1.node n l.1.key k l.3 l.4 l.6)),
            )

    solve_least : {n : S.Node} {j k : Key} {g h : S.Hints} → Up t B n j g → Arrives S (Up t B) n k h → Le j k
    solve_least {n} {j} {k} l a = go (source a).taken refl
      where
        made_least : Within B (rank_of S n k) ⊎ Lt (rank_of S n j) (rank_of S n k) → (source a).taken ≡ true → Le j k
        made_least (inl w) y =
            let q = low_at S inv l.0 l.1 l.2 (as_sent a) (was_made a w) l.3 in
            subst (λ (z : Key). Le z k) l.4 (subst (Le l.1.key) (as_sent_key a) q)
        made_least (inr w) y = lt_le j k (unrank_lt j k (S.estimate n) w)

        go : (y : Bool) → (source a).taken ≡ y → Le j k
        go true e = made_least (within_or B (rank_of S n j) (rank_of S n k) l.6) e
        go false e = unrank_le j k (S.estimate n)
            (le_trans _ _ _ (past a.entry.0 (source a) a.entry.2 e (rank_of S n j) l.6) (lt_le _ _ (source_rank a)))

    solve_conjoined : {n : S.Node} {k : Key} {h : S.Hints} → (Starts S n → ⊥) → Up t B n k h → (s : S.Setting)
        → (S.true_at h s ≡ true) ↔ ((g : S.Hints) → Arrives S (Up t B) n k g → S.true_at g s ≡ true)
    solve_conjoined {n} {k} {h} far l s = go l.0 l.2
      where
        true_of : {g f : S.Hints} → g ≡ f → S.true_at g s ≡ true → S.true_at f s ≡ true
        true_of e y = subst (λ (z : S.Hints). S.true_at z s ≡ true) e y

        by : (i : ℕ) → Gathers S P (entry S t i l.1) → (S.true_at h s ≡ true) ↔ ((g : S.Hints) → Arrives S (Up t B) n k g → S.true_at g s ≡ true)
        by i q = (
          λ y g a. true_of (as_sent_hints a) ((q.conjoined s).0 (true_of (sym l.5) y) (as_sent a) (was_made a l.6) (sym l.3, as_sent_key a ∙ sym l.4)),
          λ f. true_of l.5 ((q.conjoined s).1
              (λ x p m. f x.hints (moved (m.0 ∙ l.3) (m.1 ∙ l.4)
              (sent_arrives x (inv.sent x p) (within_at x.node n x.key k (m.0 ∙ l.3) (m.1 ∙ l.4) l.6))))),
        )

        go : (i : ℕ) → Holds t i l.1 → (S.true_at h s ≡ true) ↔ ((g : S.Hints) → Arrives S (Up t B) n k g → S.true_at g s ≡ true)
        go zero p = absurd (far (start_node l.1 p l.3))
        go (suc i) p = by (suc i) (inv.gathers (suc i) l.1 p (λ z. omega arith))

    solve_one : {n : S.Node} {j k : Key} {g h : S.Hints} → Up t B n j g → Up t B n k h → (j ≡ k) × (g ≡ h)
    solve_one a b =
        let i = inv.distinct a.0 b.0 a.1 b.1 a.2 b.2 (a.3 ∙ sym b.3) in
        let p : a.1 ≡ b.1 = holds_one t b.0 (subst (λ (z : ℕ). Holds t z a.1) i a.2) b.2 in
        (sym a.4 ∙ ap (λ (z : Held S). z.key) p ∙ b.4, sym a.5 ∙ ap (λ (z : Held S). z.hints) p ∙ b.5)

    solve_proper : {n : S.Node} {k : Key} {h : S.Hints} → Up t B n k h → S.Proper h
    solve_proper l = subst S.Proper l.5 (inv.proper l.0 l.1 l.2)

    -- The records solve the equations, if open ones are not below the bound and arrivals up to it were made.
    pub up_solves : Explores S B (Up t B)
    up_solves = record {
      start = solve_start;
      complete = solve_complete;
      arrived = solve_arrived;
      least = solve_least;
      conjoined = solve_conjoined;
      one = solve_one;
      proper = solve_proper;
    }
