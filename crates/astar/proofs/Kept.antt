-- One slot put anew keeps the invariant, if the new record fits.
use mathlib.Core.Path.{◌≡◌, refl, sym, ◌∙◌, subst}
use Prim.Native.Nat.{ℕ}
use native.Mathlib.Decide.{ℕ_discrete}
use mathlib.Core.Bool.{true, false, true≢false}
use mathlib.Core.Logic.{◌⊎◌, inl, inr}
use Rattle.model.specs.exploration.Key.{Le}
use Rattle.model.specs.exploration.System.{System}
use Rattle.model.specs.exploration.Explore.{Entry}
use Rattle.model.proofs.exploration.Gather.{At}
use Rattle.astar.specs.Records.{Held, Table, rank_in}
use Rattle.astar.proofs.Slots.{Holds, Put, put_each}
use Rattle.astar.proofs.Invariant.{entry, Linked, Sent, Gathers, Begins, Inv, Keeps, entry_keeps}

module _ (S : System) (m0 : S.Node) where
  -- v in slot j makes the table u out of t, and arrivals Q out of P.
  pub record Fits (t u : Table S) (j : ℕ) (v : Held S) (P Q : Entry S → Type 0) : Type 0 where
    pub put : Put t u j v
    pub keeps : Keeps S t u
    -- slot j and no other has the node of v
    pub apart : (s : ℕ) (r : Held S) → Holds t s r → r.node ≡ v.node → s ≡ j
    pub node : (r : Held S) → Holds t j r → r.node ≡ v.node
    pub begins : j ≡ 0 → Begins S m0 v
    pub linked : (j ≡ 0 → ⊥) → Linked S t v
    pub gathers : (j ≡ 0 → ⊥) → Gathers S Q (entry S u j v)
    pub proper : S.Proper v.hints
    pub low : (x : Entry S) → Q x → v.node ≡ x.node → Le v.key x.key
    pub above : v.taken ≡ false → (s : ℕ) (r : Held S) → Holds t s r → r.taken ≡ true → Le (rank_in S r) (rank_in S v)
    pub below : v.taken ≡ true → (s : ℕ) (r : Held S) → Holds t s r → r.taken ≡ false → Le (rank_in S v) (rank_in S r)
    -- what is new in Q is at the node of v
    pub fresh : (x : Entry S) → Q x → P x ⊎ (v.node ≡ x.node)
    pub more : (x : Entry S) → P x → Q x
    pub sent : (x : Entry S) → Q x → Sent S u x

  module _ {t u : Table S} {j : ℕ} {v : Held S} {P Q : Entry S → Type 0} (inv : Inv S m0 t P) (f : Fits t u j v P Q) where
    keep_linked : (r : Held S) → Linked S t r → Linked S u r
    keep_linked r l = record {
      source = l.source;
      held = f.keeps r.parent l.source l.taken l.held;
      taken = l.taken;
      uncut = l.uncut;
      in_range = l.in_range;
      leads = l.leads;
      key_is = l.key_is;
    }

    keep_gathers : (s : ℕ) (r : Held S) → (s ≡ j → ⊥) → Holds t s r → Gathers S P (entry S t s r) → Gathers S Q (entry S t s r)
    keep_gathers s r n h g = record {
      conjoined = λ σ. (λ a x q m. (g.conjoined σ).0 a x (old x q m (f.fresh x q)) m, λ a. (g.conjoined σ).1 (λ x p m. a x (f.more x p) m));
      first = λ x q m. g.first x (old x q m (f.fresh x q)) m;
    }
      where
        old : (x : Entry S) → Q x → At S (entry S t s r) x → P x ⊎ (v.node ≡ x.node) → P x
        old x q m (inl p) = p
        old x q m (inr e) = absurd (n (f.apart s r h (sym m.0 ∙ sym e)))

    put_distinct : (a b : ℕ) (r q : Held S) → Holds u a r → Holds u b q → r.node ≡ q.node → a ≡ b
    put_distinct a b r q h k = put_each f.put (λ a r. (b : ℕ) (q : Held S) → Holds u b q → r.node ≡ q.node → a ≡ b) at_new at_old a r h b q k
      where
        at_new : (b : ℕ) (q : Held S) → Holds u b q → v.node ≡ q.node → j ≡ b
        at_new = put_each f.put (λ b q. v.node ≡ q.node → j ≡ b) (λ e. refl) (λ s r n h e. sym (f.apart s r h (sym e)))

        at_old : (s : ℕ) (r : Held S) → (s ≡ j → ⊥) → Holds t s r → (b : ℕ) (q : Held S) → Holds u b q → r.node ≡ q.node → s ≡ b
        at_old s r n h = put_each f.put (λ b q. r.node ≡ q.node → s ≡ b) (λ e. f.apart s r h e) (λ b q m k e. inv.distinct s b r q h k e)

    put_begun : (r : Held S) × Holds u 0 r × Begins S m0 r
    put_begun = go (ℕ_discrete 0 j)
      where
        go : Dec (0 ≡ j) → (r : Held S) × Holds u 0 r × Begins S m0 r
        go (yes e) = (v, subst (λ (i : ℕ). Holds u i v) (sym e) f.put.new, f.begins (sym e))
        go (no n) = (inv.begun.0, f.put.old 0 n ∙ inv.begun.1, inv.begun.2)

    put_low : (x : Entry S) → Q x → (i : ℕ) × (r : Held S) × Holds u i r × (r.node ≡ x.node) × Le r.key x.key
    put_low x q = go (f.fresh x q)
      where
        here : v.node ≡ x.node → (i : ℕ) × (r : Held S) × Holds u i r × (r.node ≡ x.node) × Le r.key x.key
        here e = (j, v, f.put.new, e, f.low x q e)

        old : (s : ℕ) (r : Held S) → Holds t s r → r.node ≡ x.node → Le r.key x.key → Dec (s ≡ j) → (i : ℕ) × (r : Held S) × Holds u i r × (r.node ≡ x.node) × Le r.key x.key
        old s r h e l (yes d) = here (sym (f.node r (subst (λ (i : ℕ). Holds t i r) d h)) ∙ e)
        old s r h e l (no n) = (s, r, f.put.old s n ∙ h, e, l)

        go : P x ⊎ (v.node ≡ x.node) → (i : ℕ) × (r : Held S) × Holds u i r × (r.node ≡ x.node) × Le r.key x.key
        go (inl p) = let o = inv.low x p in old o.0 o.1 o.2 o.3 o.4 (ℕ_discrete o.0 j)
        go (inr e) = here e

    put_order : (a b : ℕ) (r q : Held S) → Holds u a r → Holds u b q → r.taken ≡ true → q.taken ≡ false → Le (rank_in S r) (rank_in S q)
    put_order a b r q h k = put_each f.put
        (λ a r. (b : ℕ) (q : Held S) → Holds u b q → r.taken ≡ true → q.taken ≡ false → Le (rank_in S r) (rank_in S q)) at_new at_old a r h b q k
      where
        at_new : (b : ℕ) (q : Held S) → Holds u b q → v.taken ≡ true → q.taken ≡ false → Le (rank_in S v) (rank_in S q)
        at_new = put_each f.put (λ b q. v.taken ≡ true → q.taken ≡ false → Le (rank_in S v) (rank_in S q)) (λ y n. absurd (true≢false (sym y ∙ n)))
            (λ s r m h y n. f.below y s r h n)

        at_old : (s : ℕ) (r : Held S) → (s ≡ j → ⊥) → Holds t s r → (b : ℕ) (q : Held S) → Holds u b q → r.taken ≡ true → q.taken ≡ false
            → Le (rank_in S r) (rank_in S q)
        at_old s r n h = put_each f.put (λ b q. r.taken ≡ true → q.taken ≡ false → Le (rank_in S r) (rank_in S q)) (λ y o. f.above o s r h y)
            (λ b q m k y o. inv.order s b r q h k y o)

    pub put_inv : Inv S m0 u Q
    put_inv = record {
      distinct = put_distinct;
      begun = put_begun;
      linked = put_each f.put (λ s r. (s ≡ 0 → ⊥) → Linked S u r) (λ n. keep_linked v (f.linked n)) (λ s r m h n. keep_linked r (inv.linked s r h n));
      gathers = put_each f.put (λ s r. (s ≡ 0 → ⊥) → Gathers S Q (entry S u s r)) f.gathers
          (λ s r m h n. subst (Gathers S Q) (sym (entry_keeps S inv u f.keeps s r h (f.put.old s m ∙ h))) (keep_gathers s r m h (inv.gathers s r h n)));
      proper = put_each f.put (λ s r. S.Proper r.hints) f.proper (λ s r m h. inv.proper s r h);
      low = put_low;
      order = put_order;
      sent = f.sent;
    }
