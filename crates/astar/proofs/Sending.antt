-- A slot being expanded: which arrivals have been made, and how one more action changes them.
use Rattle.std.proofs.Common.{Some}
use mathlib.Core.Path.{◌≡◌, sym, ap, ◌∙◌, subst}
use Prim.Native.Nat.{ℕ, suc, ◌<◌}
use native.Mathlib.Omega.{arith}
use native.Mathlib.Decide.{ℕ_discrete}
use mathlib.Core.Bool.{true, false, true≢false}
use mathlib.Core.Logic.{◌⊎◌, inl, inr}
use Rattle.model.specs.exploration.Key.{Le}
use Rattle.model.specs.exploration.System.{System}
use Rattle.model.specs.exploration.Explore.{Entry}
use Rattle.model.proofs.exploration.Arrivals.{To}
use Rattle.astar.specs.Records.{Held, Table, rank_in}
use Rattle.astar.proofs.Slots.{Holds, holds_one, Put, put_each}
use Rattle.astar.proofs.Invariant.{entry, Sent, Inv, Keeps, entry_keeps}

module _ (S : System) where
  -- the arrivals made: from slot i by the actions below c, from the others by all
  abbrev pub Before : Table S → ℕ → ℕ → Entry S → Type 0
  Before t i c x = (z : Sent S t x) × (z.slot ≡ i → z.action < c)

  -- The slot i, which holds q, is being expanded: the actions below c are done.
  pub record Expanding (m0 : S.Node) (t : Table S) (i : ℕ) (q : Held S) (c : ℕ) : Type 0 where
    pub inv : Inv S m0 t (Before t i c)
    pub held : Holds t i q
    pub taken : q.taken ≡ true
    pub uncut : S.cut q.hints ≡ false
    -- no taken rank is larger
    pub top : (s : ℕ) (r : Held S) → Holds t s r → r.taken ≡ true → Le (rank_in S r) (rank_in S q)

  -- ---- a slot that is not taken put anew

  module _ {t u : Table S} {j : ℕ} {v : Held S} (put : Put t u j v) where
    pub put_keeps : ((r : Held S) → Holds t j r → r.taken ≡ true → ⊥) → Keeps S t u
    put_keeps f s q y h = go (ℕ_discrete s j)
      where
        go : Dec (s ≡ j) → Holds u s q
        go (yes e) = absurd (f q (subst (λ (i : ℕ). Holds t i q) e h) y)
        go (no n) = put.old s n ∙ h

    pub put_back : v.taken ≡ false → Keeps S u t
    put_back o s q y h = put_each put (λ s q. q.taken ≡ true → Holds t s q) (λ y'. absurd (true≢false (sym y' ∙ o))) (λ s r n h' y'. h') s q h y

  -- ---- arrivals in two tables with the same taken records

  module _ {m0 : S.Node} {t : Table S} {P : Entry S → Type 0} (inv : Inv S m0 t P) (u : Table S) (keeps : Keeps S t u) where
    -- A taken record is the same entry in both.
    pub same_entry : (s : ℕ) (r : Held S) → r.taken ≡ true → Holds t s r → entry S u s r ≡ entry S t s r
    same_entry s r y h = entry_keeps S inv u keeps s r h (keeps s r y h)

    unfoldable pub sent_on : (x : Entry S) → Sent S t x → Sent S u x
    sent_on x z = record {
      slot = z.slot;
      source = z.source;
      action = z.action;
      held = keeps z.slot z.source z.taken z.held;
      taken = z.taken;
      uncut = z.uncut;
      in_range = z.in_range;
      leads = z.leads;
      is = z.is ∙ ap (λ (e : Entry S). To S e x.node z.action) (sym (same_entry z.slot z.source z.taken z.held));
    }

    unfoldable pub sent_back : (x : Entry S) (z : Sent S u x) → Holds t z.slot z.source → Sent S t x
    sent_back x z h = record {
      slot = z.slot;
      source = z.source;
      action = z.action;
      held = h;
      taken = z.taken;
      uncut = z.uncut;
      in_range = z.in_range;
      leads = z.leads;
      is = z.is ∙ ap (λ (e : Entry S). To S e x.node z.action) (same_entry z.slot z.source z.taken h);
    }

  -- An arrival from slot i is from the record that is being expanded.
  pub source_is : {m0 : S.Node} {t : Table S} {i : ℕ} {q : Held S} {c : ℕ} → Expanding m0 t i q c → {y : Entry S} (z : Sent S t y) → z.slot ≡ i → z.source ≡ q
  source_is {t = t} {i = i} x z e = holds_one t i (subst (λ (k : ℕ). Holds t k z.source) e z.held) x.held

  -- ---- one action more

  module _ {m0 : S.Node} {t : Table S} {i : ℕ} {q : Held S} {c : ℕ} (x : Expanding m0 t i q c) (b : c < S.actions) {n : S.Node} (leads : S.step q.node c ≡ Some n) where
    -- what action c leads to
    abbrev pub arrival : Entry S
    arrival = To S (entry S t i q) n c

    module _ (u : Table S) (keeps : Keeps S t u) where
      pub before_old : (y : Entry S) → Before t i c y → Before u i (suc c) y
      unfolding sent_on
      before_old y z = (sent_on x.inv u keeps y z.0, λ e. omega (arith, z.1 e))

      pub before_new : Before u i (suc c) arrival
      before_new = (
        record {
          slot = i;
          source = q;
          action = c;
          held = keeps i q x.taken x.held;
          taken = x.taken;
          uncut = x.uncut;
          in_range = b;
          leads = leads;
          is = ap (λ (e : Entry S). To S e n c) (sym (same_entry x.inv u keeps i q x.taken x.held));
        },
        λ e. omega arith,
      )

      -- The arrivals made after action c are those made before it and this one.
      pub before_cases : Keeps S u t → (y : Entry S) → Before u i (suc c) y → Before t i c y ⊎ (y ≡ arrival)
      unfolding sent_back
      before_cases back y z = go (ℕ_discrete z.0.slot i) (ℕ_discrete z.0.action c)
        where
          w : Sent S t y
          w = sent_back x.inv u keeps y z.0 (back z.0.slot z.0.source z.0.taken z.0.held)

          go : Dec (z.0.slot ≡ i) → Dec (z.0.action ≡ c) → Before t i c y ⊎ (y ≡ arrival)
          go (no e) d = inl (w, λ f. absurd (e f))
          go (yes e) (no d) = inl (w, λ f. omega (arith, z.1 e))
          go (yes e) (yes d) =
              let s : z.0.source ≡ q = source_is x w e in
              let l : S.step q.node c ≡ Some y.node = sym (λ k. S.step (s k).node (d k)) ∙ z.0.leads in
              let m : y.node ≡ n = cc in
              inr (w.is ∙ (λ k. To S (entry S t (e k) (s k)) (m k) (d k)))
