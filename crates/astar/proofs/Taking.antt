-- The least open slot is taken: the invariant holds on, and an uncut slot's expansion begins.
use mathlib.Core.Path.{◌≡◌, refl, sym, ap, ◌∙◌, subst}
use Prim.Native.Nat.{ℕ}
use native.Mathlib.Omega.{arith}
use mathlib.Core.Bool.{true, false, true≢false}
use mathlib.Core.Logic.{inl}
use lib.ListN.{set}
use Rattle.model.specs.exploration.Key.{Le}
use Rattle.model.specs.exploration.System.{System}
use Rattle.model.specs.exploration.Explore.{Entry}
use Rattle.model.proofs.exploration.KeyLaws.{le_refl}
use Rattle.astar.specs.Records.{Held, Table, rank_in, take-it, mark, path_of}
use Rattle.astar.proofs.Slots.{Holds, holds_one, holds_lt, Put, put_each, put_set}
use Rattle.astar.proofs.Invariant.{entry, Sent, Gathers, Begins, Inv, Keeps, path_keeps, low_at, inv_map}
use Rattle.astar.proofs.Kept.{put_inv}
use Rattle.astar.proofs.Sending.{Before, Expanding, put_keeps, sent_on, sent_back}

module _ (S : System) where
  pub mark_is : (t : Table S) (i : ℕ) {r : Held S} → Holds t i r → mark S t i ≡ set t i (take-it S r)
  unfolding mark
  mark_is t i h = rw (h, mark) refl

  module _ {m0 : S.Node} {t : Table S} (inv : Inv S m0 t (Sent S t)) (i : ℕ) (r : Held S) (held : Holds t i r) (open' : r.taken ≡ false)
      (least : (s : ℕ) (p : Held S) → Holds t s p → p.taken ≡ false → Le (rank_in S r) (rank_in S p)) where
    abbrev u : Table S
    u = set t i (take-it S r)

    put : Put t u i (take-it S r)
    put = put_set t i (take-it S r) (holds_lt t i held)

    keeps : Keeps S t u
    keeps = put_keeps S put (λ p h k. true≢false (sym k ∙ ap (λ (z : Held S). z.taken) (holds_one t i h held) ∙ open'))

    is_r : (p : Held S) → Holds t i p → p ≡ r
    is_r p h = holds_one t i h held

    begins : i ≡ 0 → Begins S m0 r
    begins e = subst (Begins S m0) (holds_one t 0 inv.begun.1 (subst (λ (k : ℕ). Holds t k r) e held)) inv.begun.2

    same_entry : entry S u i (take-it S r) ≡ entry S t i r
    unfolding take-it
    same_entry =
        let p : path_of S u r.key.steps i ≡ path_of S t r.key.steps i = path_keeps S inv u keeps r.key.steps i r (take-it S r) held put.new refl refl refl in
        λ d. record { node = r.node; key = r.key; hints = r.hints; path = p d }

    taken_inv : (Q : Entry S → Type 0) → ((x : Entry S) → Sent S t x → Q x) → ((x : Entry S) → Q x → Sent S t x) → Inv S m0 u Q
    unfolding take-it
    taken_inv Q to back = put_inv S m0 inv (record {
      put = put;
      keeps = keeps;
      apart = λ s p h e. inv.distinct s i p r h held e;
      node = λ p h. ap (λ (z : Held S). z.node) (is_r p h);
      begins = begins;
      linked = λ k. let l = inv.linked i r held k in record {
        source = l.source;
        held = l.held;
        taken = l.taken;
        uncut = l.uncut;
        in_range = l.in_range;
        leads = l.leads;
        key_is = l.key_is;
      };
      gathers = λ k. subst (Gathers S Q) (sym same_entry) ((inv_map S inv Q to back).gathers i r held k);
      proper = inv.proper i r held;
      low = λ x q e. low_at S inv i r held x (back x q) e;
      above = λ k. absurd (true≢false k);
      below = λ k s p h o. least s p h o;
      fresh = λ x q. inl (back x q);
      more = to;
      sent = λ x q. sent_on S inv u keeps x (back x q);
    })

    -- An arrival of the new table is from another slot than i, if it was one of the old.
    old : (x : Entry S) (z : Sent S u x) → (z.slot ≡ i → z.source ≡ take-it S r → ⊥) → Holds t z.slot z.source
    old x z f = put_each put (λ s p. (s ≡ i → p ≡ take-it S r → ⊥) → Holds t s p) (λ g. absurd (g refl refl)) (λ s p k h g. h) z.slot z.source z.held f

    -- A cut slot makes no arrivals.
    pub take-cut : S.cut r.hints ≡ true → Inv S m0 u (Sent S u)
    unfolding take-it
    take-cut c = taken_inv (Sent S u) (sent_on S inv u keeps) back
      where
        back : (x : Entry S) → Sent S u x → Sent S t x
        back x z = sent_back S inv u keeps x z (old x z (λ e d. true≢false (sym c ∙ ap (λ (p : Held S). S.cut p.hints) (sym d) ∙ z.uncut)))

    -- An uncut slot has made no arrivals yet.
    pub take-uncut : S.cut r.hints ≡ false → Expanding S m0 u i (take-it S r) 0
    unfolding take-it sent_on
    take-uncut c = record {
      inv = taken_inv (Before S u i 0) (λ x z. (sent_on S inv u keeps x z, λ e. absurd (not_i x z e))) (λ x z. sent_back S inv u keeps x z.0 (old x z.0 (λ e d. omega (arith, z.1 e))));
      held = put.new;
      taken = refl;
      uncut = c;
      top = put_each put (λ s p. p.taken ≡ true → Le (rank_in S p) (rank_in S r)) (λ k. le_refl (rank_in S r)) (λ s p n h k. inv.order s i p r h held k open');
    }
      where
        not_i : (x : Entry S) (z : Sent S t x) → z.slot ≡ i → ⊥
        not_i x z e = true≢false (sym z.taken ∙ ap (λ (p : Held S). p.taken) (is_r z.source (subst (λ (k : ℕ). Holds t k z.source) e z.held)) ∙ open')

  -- After all actions, all arrivals are made.
  pub expanded : {m0 : S.Node} {t : Table S} {i : ℕ} {q : Held S} → Expanding S m0 t i q S.actions → Inv S m0 t (Sent S t)
  expanded {t = t} x = inv_map S x.inv (Sent S t) (λ z k. k.0) (λ z k. (k, λ e. k.in_range))
