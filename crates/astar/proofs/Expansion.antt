-- All actions from a slot: the table goes on with the invariant, or it is full and a new node arrives.
use Rattle.std.proofs.Common.{Option, None, Some}
use mathlib.Core.Path.{◌≡◌, refl, sym, ap, ◌∙◌, subst}
use Prim.Native.Nat.{ℕ, zero, suc, ◌≤◌, ◌<◌}
use native.Mathlib.Omega.{arith}
use native.Mathlib.Decide.{ℕ_discrete}
use mathlib.Core.Bool.{Bool, true, false, true≢false}
use mathlib.Core.Logic.{◌⊎◌, inl, inr}
use lib.ListN.{length, set}
use lib.Dec.{ltb}
use borrow.Author.Tests.{ltb-true, ltb-false}
use Rattle.model.specs.exploration.Key.{Key, extend, Le, Lt, less, same_key}
use Rattle.model.specs.exploration.System.{System}
use Rattle.model.specs.exploration.Explore.{Entry}
use Rattle.model.proofs.exploration.KeyLaws.{le_antisym, lt_or_le, less_yes, less_no, same_key_lem, same_key_refl}
use Rattle.model.proofs.exploration.Laws.{Laws}
use Rattle.astar.specs.Records.{Held, Table, find, take-it}
use Rattle.astar.specs.Search.{Filled, goes_on, full, relaxed, arrive, follow, expand}
use Rattle.astar.proofs.Slots.{Holds}
use Rattle.astar.proofs.Finding.{find_none, find_some}
use Rattle.astar.proofs.Invariant.{Sent, inv_map}
use Rattle.astar.proofs.Sending.{Before, Expanding, source_is}
use Rattle.astar.proofs.Arriving.{closed_final}
use Rattle.astar.proofs.Following.{Followed, Went, new_went, less_went, larger_went, tied_went, newcomer}

module _ (S : System) (laws : Laws S) (slots : ℕ) where
  module _ {m0 : S.Node} {t : Table S} {i : ℕ} {q : Held S} {c : ℕ} (x : Expanding S m0 t i q c) (b : c < S.actions) where
    -- ---- one action

    -- what action c comes to
    abbrev Goes : Filled S → Type 0
    Goes f = Went S laws slots m0 t i q (suc c) f

    module _ (j : ℕ) (r : Held S) (held : Holds t j r) (leads : S.step q.node c ≡ Some r.node) where
      abbrev k : Key
      k = extend q.key (S.cost c)

      abbrev h : S.Hints
      h = S.carry q.hints r.node c

      larger : less k r.key ≡ false → same_key k r.key ≡ false → Lt r.key k
      larger e f = go (lt_or_le r.key k)
        where
          go : Lt r.key k ⊎ Le k r.key → Lt r.key k
          go (inl l) = l
          go (inr l) =
              let s : k ≡ r.key = le_antisym k r.key l (less_no k r.key e) in
              absurd (true≢false (sym (subst (λ (z : Key). same_key k z ≡ true) s (same_key_refl k)) ∙ f))

      relaxed_went : Goes (goes_on (set t j (relaxed S t r k h i c)))
      unfolding relaxed
      relaxed_went = go r.taken (less k r.key) (same_key k r.key) refl refl refl
        where
          to : (v : Held S) → relaxed S t r k h i c ≡ v → Goes (goes_on (set t j v)) → Goes (goes_on (set t j (relaxed S t r k h i c)))
          to v e w = subst (λ (z : Held S). Goes (goes_on (set t j z))) (sym e) w

          kept : (a : Bool) → r.taken ≡ a → r ≡ record { node = r.node; key = r.key; hints = r.hints; parent = r.parent; action = r.action; taken = a }
          kept a e = λ d. record { node = r.node; key = r.key; hints = r.hints; parent = r.parent; action = r.action; taken = e d }

          go : (a l s : Bool) → r.taken ≡ a → less k r.key ≡ l → same_key k r.key ≡ s → Goes (goes_on (set t j (relaxed S t r k h i c)))
          go true l s e f g = to r (rw (e, relaxed) (kept true e)) (larger_went S laws slots x b j r held leads (closed_final S laws x b leads j r held e refl))
          go false true s e f g = to (newcomer S laws slots x b leads) (rw (e, relaxed, f) refl) (less_went S laws slots x b j r held leads e (less_yes _ _ f))
          go false false true e f g = to _ (rw (e, relaxed, f, g) refl) (tied_went S laws slots x b j r held leads e (sym (same_key_lem _ _ g)))
          go false false false e f g = to r (rw (e, relaxed, f, g) (kept false e)) (larger_went S laws slots x b j r held leads (larger f g))

    module _ {n : S.Node} (leads : S.step q.node c ≡ Some n) where
      abbrev arrival_at : Filled S
      arrival_at = arrive S slots t n (extend q.key (S.cost c)) (S.carry q.hints n c) i c

      arrive_went : Goes arrival_at
      unfolding arrive
      arrive_went = go (find S n t 0) refl
        where
          room : (a : Bool) → ltb (length t) slots ≡ a → find S n t 0 ≡ None → Goes arrival_at
          room true e f = rw (f, arrive, e) (new_went S laws slots x b leads (find_none S n t f) (ltb-true _ _ e))
          room false e f = rw (f, arrive, e) (record {
            table = t;
            action = c;
            node = n;
            expanding = x;
            in_range = b;
            leads = leads;
            no_room = ltb-false _ _ e;
            new = find_none S n t f;
          })

          known : {j : ℕ} → find S n t 0 ≡ Some j → (r : Held S) → Holds t j r → n ≡ r.node → Goes arrival_at
          known {j} f r p e =
              rw (f, arrive, p) (subst (λ (z : S.Node). Goes (goes_on (set t j (relaxed S t r (extend q.key (S.cost c)) (S.carry q.hints z c) i c)))) (sym e)
              (relaxed_went j r p (leads ∙ ap Some e)))

          go : (o : Option ℕ) → find S n t 0 ≡ o → Goes arrival_at
          go None f = room (ltb (length t) slots) refl f
          go (Some j) f = let r = find_some S n t f in known f r.0 r.1 (laws.same_eq _ _ r.2)

    -- An action that leads nowhere makes no arrival.
    stays : S.step q.node c ≡ None → Expanding S m0 t i q (suc c)
    stays e = record {
      inv = inv_map S x.inv (Before S t i (suc c)) (λ z k. (k.0, λ s. omega (arith, k.1 s))) (λ z k. (k.0, λ s. not_last z k.0 s (k.1 s) (ℕ_discrete k.0.action c)));
      held = x.held;
      taken = x.taken;
      uncut = x.uncut;
      top = x.top;
    }
      where
        not_last : (z : Entry S) (k : Sent S t z) → k.slot ≡ i → k.action < suc c → Dec (k.action ≡ c) → k.action < c
        not_last z k s l (yes d) =
            let p : k.source ≡ q = source_is S x k s in
            let f : S.step q.node c ≡ Some z.node = sym (λ w. S.step (p w).node (d w)) ∙ k.leads in
            let o : ◌≡◌ {A = ℕ} 0 1 = cc in
            absurd (omega arith)
        not_last z k s l (no d) = omega arith

    follow_went : Goes (follow S slots t q i c)
    unfolding follow
    follow_went = go (S.step q.node c) refl
      where
        go : (o : Option S.Node) → S.step q.node c ≡ o → Goes (follow S slots t q i c)
        go None e = rw (e, follow) (record { expanding = stays e; keeps = λ s r k h. h; back = λ s r k h. h; room = λ l. l })
        go (Some n) e = rw (e, follow) (arrive_went e)

  -- ---- all actions

  module _ {m0 : S.Node} {i : ℕ} (r : Held S) where
    -- One action made from a slot just taken: the table goes on in the next state of the expansion, or it is full.
    pub follow_taken : {t : Table S} {c : ℕ} → Expanding S m0 t i (take-it S r) c → c < S.actions → Went S laws slots m0 t i (take-it S r) (suc c) (follow S slots t r i c)
    unfolding follow take-it
    follow_taken x b = follow_went x b

    -- The actions below c made: the table goes on in that state of the expansion, or it is full.
    pub expand_went : {t : Table S} → Expanding S m0 t i (take-it S r) 0 → (c : ℕ) → c ≤ S.actions → Went S laws slots m0 t i (take-it S r) c (expand S slots t r i c)
    unfolding expand
    expand_went {t} x zero b = record { expanding = x; keeps = λ s p k h. h; back = λ s p k h. h; room = λ l. l }
    expand_went {t} x (suc c) b = go (expand S slots t r i c) refl (expand_went x c (omega arith))
      where
        next : (u : Table S) → Followed S laws slots m0 t i (take-it S r) c u → (f : Filled S)
            → Went S laws slots m0 u i (take-it S r) (suc c) f → Went S laws slots m0 t i (take-it S r) (suc c) f
        next u w (goes_on v) g = record {
          expanding = g.expanding;
          keeps = λ s p k h. g.keeps s p k (w.keeps s p k h);
          back = λ s p k h. w.back s p k (g.back s p k h);
          room = λ l. g.room (w.room l);
        }
        next u w full g = g

        go : (f : Filled S) → expand S slots t r i c ≡ f → Went S laws slots m0 t i (take-it S r) c (expand S slots t r i c) → Went S laws slots m0 t i (take-it S r) (suc c) (expand S slots t r i (suc c))
        go (goes_on u) e ih =
            let w = rw e at ih in
            rw (e, expand) (next u w (follow S slots u r i c) (follow_taken w.expanding (omega arith)))
        go full e ih = rw (e, expand) (rw e at ih)
