-- One action from a slot that leads to a node: what becomes of the table, where it goes on.
use Rattle.std.proofs.Common.{Some}
use mathlib.Core.Path.{◌≡◌, refl, sym, ap, ◌∙◌, subst}
use Prim.Native.Nat.{ℕ, suc, ◌≤◌, ◌<◌}
use native.Mathlib.Omega.{arith}
use mathlib.Core.Bool.{Bool, true, false, true≢false}
use mathlib.Core.List.{List, [], ◌∷◌, ◌++◌}
use mathlib.Core.Logic.{inl, inr}
use lib.ListN.{length, length-append, length-set, set}
use Rattle.model.specs.exploration.Key.{Key, zero_key, extend, Le, Lt, earlier, First}
use Rattle.model.specs.exploration.System.{System}
use Rattle.model.specs.exploration.Explore.{Entry}
use Rattle.model.proofs.exploration.KeyLaws.{le_refl, lt_le, extend_lt, first_total}
use Rattle.model.proofs.exploration.Laws.{Laws}
use Rattle.astar.specs.Records.{Held, Table, path_of}
use Rattle.astar.specs.Search.{Filled, goes_on, full, path_by, tied}
use Rattle.astar.proofs.Slots.{Holds, holds_one, holds_lt, Put, put_set, put_append, set_held}
use Rattle.astar.proofs.Invariant.{entry, Linked, Inv, Keeps, linked_steps, path_suc, path_by_suc, path_length, low_at}
use Rattle.astar.proofs.Sending.{Before, Expanding, put_keeps, put_back, arrival}
use Rattle.astar.proofs.Arriving.{larger_inv, Change, placed, placed_path, alone, together}

lt_le_trans : (i j k : Key) → Lt i j → Le j k → Lt i k
lt_le_trans i j k p q = (omega arith, λ e. omega (arith, p.1 (omega arith), q.1 (omega arith)))

not_lt_zero : (k : Key) → Lt k zero_key → ⊥
unfolding zero_key
not_lt_zero k l = let e : k.cost ≡ 0 = omega arith in omega (arith, l.1 e)

module _ (S : System) (laws : Laws S) (slots : ℕ) where
  -- The table is full, and from slot i an action leads to a node that is not in it.
  pub record Crowded (m0 : S.Node) (i : ℕ) (q : Held S) : Type 0 where
    pub table : Table S
    pub action : ℕ
    pub node : S.Node
    pub expanding : Expanding S m0 table i q action
    pub in_range : action < S.actions
    pub leads : S.step q.node action ≡ Some node
    pub no_room : slots ≤ length table
    pub new : (s : ℕ) (r : Held S) → Holds table s r → S.same node r.node ≡ false

  -- The actions below c from slot i, which holds q, have made u of t: no slot was taken, and the table has not outgrown its slots.
  pub record Followed (m0 : S.Node) (t : Table S) (i : ℕ) (q : Held S) (c : ℕ) (u : Table S) : Type 0 where
    pub expanding : Expanding S m0 u i q c
    pub keeps : Keeps S t u
    pub back : Keeps S u t
    pub room : length t ≤ slots → length u ≤ slots

  -- what the actions from t up to c come to
  abbrev pub Went : S.Node → Table S → ℕ → Held S → ℕ → Filled S → Type 0
  Went m0 t i q c (goes_on u) = Followed m0 t i q c u
  Went m0 t i q c full = Crowded m0 i q

  module _ {m0 : S.Node} {t : Table S} {i : ℕ} {q : Held S} {c : ℕ} (x : Expanding S m0 t i q c) (b : c < S.actions) where
    -- The next state of an expansion, from its invariant.
    onwards : (u : Table S) → Keeps S t u → Keeps S u t → (length t ≤ slots → length u ≤ slots) → Inv S m0 u (Before S u i (suc c))
        → Followed m0 t i q (suc c) u
    onwards u keeps back room inv = record {
      expanding = record {
        inv = inv;
        held = keeps i q x.taken x.held;
        taken = x.taken;
        uncut = x.uncut;
        top = λ s r h k. x.top s r (back s r k h) k;
      };
      keeps = keeps;
      back = back;
      room = room;
    }

    -- ---- a slot that the arrival alone makes

    module _ {n : S.Node} (leads : S.step q.node c ≡ Some n) where
      abbrev pub newcomer : Held S
      newcomer = record { node = n; key = extend q.key (S.cost c); hints = S.carry q.hints n c; parent = i; action = c; taken = false }

      abbrev link : Linked S t newcomer
      link = record { source = q; held = x.held; taken = x.taken; uncut = x.uncut; in_range = b; leads = leads; key_is = refl }

      alone_inv : {u : Table S} {j : ℕ} → Put t u j newcomer → (j ≡ 0 → ⊥) → ((r : Held S) → Holds t j r → r.taken ≡ true → ⊥) → ((r : Held S) → Holds t j r → r.node ≡ n)
          → ((s : ℕ) (r : Held S) → Holds t s r → r.node ≡ n → s ≡ j)
          → ((z : Entry S) → Before S t i c z → n ≡ z.node → Lt (extend q.key (S.cost c)) z.key) → Inv S m0 u (Before S u i (suc c))
      alone_inv {u} {j} put away free place apart high =
          let e : entry S u j newcomer ≡ arrival S x b leads = λ d. record { node = n; key = extend q.key (S.cost c); hints = S.carry q.hints n c; path = placed_path S laws x b leads ch d } in
          placed S laws x b leads ch (λ z k d. lt_le _ _ (high z k d)) (alone S laws x b leads ch e high)
        where
          ch : Change S laws x b leads u j newcomer
          ch = record {
            put = put;
            away = away;
            is_open = refl;
            free = free;
            node = refl;
            key = refl;
            place = place;
            apart = apart;
            linked = link;
            proper = laws.carry_proper q.hints n c (x.inv.proper i q x.held);
          }

      -- at a new node
      pub new_went : ((s : ℕ) (r : Held S) → Holds t s r → S.same n r.node ≡ false) → length t < slots → Went m0 t i q (suc c) (goes_on (t ++ (newcomer ∷ [])))
      new_went new l = onwards u (put_keeps S put free) (put_back S put refl) (λ e. simp length-append (omega arith)) inv
        where
          u : Table S
          u = t ++ (newcomer ∷ [])

          put : Put t u (length t) newcomer
          put = put_append t newcomer

          none_at : (s : ℕ) (r : Held S) → Holds t s r → r.node ≡ n → ⊥
          none_at s r h e = true≢false (sym (laws.same_refl n) ∙ ap (S.same n) (sym e) ∙ new s r h)

          free : (r : Held S) → Holds t (length t) r → r.taken ≡ true → ⊥
          free r h k = omega (arith, holds_lt t (length t) h)

          inv : Inv S m0 u (Before S u i (suc c))
          inv = alone_inv put (λ e. omega (arith, holds_lt t 0 x.inv.begun.1)) free (λ r h. absurd (omega (arith, holds_lt t (length t) h))) (λ s r h e. absurd (none_at s r h e))
              (λ z k e. let o = x.inv.low z k in absurd (none_at o.0 o.1 o.2 (o.3 ∙ sym e)))

    -- ---- at the node of slot j

    module _ (j : ℕ) (r : Held S) (held : Holds t j r) (leads : S.step q.node c ≡ Some r.node) where
      abbrev pub y : Entry S
      y = arrival S x b leads

      apart : (s : ℕ) (p : Held S) → Holds t s p → p.node ≡ r.node → s ≡ j
      apart s p h e = x.inv.distinct s j p r h held e

      place : (p : Held S) → Holds t j p → p.node ≡ r.node
      place p h = ap (λ (z : Held S). z.node) (holds_one t j h held)

      free : r.taken ≡ false → (p : Held S) → Holds t j p → p.taken ≡ true → ⊥
      free o p h k = true≢false (sym k ∙ ap (λ (z : Held S). z.taken) (holds_one t j h held) ∙ o)

      -- The start node's key is less than the arrival's.
      away : Le y.key r.key → j ≡ 0 → ⊥
      away l e =
          let p : inv_start ≡ r = holds_one t 0 x.inv.begun.1 (subst (λ (k : ℕ). Holds t k r) e held) in
          let z : r.key ≡ zero_key = ap (λ (d : Held S). d.key) (sym p) ∙ x.inv.begun.2.1 in
          not_lt_zero q.key (lt_le_trans _ _ _ (extend_lt q.key (S.cost c)) (subst (Le y.key) z l))
        where
          inv_start : Held S
          inv_start = x.inv.begun.0

      set_went : (v : Held S) → r.taken ≡ false → v.taken ≡ false → ((u : Table S) → Put t u j v → Inv S m0 u (Before S u i (suc c))) → Went m0 t i q (suc c) (goes_on (set t j v))
      set_went v o w f =
          let put = put_set t j v (holds_lt t j held) in
          onwards (set t j v) (put_keeps S put (free o)) (put_back S put w) (λ e. simp length-set e) (f (set t j v) put)

      -- with a lesser key
      pub less_went : r.taken ≡ false → Lt y.key r.key → Went m0 t i q (suc c) (goes_on (set t j (newcomer leads)))
      less_went o l = set_went (newcomer leads) o refl (λ u put. alone_inv leads put (away (lt_le _ _ l)) (free o) place apart
          (λ z k e. lt_le_trans _ _ _ l (low_at S x.inv j r held z k e)))

      -- with a larger key, or a taken slot
      pub larger_went : Lt r.key y.key → Went m0 t i q (suc c) (goes_on (set t j r))
      larger_went l = subst (λ (u : Table S). Went m0 t i q (suc c) (goes_on u)) (sym (set_held t j r held))
          (onwards t (λ s p k h. h) (λ s p k h. h) (λ e. e) (larger_inv S laws x b leads j r held refl l))

      -- with the same key
      module _ (o : r.taken ≡ false) (same : r.key ≡ extend q.key (S.cost c)) where
        far : j ≡ 0 → ⊥
        far = away (subst (Le y.key) (sym same) (le_refl y.key))

        abbrev merged : ℕ → ℕ → Held S
        merged p a = record { node = r.node; key = r.key; hints = S.meet r.hints (S.carry q.hints r.node c); parent = p; action = a; taken = false }

        merged_went : (p a : ℕ) (l : Linked S t (merged p a)) → First (path_of S t l.source.key.steps p ++ (a ∷ [])) (entry S t j r).path
            → First (path_of S t l.source.key.steps p ++ (a ∷ [])) y.path → Went m0 t i q (suc c) (goes_on (set t j (merged p a)))
        merged_went p a l f g = set_went (merged p a) o refl inv
          where
            inv : (u : Table S) → Put t u j (merged p a) → Inv S m0 u (Before S u i (suc c))
            inv u put =
                let ch : Change S laws x b leads u j (merged p a) = record {
                  put = put;
                  away = far;
                  is_open = refl;
                  free = free o;
                  node = refl;
                  key = same;
                  place = place;
                  apart = apart;
                  linked = l;
                  proper = laws.meet_proper _ _ (x.inv.proper j r held) (laws.carry_proper q.hints r.node c (x.inv.proper i q x.held));
                } in
                let e = placed_path S laws x b leads ch in
                placed S laws x b leads ch (λ z k d. subst (λ (w : Key). Le w z.key) same (low_at S x.inv j r held z k d))
                (together S laws x b leads ch r (x.inv.gathers j r held far) refl refl refl
                (subst (λ (z : List ℕ). First z (entry S t j r).path) (sym e) f) (subst (λ (z : List ℕ). First z y.path) (sym e) g))

        old_link : Linked S t r
        old_link = x.inv.linked j r held far

        steps : r.key.steps ≡ suc q.key.steps
        unfolding extend
        steps = ap (λ (k : Key). k.steps) same

        own_path : (n : ℕ) → r.key.steps ≡ suc n → (entry S t j r).path ≡ path_of S t n r.parent ++ (r.action ∷ [])
        own_path n e = ap (λ (m : ℕ). path_of S t m j) e ∙ path_suc S t n j held

        lengths : length (entry S t j r).path ≡ length y.path
        lengths =
            let a = path_length S x.inv r.key.steps j r held refl in
            let d = path_length S x.inv q.key.steps i q x.held refl in
            a ∙ steps ∙ simp length-append (omega arith)

        pub tied_went : Went m0 t i q (suc c) (goes_on (set t j (tied S t r y.hints i c)))
        unfolding tied
        tied_went = go (earlier (path_by S t r.key.steps i c) (path_by S t r.key.steps r.parent r.action)) refl
          where
            new_is : path_by S t r.key.steps i c ≡ y.path
            new_is = path_by_suc S t q.key.steps i c steps

            old_is : path_by S t r.key.steps r.parent r.action ≡ (entry S t j r).path
            old_is = path_by_suc S t q.key.steps r.parent r.action steps ∙ sym (own_path q.key.steps steps)

            order : (a : Bool) → earlier (path_by S t r.key.steps i c) (path_by S t r.key.steps r.parent r.action) ≡ a → earlier y.path (entry S t j r).path ≡ a
            order a e = (λ d. earlier (sym new_is d) (sym old_is d)) ∙ e

            by_new : Linked S t (merged i c)
            by_new = record { source = q; held = x.held; taken = x.taken; uncut = x.uncut; in_range = b; leads = leads; key_is = same }

            by_old : Linked S t (merged r.parent r.action)
            by_old = record {
              source = old_link.source;
              held = old_link.held;
              taken = old_link.taken;
              uncut = old_link.uncut;
              in_range = old_link.in_range;
              leads = old_link.leads;
              key_is = old_link.key_is;
            }

            go : (a : Bool) → earlier (path_by S t r.key.steps i c) (path_by S t r.key.steps r.parent r.action) ≡ a
                → Went m0 t i q (suc c) (goes_on (set t j (tied S t r y.hints i c)))
            go true e = rw (e, tied) (merged_went i c by_new (inr (order true e)) (inl refl))
            go false e =
                let p = own_path old_link.source.key.steps (linked_steps S old_link) in
                rw (e, tied) (merged_went r.parent r.action by_old (inl (sym p)) (subst (λ (z : List ℕ). First z y.path) p (first_total _ _ lengths (order false e))))
