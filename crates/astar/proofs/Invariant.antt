-- What the search keeps true of its table, and what follows of paths.
use Rattle.std.proofs.Common.{Some}
use mathlib.Core.Path.{◌≡◌, refl, sym, ap, ◌∙◌, subst}
use Prim.Native.Nat.{ℕ, zero, suc, ◌<◌}
use native.Mathlib.Omega.{arith}
use mathlib.Core.Bool.{true, false}
use mathlib.Core.List.{[], ◌∷◌, ◌++◌}
use mathlib.Core.Logic.{◌⊎◌, inl, inr, ◌↔◌}
use lib.ListN.{length, length-append}
use Rattle.model.specs.exploration.Key.{Key, zero_key, extend, Le, Lt, First}
use Rattle.model.specs.exploration.System.{System, rank_of}
use Rattle.model.specs.exploration.Explore.{Entry}
use Rattle.model.proofs.exploration.KeyLaws.{le_refl, le_trans, lt_le, not_below, rank_step}
use Rattle.model.proofs.exploration.Laws.{Laws}
use Rattle.model.proofs.exploration.Arrivals.{To}
use Rattle.model.proofs.exploration.Gather.{At}
use Rattle.astar.specs.Records.{Held, Table, rank_in, path_of}
use Rattle.astar.specs.Search.{path_by}
use Rattle.astar.proofs.Slots.{Holds, holds_one}

module _ (S : System) where
  -- a record as an entry: with its path in place of its parent
  abbrev pub entry : Table S → ℕ → Held S → Entry S
  entry t i r = record { node = r.node; key = r.key; hints = r.hints; path = path_of S t r.key.steps i }

  -- The record's action leads to its node from its parent, which is taken and not cut.
  pub record Linked (t : Table S) (r : Held S) : Type 0 where
    pub source : Held S
    pub held : Holds t r.parent source
    pub taken : source.taken ≡ true
    pub uncut : S.cut source.hints ≡ false
    pub in_range : r.action < S.actions
    pub leads : S.step source.node r.action ≡ Some r.node
    pub key_is : r.key ≡ extend source.key (S.cost r.action)

  -- x is an arrival from a record that is taken and not cut.
  pub record Sent (t : Table S) (x : Entry S) : Type 0 where
    pub slot : ℕ
    pub source : Held S
    pub action : ℕ
    pub held : Holds t slot source
    pub taken : source.taken ≡ true
    pub uncut : S.cut source.hints ≡ false
    pub in_range : action < S.actions
    pub leads : S.step source.node action ≡ Some x.node
    pub is : x ≡ To S (entry t slot source) x.node action

  -- Of the arrivals P at the node and of the key of e, the hint residuals of e are the conjunction, and its path is the first.
  pub record Gathers (P : Entry S → Type 0) (e : Entry S) : Type 0 where
    pub conjoined : (s : S.Setting) → (S.true_at e.hints s ≡ true) ↔ ((x : Entry S) → P x → At S e x → S.true_at x.hints s ≡ true)
    pub first : (x : Entry S) → P x → At S e x → First e.path x.path

  -- the record of the start node
  abbrev pub Begins : S.Node → Held S → Type 0
  Begins m0 r = (r.node ≡ m0) × (r.key ≡ zero_key) × (r.hints ≡ S.start_hints)

  -- The table holds what the arrivals P make of the start node m0.
  pub record Inv (m0 : S.Node) (t : Table S) (P : Entry S → Type 0) : Type 0 where
    pub distinct : (i j : ℕ) (r q : Held S) → Holds t i r → Holds t j q → r.node ≡ q.node → i ≡ j
    pub begun : (r : Held S) × Holds t 0 r × Begins m0 r
    pub linked : (i : ℕ) (r : Held S) → Holds t i r → (i ≡ 0 → ⊥) → Linked t r
    pub gathers : (i : ℕ) (r : Held S) → Holds t i r → (i ≡ 0 → ⊥) → Gathers P (entry t i r)
    pub proper : (i : ℕ) (r : Held S) → Holds t i r → S.Proper r.hints
    -- every arrival is at a node of the table, whose key is not larger
    pub low : (x : Entry S) → P x → (i : ℕ) × (r : Held S) × Holds t i r × (r.node ≡ x.node) × Le r.key x.key
    -- no open rank is below a taken one
    pub order : (i j : ℕ) (r q : Held S) → Holds t i r → Holds t j q → r.taken ≡ true → q.taken ≡ false → Le (rank_in S r) (rank_in S q)
    pub sent : (x : Entry S) → P x → Sent t x

  -- No record taken is an uncut goal.
  abbrev pub Barren : Table S → Type 0
  Barren t = (i : ℕ) (r : Held S) → Holds t i r → r.taken ≡ true → S.cut r.hints ≡ false → S.goal r.node ≡ true → ⊥

  -- Taken records of t are in the same slots of u.
  abbrev pub Keeps : Table S → Table S → Type 0
  Keeps t u = (s : ℕ) (q : Held S) → q.taken ≡ true → Holds t s q → Holds u s q

  -- ---- paths

  pub linked_steps : {t : Table S} {r : Held S} (l : Linked t r) → r.key.steps ≡ suc l.source.key.steps
  unfolding extend
  linked_steps l = ap (λ (k : Key). k.steps) l.key_is

  -- The record that an action leads from has a lesser rank than the one that it leads to.
  pub linked_rank : Laws S → {t : Table S} {r : Held S} (l : Linked t r) → Lt (rank_in S l.source) (rank_in S r)
  linked_rank laws {r = r} l = subst (λ (k : Key). Lt (rank_in S l.source) (rank_of S r.node k)) (sym l.key_is)
      (rank_step l.source.key (S.cost r.action) _ _ (laws.consistent l.source.node r.node r.action l.in_range l.leads))

  -- The record that an arrival comes from has a lesser rank than the arrival.
  pub sent_rank : Laws S → {t : Table S} {x : Entry S} (z : Sent t x) → Lt (rank_in S z.source) (rank_of S x.node x.key)
  sent_rank laws {x = x} z = subst (λ (k : Key). Lt (rank_in S z.source) (rank_of S x.node k)) (sym (ap (λ (y : Entry S). y.key) z.is))
      (rank_step z.source.key (S.cost z.action) _ _ (laws.consistent z.source.node x.node z.action z.in_range z.leads))

  -- A path of one more action goes by the parent.
  pub path_suc : (t : Table S) (n i : ℕ) {r : Held S} → Holds t i r → path_of S t (suc n) i ≡ path_of S t n r.parent ++ (r.action ∷ [])
  unfolding path_of
  path_suc t n i h = rw (h, path_of) refl

  -- A path of one more action that goes by a slot and on by an action is the path to the slot and that action.
  pub path_by_suc : (t : Table S) (n i a : ℕ) {m : ℕ} → m ≡ suc n → path_by S t m i a ≡ path_of S t n i ++ (a ∷ [])
  unfolding path_by
  path_by_suc t n i a e = ap (λ (m : ℕ). path_by S t m i a) e

  module _ {m0 : S.Node} {t : Table S} {P : Entry S → Type 0} (inv : Inv m0 t P) where
    -- Slot 0 alone has a key of no steps.
    pub start_steps : (r : Held S) → Holds t 0 r → r.key.steps ≡ 0
    unfolding zero_key
    start_steps r h = ap (λ (q : Held S). q.key.steps) (holds_one t 0 h inv.begun.1) ∙ ap (λ (k : Key). k.steps) inv.begun.2.1

    pub steps_linked : {n : ℕ} (i : ℕ) (r : Held S) → Holds t i r → r.key.steps ≡ suc n → Linked t r
    steps_linked zero r h e = absurd (omega (arith, start_steps r h))
    steps_linked (suc i) r h e = inv.linked (suc i) r h (λ z. omega arith)

    pub zero_slot : (i : ℕ) (r : Held S) → Holds t i r → r.key.steps ≡ 0 → i ≡ 0
    zero_slot zero r h e = refl
    zero_slot (suc i) r h e = let l = inv.linked (suc i) r h (λ z. omega arith) in absurd (omega (arith, linked_steps l))

    -- No rank is below the start's.
    pub start_least : Laws S → (n i : ℕ) (r : Held S) → Holds t i r → r.key.steps ≡ n → Le (rank_of S m0 zero_key) (rank_in S r)
    start_least laws zero i r h e =
        let at0 : Holds t 0 r = subst (λ (z : ℕ). Holds t z r) (zero_slot i r h e) h in
        let d : inv.begun.0 ≡ r = holds_one t 0 inv.begun.1 at0 in
        subst (λ (q : Held S). Le (rank_of S m0 zero_key) (rank_in S q)) d
        (subst (Le (rank_of S m0 zero_key)) (λ z. rank_of S (sym inv.begun.2.0 z) (sym inv.begun.2.1 z)) (le_refl _))
    start_least laws (suc n) i r h e =
        let l = steps_linked i r h e in
        let ih = start_least laws n r.parent l.source l.held (omega (arith, linked_steps l)) in
        le_trans _ _ _ ih (lt_le _ _ (linked_rank laws l))

    -- A path has as many actions as its record's key says.
    pub path_length : (n i : ℕ) (r : Held S) → Holds t i r → r.key.steps ≡ n → length (path_of S t n i) ≡ n
    unfolding path_of
    path_length zero i r h e = refl
    path_length (suc n) i r h e =
        let l = steps_linked i r h e in
        let k = path_length n r.parent l.source l.held (omega (arith, linked_steps l)) in
        ap length (path_suc t n i h) ∙ simp length-append (omega arith)

    pub sized : (k : Key) (i : ℕ) (r : Held S) → Holds t i r → r.key ≡ k → length (path_of S t k.steps i) ≡ k.steps
    sized k i r h e = path_length k.steps i r h (ap (λ (z : Key). z.steps) e)

    -- Paths stay as they are while taken records do and a record keeps its parent and action.
    pub path_keeps : (u : Table S) → Keeps t u → (n i : ℕ) (r q : Held S) → Holds t i r → Holds u i q → q.parent ≡ r.parent → q.action ≡ r.action → r.key.steps ≡ n → path_of S u n i ≡ path_of S t n i
    unfolding path_of
    path_keeps u keeps zero i r q h g a b e = refl
    path_keeps u keeps (suc n) i r q h g a b e =
        let l = steps_linked i r h e in
        let ih = path_keeps u keeps n r.parent l.source l.source l.held (keeps _ _ l.taken l.held) refl refl (omega (arith, linked_steps l)) in
        let c : path_of S u n q.parent ≡ path_of S t n r.parent = ap (path_of S u n) a ∙ ih in
        path_suc u n i g ∙ (λ d. c d ++ (b d ∷ [])) ∙ sym (path_suc t n i h)

    -- A record that stays in its slot stays the same entry.
    pub entry_keeps : (u : Table S) → Keeps t u → (i : ℕ) (r : Held S) → Holds t i r → Holds u i r → entry u i r ≡ entry t i r
    entry_keeps u keeps i r h g =
        let p : path_of S u r.key.steps i ≡ path_of S t r.key.steps i = path_keeps u keeps r.key.steps i r r h g refl refl refl in
        λ d. record { node = r.node; key = r.key; hints = r.hints; path = p d }

    -- Of an arrival at a record's node the key is not less.
    pub low_at : (i : ℕ) (r : Held S) → Holds t i r → (x : Entry S) → P x → r.node ≡ x.node → Le r.key x.key
    low_at i r h x p e =
        let f = inv.low x p in
        let same : f.0 ≡ i = inv.distinct f.0 i f.1 r f.2 h (f.3 ∙ sym e) in
        let q : f.1 ≡ r = holds_one t i (subst (λ (j : ℕ). Holds t j f.1) same f.2) h in
        subst (λ (z : Held S). Le z.key x.key) q f.4

    -- x is at a node whose key is less
    abbrev Passed : Entry S → Type 0
    Passed x = (i : ℕ) × (r : Held S) × Holds t i r × (r.node ≡ x.node) × Lt r.key x.key

    -- Arrivals at nodes whose keys are less change nothing.
    pub inv_more : (Q : Entry S → Type 0) → ((x : Entry S) → P x → Q x) → ((x : Entry S) → Q x → P x ⊎ Passed x) → ((x : Entry S) → Q x → Sent t x) → Inv m0 t Q
    inv_more Q to back sent = record {
      distinct = inv.distinct;
      begun = inv.begun;
      linked = inv.linked;
      gathers = gathers;
      proper = inv.proper;
      low = λ x q. low x (back x q);
      order = inv.order;
      sent = sent;
    }
      where
        old : (i : ℕ) (r : Held S) → Holds t i r → (x : Entry S) → At S (entry t i r) x → P x ⊎ Passed x → P x
        old i r h x m (inl p) = p
        old i r h x m (inr f) =
            let e : i ≡ f.0 = inv.distinct i f.0 r f.1 h f.2 (sym m.0 ∙ sym f.3) in
            let d : r ≡ f.1 = holds_one t f.0 (subst (λ (j : ℕ). Holds t j r) e h) f.2 in
            let k : x.key ≡ f.1.key = m.1 ∙ ap (λ (q : Held S). q.key) d in
            absurd (not_below f.1.key x.key f.4 (subst (λ (z : Key). Le z f.1.key) (sym k) (le_refl f.1.key)))

        gathers : (i : ℕ) (r : Held S) → Holds t i r → (i ≡ 0 → ⊥) → Gathers Q (entry t i r)
        gathers i r h n = let g = inv.gathers i r h n in record {
          conjoined = λ s. (λ a x q m. (g.conjoined s).0 a x (old i r h x m (back x q)) m, λ a. (g.conjoined s).1 (λ x p m. a x (to x p) m));
          first = λ x q m. g.first x (old i r h x m (back x q)) m;
        }

        low : (x : Entry S) → P x ⊎ Passed x → (i : ℕ) × (r : Held S) × Holds t i r × (r.node ≡ x.node) × Le r.key x.key
        low x (inl p) = inv.low x p
        low x (inr f) = (f.0, f.1, f.2, f.3, lt_le _ _ f.4)

    -- The invariant goes by which arrivals there are, not by how they are described.
    pub inv_map : (Q : Entry S → Type 0) → ((x : Entry S) → P x → Q x) → ((x : Entry S) → Q x → P x) → Inv m0 t Q
    inv_map Q to back = inv_more Q to (λ x q. inl (back x q)) (λ x q. inv.sent x (back x q))
