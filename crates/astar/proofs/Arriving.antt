-- One arrival: what it makes of the table, at a new node, with a lesser key, with the same key, or with a larger one.
use Rattle.std.proofs.Common.{Some}
use mathlib.Core.Path.{◌≡◌, refl, sym, ap, ◌∙◌, subst}
use Prim.Native.Nat.{ℕ, suc, ◌<◌}
use mathlib.Core.Bool.{true, false, ◌&&◌, true≢false}
use mathlib.Core.List.{List, [], ◌∷◌, ◌++◌}
use mathlib.Core.Logic.{◌⊎◌, inl, inr}
use Rattle.model.specs.exploration.Key.{Key, Le, Lt, First}
use Rattle.model.specs.exploration.System.{System, rank_of}
use Rattle.model.specs.exploration.Explore.{Entry}
use Rattle.model.proofs.exploration.KeyLaws.{le_refl, lt_le, le_lt_trans, not_below, rank_step, unrank_lt, first_trans}
use Rattle.model.proofs.exploration.Laws.{Laws}
use Rattle.model.proofs.exploration.Gather.{At}
use Rattle.astar.specs.Records.{Held, Table, rank_in, path_of}
use Rattle.model.proofs.Tests.{and_both}
use Rattle.astar.proofs.Slots.{Holds, Put}
use Rattle.astar.proofs.Invariant.{entry, Linked, Gathers, Inv, Keeps, linked_steps, path_suc, entry_keeps, inv_more}
use Rattle.astar.proofs.Kept.{put_inv}
use Rattle.astar.proofs.Sending.{Before, Expanding, put_keeps, put_back, arrival, before_old, before_new, before_cases}

module _ (S : System) (laws : Laws S) {m0 : S.Node} {t : Table S} {i : ℕ} {q : Held S} {c : ℕ} (x : Expanding S m0 t i q c) (b : c < S.actions)
    {n : S.Node} (leads : S.step q.node c ≡ Some n) where
  abbrev y : Entry S
  y = arrival S x b leads

  -- An arrival's rank is larger than every taken one.
  pub above_taken : (s : ℕ) (r : Held S) → Holds t s r → r.taken ≡ true → Lt (rank_in S r) (rank_of S n y.key)
  above_taken s r h k = le_lt_trans _ _ _ (x.top s r h k) (rank_step q.key (S.cost c) _ _ (laws.consistent q.node n c b leads))

  -- An arrival at the node of a taken slot has a larger key, so what is taken is final.
  pub closed_final : (s : ℕ) (r : Held S) → Holds t s r → r.taken ≡ true → r.node ≡ n → Lt r.key y.key
  closed_final s r h k e =
      unrank_lt r.key y.key (S.estimate n) (subst (λ (m : S.Node). Lt (rank_of S m r.key) (rank_of S n y.key)) e (above_taken s r h k))

  -- An arrival with a larger key than its node's changes nothing.
  pub larger_inv : (j : ℕ) (r : Held S) → Holds t j r → r.node ≡ n → Lt r.key y.key → Inv S m0 t (Before S t i (suc c))
  larger_inv j r held node larger = inv_more S x.inv (Before S t i (suc c)) (before_old S x b leads t (λ s p k h. h))
      (λ z k. go z (before_cases S x b leads t (λ s p k h. h) (λ s p k h. h) z k)) (λ z k. k.0)
    where
      go : (z : Entry S) → Before S t i c z ⊎ (z ≡ y) → Before S t i c z ⊎ ((j : ℕ) × (r : Held S) × Holds t j r × (r.node ≡ z.node) × Lt r.key z.key)
      go z (inl k) = inl k
      go z (inr e) = inr (j, r, held, node ∙ ap (λ (w : Entry S). w.node) (sym e), subst (λ (w : Entry S). Lt r.key w.key) (sym e) larger)

  -- ---- an arrival that changes a slot

  -- The slot j, which is not taken, becomes v, a record of the arrival's node and key.
  pub record Change (u : Table S) (j : ℕ) (v : Held S) : Type 0 where
    pub put : Put t u j v
    pub away : j ≡ 0 → ⊥
    pub is_open : v.taken ≡ false
    pub free : (r : Held S) → Holds t j r → r.taken ≡ true → ⊥
    pub node : v.node ≡ n
    pub key : v.key ≡ y.key
    pub place : (r : Held S) → Holds t j r → r.node ≡ n
    pub apart : (s : ℕ) (r : Held S) → Holds t s r → r.node ≡ n → s ≡ j
    pub linked : Linked S t v
    pub proper : S.Proper v.hints

  module _ {u : Table S} {j : ℕ} {v : Held S} (ch : Change u j v) where
    keeps : Keeps S t u
    keeps = put_keeps S ch.put ch.free

    into : (z : Entry S) → Before S u i (suc c) z → Before S t i c z ⊎ (z ≡ y)
    into = before_cases S x b leads u keeps (put_back S ch.put ch.is_open)

    -- The changed slot fits, if no arrival at its node has a lesser key and it gathers those of its key.
    pub placed : ((z : Entry S) → Before S t i c z → n ≡ z.node → Le y.key z.key) → Gathers S (Before S u i (suc c)) (entry S u j v)
        → Inv S m0 u (Before S u i (suc c))
    placed low gathers = put_inv S m0 x.inv (record {
      put = ch.put;
      keeps = keeps;
      apart = λ s r h e. ch.apart s r h (e ∙ ch.node);
      node = λ r h. ch.place r h ∙ sym ch.node;
      begins = λ e. absurd (ch.away e);
      linked = λ k. ch.linked;
      gathers = λ k. gathers;
      proper = ch.proper;
      low = λ z k e. subst (λ (d : Key). Le d z.key) (sym ch.key) (low_go z (into z k) (sym ch.node ∙ e));
      above = λ o s r h k. subst (Le (rank_in S r)) (λ z. rank_of S (sym ch.node z) (sym ch.key z)) (lt_le _ _ (above_taken s r h k));
      below = λ k. absurd (true≢false (sym k ∙ ch.is_open));
      fresh = λ z k. fresh_go z (into z k);
      more = before_old S x b leads u keeps;
      sent = λ z k. k.0;
    })
      where
        low_go : (z : Entry S) → Before S t i c z ⊎ (z ≡ y) → n ≡ z.node → Le y.key z.key
        low_go z (inl k) e = low z k e
        low_go z (inr d) e = subst (λ (w : Entry S). Le y.key w.key) (sym d) (le_refl y.key)

        fresh_go : (z : Entry S) → Before S t i c z ⊎ (z ≡ y) → Before S t i c z ⊎ (v.node ≡ z.node)
        fresh_go z (inl k) = inl k
        fresh_go z (inr d) = inr (ch.node ∙ ap (λ (w : Entry S). w.node) (sym d))

    -- The path of the changed slot goes by its parent as it was.
    pub placed_path : (entry S u j v).path ≡ path_of S t ch.linked.source.key.steps v.parent ++ (v.action ∷ [])
    placed_path =
        let l = ch.linked in
        let p : path_of S u l.source.key.steps v.parent ≡ path_of S t l.source.key.steps v.parent = ap (λ (e : Entry S). e.path) (entry_keeps S x.inv u keeps v.parent l.source l.held (keeps _ _ l.taken l.held)) in
        ap (λ (d : ℕ). path_of S u d j) (linked_steps S l) ∙ path_suc S u l.source.key.steps j ch.put.new ∙ ap (λ (z : List ℕ). z ++ (v.action ∷ [])) p

    -- A slot that is the arrival alone gathers it.
    pub alone : entry S u j v ≡ y → ((z : Entry S) → Before S t i c z → n ≡ z.node → Lt y.key z.key) → Gathers S (Before S u i (suc c)) (entry S u j v)
    alone e high = subst (Gathers S (Before S u i (suc c))) (sym e) (record {
      conjoined = λ σ. (λ a z k m. ap (λ (w : Entry S). S.true_at w.hints σ) (it z m (into z k)) ∙ a, λ a. a y (before_new S x b leads u keeps) (refl, refl));
      first = λ z k m. inl (ap (λ (w : Entry S). w.path) (sym (it z m (into z k))));
    })
      where
        it : (z : Entry S) → At S y z → Before S t i c z ⊎ (z ≡ y) → z ≡ y
        it z m (inl k) = absurd (not_below y.key z.key (high z k (sym m.0)) (subst (λ (d : Key). Le d y.key) (sym m.1) (le_refl y.key)))
        it z m (inr d) = d

    -- A slot that is made of one that gathers and of the arrival, both of the same node and key, gathers all.
    pub together : (r : Held S) → Gathers S (Before S t i c) (entry S t j r) → r.node ≡ v.node → r.key ≡ v.key → v.hints ≡ S.meet r.hints y.hints
        → First (entry S u j v).path (entry S t j r).path → First (entry S u j v).path y.path → Gathers S (Before S u i (suc c)) (entry S u j v)
    together r g en ek eh f1 f2 = record {
      conjoined = λ σ. (λ a z k m. each σ a z m (into z k), λ a. join σ ((g.conjoined σ).1 (λ z k m. a z (before_old S x b leads u keeps z k) (m.0 ∙ en, m.1 ∙ ek))) (a y (before_new S x b leads u keeps) (sym ch.node, sym ch.key)));
      first = λ z k m. first z m (into z k);
    }
      where
        is : (σ : S.Setting) → S.true_at v.hints σ ≡ (S.true_at r.hints σ && S.true_at y.hints σ)
        is σ = ap (λ (h : S.Hints). S.true_at h σ) eh ∙ laws.meet_true r.hints y.hints σ

        join : (σ : S.Setting) → S.true_at r.hints σ ≡ true → S.true_at y.hints σ ≡ true → S.true_at v.hints σ ≡ true
        join σ k l = is σ ∙ (and_both _ _).1 (k, l)

        both : (σ : S.Setting) → S.true_at v.hints σ ≡ true → (S.true_at r.hints σ ≡ true) × (S.true_at y.hints σ ≡ true)
        both σ a = (and_both (S.true_at r.hints σ) (S.true_at y.hints σ)).0 (sym (is σ) ∙ a)

        each : (σ : S.Setting) → S.true_at v.hints σ ≡ true → (z : Entry S) → At S (entry S u j v) z → Before S t i c z ⊎ (z ≡ y) → S.true_at z.hints σ ≡ true
        each σ a z m (inl k) = (g.conjoined σ).0 (both σ a).0 z k (m.0 ∙ sym en, m.1 ∙ sym ek)
        each σ a z m (inr d) = ap (λ (w : Entry S). S.true_at w.hints σ) d ∙ (both σ a).1

        first : (z : Entry S) → At S (entry S u j v) z → Before S t i c z ⊎ (z ≡ y) → First (entry S u j v).path z.path
        first z m (inl k) = first_trans _ _ _ f1 (g.first z k (m.0 ∙ sym en, m.1 ∙ sym ek))
        first z m (inr d) = subst (λ (w : Entry S). First (entry S u j v).path w.path) (sym d) f2
