-- What `explore` keeps true of the closed entries: keys are least, and each entry but the start's is gathered from all arrivals at it.
use mathlib.Core.Path.{◌≡◌, refl, sym, ◌∙◌, subst}
use Prim.Native.Nat.{ℕ, zero, suc}
use native.Mathlib.Omega.{arith}
use mathlib.Core.Bool.{Bool, true, false}
use mathlib.Core.List.Memᴰ
use mathlib.Core.List.Memᴰ.{head as here, tail as there}
use mathlib.Core.List.{List, [], ◌∷◌, ◌++◌, Memᴰ}
use mathlib.Core.Logic.{◌⊎◌, inl, inr, ◌↔◌}
use lib.ListN.{length-append}
use Rattle.model.specs.exploration.Key.{Key, zero_key, extend, Le, Lt, First}
use Rattle.model.specs.exploration.System.{System}
use Rattle.model.specs.exploration.Explore.{Entry, is_cut, moves, arrivals, known, frontier, least, gather, Explored, all_of, explore, start_entry}
use Rattle.model.proofs.exploration.KeyLaws.{le_refl, le_trans, lt_le, le_lt_trans, not_below, extend_lt}
use Rattle.model.proofs.exploration.Laws.{Laws}
use Rattle.model.proofs.exploration.Each.{All, all_map, all_map₂, all_append, all_right, all_at, all_mem}
use Rattle.model.proofs.exploration.Arrivals.{To, moves_all, arrivals_all, New, new_tail, fresh_from, fresh_to, least_mem, least_le}
use Rattle.model.proofs.exploration.Gather.{At, Fit, gather_same, gather_fit, gather_true, gather_path, gather_first}

module _ (S : System) where
  -- The arrival x, seen from the closed entries: an entry at its node has no larger key; if there is none, no entry has.
  abbrev pub Good : List (Entry S) → Entry S → Type 0
  Good L x = All (λ y. S.same x.node y.node ≡ true → Le y.key x.key) L × (New S L x → All (λ y. Le y.key x.key) L)

  -- The entry is made of all arrivals of its node and key.
  pub record Gathered (xs : List (Entry S)) (e : Entry S) : Type 0 where
    pub from : (x : Entry S) × Memᴰ x xs × At S e x × (e.path ≡ x.path)
    pub conjoined : (s : S.Setting) → (S.true_at e.hints s ≡ true) ↔ All (λ x. At S e x → S.true_at x.hints s ≡ true) xs
    pub first : All (λ x. At S e x → First e.path x.path) xs

  abbrev pub Distinct : List (Entry S) → Type 0
  Distinct [] = Unit {0}
  Distinct (e ∷ L) = New S L e × Distinct L

  -- Every arrival is at a node of the list.
  abbrev pub Complete : List (Entry S) → Type 0
  Complete L = All (λ x. New S L x → ⊥) (arrivals S L)

  pub record Inv (s0 : Entry S) (L : List (Entry S)) : Type 0 where
    pub good : All (Good L) (arrivals S L)
    pub founded : All (λ e. (e ≡ s0) ⊎ Gathered (arrivals S L) e) L
    pub distinct : Distinct L
    pub begun : Memᴰ s0 L
    pub fit : All (Fit S) L

  moves_later : (e : Entry S) → All (λ x. Lt e.key x.key) (moves S e S.actions 0)
  moves_later e = moves_all S _ e (λ n i b s. extend_lt e.key (S.cost i)) S.actions 0 (omega arith)

  -- Arrivals of larger keys add nothing to an entry.
  grow : (e : Entry S) (ys xs : List (Entry S)) → All (λ y. Lt e.key y.key) ys → Gathered xs e → Gathered (ys ++ xs) e
  grow e ys xs h f = record {
    from = (f.from.0, Memᴰ.append_right ys f.from.1, f.from.2, f.from.3);
    conjoined = λ s. (
      λ t. all_append _ ys xs (all_map _ _ (λ y lt q. absurd (other y lt q)) ys h) ((f.conjoined s).0 t),
      λ k. (f.conjoined s).1 (all_right _ ys xs k),
    );
    first = all_append _ ys xs (all_map _ _ (λ y lt q. absurd (other y lt q)) ys h) f.first;
  }
    where
      other : (y : Entry S) → Lt e.key y.key → At S e y → ⊥
      other y lt q = not_below e.key y.key lt (subst (λ (k : Key). Le k e.key) (sym q.1) (le_refl e.key))

  module _ (laws : Laws S) (s0 : Entry S) where
    -- ---- one more entry

    module _ (L : List (Entry S)) (c : Entry S) (inv : Inv s0 L) (new : New S L c)
        (low : All (λ x. New S L x → Le c.key x.key) (arrivals S L)) (high : All (λ y. Le y.key c.key) L)
        (base : Gathered (arrivals S L) c) (fit : Fit S c) where
      good_old : (x : Entry S) → Good L x → (New S L x → Le c.key x.key) → Good (c ∷ L) x
      good_old x g l = (
        (λ t. l (subst (λ (m : S.Node). known S m L ≡ false) (sym (laws.same_eq _ _ t)) new), g.0),
        λ n. (l (new_tail S c L x n), g.1 (new_tail S c L x n)),
      )

      good_new : (x : Entry S) → Lt c.key x.key → Good (c ∷ L) x
      good_new x lt =
          let l = lt_le _ _ lt in
          let a : All (λ y. Le y.key x.key) (c ∷ L) = (l, all_map _ _ (λ y h. le_trans _ _ _ h l) L high) in
          (all_map _ _ (λ y h t. h) (c ∷ L) a, λ n. a)

      old : All (Good (c ∷ L)) (arrivals S L)
      old = all_map₂ _ _ _ good_old (arrivals S L) inv.good low

      abbrev Outs : List (Entry S)
      Outs = moves S c S.actions 0

      inv_step : Inv s0 (c ∷ L)
      unfolding arrivals
      inv_step = record {
        good = good_go (is_cut S c) refl;
        founded = founded_go (is_cut S c) refl;
        distinct = (new, inv.distinct);
        begun = there inv.begun;
        fit = (fit, inv.fit);
      }
        where
          good_go : (a : Bool) → is_cut S c ≡ a → All (Good (c ∷ L)) (arrivals S (c ∷ L))
          good_go true e = rw (e, arrivals) old
          good_go false e = rw (e, arrivals) (all_append _ Outs (arrivals S L) (all_map _ _ good_new Outs (moves_later c)) old)

          later : (e : Entry S) → Le e.key c.key → All (λ y. Lt e.key y.key) Outs
          later e l = all_map _ _ (λ y lt. le_lt_trans _ _ _ l lt) Outs (moves_later c)

          more : (e : Entry S) → Le e.key c.key → (e ≡ s0) ⊎ Gathered (arrivals S L) e → (e ≡ s0) ⊎ Gathered (Outs ++ arrivals S L) e
          more e l (inl p) = inl p
          more e l (inr f) = inr (grow e Outs (arrivals S L) (later e l) f)

          founded_go : (a : Bool) → is_cut S c ≡ a → All (λ e. (e ≡ s0) ⊎ Gathered (arrivals S (c ∷ L)) e) (c ∷ L)
          founded_go true e =
              let p : arrivals S L ≡ arrivals S (c ∷ L) = rw (e, arrivals) refl in
              subst (λ (ys : List (Entry S)). All (λ z. (z ≡ s0) ⊎ Gathered ys z) (c ∷ L)) p (inr base, inv.founded)
          founded_go false e =
              let p : Outs ++ arrivals S L ≡ arrivals S (c ∷ L) = rw (e, arrivals) refl in
              subst (λ (ys : List (Entry S)). All (λ z. (z ≡ s0) ⊎ Gathered ys z) (c ∷ L)) p
              (more c (le_refl _) (inr base), all_map₂ _ _ _ more L high inv.founded)

    -- ---- the next entry

    to_fit : (e : Entry S) (n : S.Node) (i : ℕ) → Fit S e → Fit S (To S e n i)
    unfolding extend
    to_fit e n i f = (laws.carry_proper e.hints n i f.0, simp length-append (omega (arith, f.1)))

    arrivals_fit : (L : List (Entry S)) → All (Fit S) L → All (Fit S) (arrivals S L)
    arrivals_fit L h = arrivals_all S _ _ (λ e n i f c b s. to_fit e n i f) L h

    module _ (L : List (Entry S)) (inv : Inv s0 L) (x : Entry S) (xs : List (Entry S)) (front : frontier S L ≡ x ∷ xs) where
      abbrev l : Entry S
      l = least S x xs

      abbrev c : Entry S
      c = gather S l (x ∷ xs)

      -- What holds of every new arrival holds of each of the frontier, and the reverse.
      into : (P : Entry S → Type 0) → All (λ z. New S L z → P z) (arrivals S L) → All P (x ∷ xs)
      unfolding frontier
      into P h = subst (All P) front (fresh_to S P L (arrivals S L) h)

      out_of : (P : Entry S → Type 0) → All P (x ∷ xs) → All (λ z. New S L z → P z) (arrivals S L)
      unfolding frontier
      out_of P h = fresh_from S P L (arrivals S L) (subst (All P) (sym front) h)

      at_least : (P : Entry S → Type 0) → All (λ z. New S L z → P z) (arrivals S L) → P l
      at_least P h = all_at P (x ∷ xs) (least_mem S x xs) (into P h)

      same : At S l c
      same = gather_same S l (x ∷ xs)

      c_new : New S L c
      c_new = subst (λ (m : S.Node). known S m L ≡ false) (sym same.0) (at_least (New S L) (all_mem _ (arrivals S L) (λ y m n. n)))

      c_low : All (λ z. New S L z → Le c.key z.key) (arrivals S L)
      c_low = subst (λ (k : Key). All (λ z. New S L z → Le k z.key) (arrivals S L)) (sym same.1) (out_of _ (least_le S x xs))

      c_high : All (λ y. Le y.key c.key) L
      c_high = subst (λ (k : Key). All (λ y. Le y.key k) L) (sym same.1) (at_least (λ z. All (λ y. Le y.key z.key) L) (all_map _ _ (λ z g. g.1) (arrivals S L) inv.good))

      at_c : (z : Entry S) → At S c z → New S L z × At S l z
      at_c z q = (subst (λ (m : S.Node). known S m L ≡ false) (sym q.0) c_new, (q.0 ∙ same.0, q.1 ∙ same.1))

      at_l : (z : Entry S) → At S l z → At S c z
      at_l z q = (q.0 ∙ sym same.0, q.1 ∙ sym same.1)

      -- What holds of the frontier's entries like l holds of all arrivals like c.
      like_c : (P : Entry S → Type 0) → All (λ z. At S l z → P z) (x ∷ xs) → All (λ z. At S c z → P z) (arrivals S L)
      like_c P h = all_map _ _ (λ z k q. k (at_c z q).0 (at_c z q).1) (arrivals S L) (out_of _ h)

      fits : All (Fit S) (x ∷ xs)
      fits = into _ (all_map _ _ (λ z f n. f) (arrivals S L) (arrivals_fit L inv.fit))

      l_fit : Fit S l
      l_fit = all_at (Fit S) (x ∷ xs) (least_mem S x xs) fits

      -- an arrival like c, with the path p
      abbrev FromPath : List ℕ → Type 0
      FromPath p = (z : Entry S) × Memᴰ z (arrivals S L) × At S c z × (p ≡ z.path)

      c_from : FromPath c.path
      c_from =
          let k : All (λ z. At S l z → FromPath z.path) (x ∷ xs) = into _ (all_mem _ (arrivals S L) (λ z m n q. (z, m, at_l z q, refl))) in
          gather_path S laws FromPath l (x ∷ xs) (all_at (λ z. At S l z → FromPath z.path) (x ∷ xs) (least_mem S x xs) k (refl, refl)) k

      c_conjoined : (s : S.Setting) → (S.true_at c.hints s ≡ true) ↔ All (λ z. At S c z → S.true_at z.hints s ≡ true) (arrivals S L)
      c_conjoined s = (
        λ t. like_c _ ((gather_true S laws s l (x ∷ xs)).0 t).1,
        λ h.
            let k : All (λ z. At S l z → S.true_at z.hints s ≡ true) (x ∷ xs) = into _ (all_map _ _ (λ z f n q. f (at_l z q)) (arrivals S L) h) in
            (gather_true S laws s l (x ∷ xs)).1 (all_at (λ z. At S l z → S.true_at z.hints s ≡ true) (x ∷ xs) (least_mem S x xs) k (refl, refl), k),
      )

      c_gathered : Gathered (arrivals S L) c
      c_gathered = record { from = c_from; conjoined = c_conjoined; first = like_c _ (gather_first S laws l (x ∷ xs) l_fit fits).1 }

      pub inv_next : Inv s0 (c ∷ L)
      inv_next = inv_step L c inv c_new c_low c_high c_gathered (gather_fit S laws l (x ∷ xs) l_fit fits)

    -- Where `explore` ends, the invariant holds and every arrival is at a node of the list.
    pub explore_inv : (n : ℕ) (L M : List (Entry S)) → Inv s0 L → explore S n L ≡ all_of M → Inv s0 M × Complete M
    unfolding explore frontier
    explore_inv zero L M h r = let z : ◌≡◌ {A = ℕ} 0 1 = cc in absurd (omega arith)
    explore_inv (suc n) L M h r = go (frontier S L) refl (λ K k q. explore_inv n K M k q) r
      where
        go : (f : List (Entry S)) → frontier S L ≡ f → ((K : List (Entry S)) → Inv s0 K → explore S n K ≡ all_of M → Inv s0 M × Complete M) → explore S (suc n) L ≡ all_of M → Inv s0 M × Complete M
        go [] e ih q =
            let p : ◌≡◌ {A = Explored S} (all_of L) (all_of M) = rw (e, explore) at q in
            let s : L ≡ M = cc in
            subst (λ (K : List (Entry S)). Inv s0 K × Complete K) s (h, fresh_from S (λ z. ⊥) L (arrivals S L) (subst (All (λ z. ⊥)) (sym e) tt))
        go (x ∷ xs) e ih q = ih (gather S (least S x xs) (x ∷ xs) ∷ L) (inv_next L h x xs e) (rw (e, explore) at q)

  -- The start entry alone satisfies the invariant.
  pub start_inv : Laws S → (m0 : S.Node) → Inv (start_entry S m0) (start_entry S m0 ∷ [])
  unfolding arrivals known start_entry zero_key
  start_inv laws m0 = record {
    good = go (is_cut S s0) refl;
    founded = (inl refl, tt);
    distinct = (refl, tt);
    begun = here refl;
    fit = ((laws.start_proper, refl), tt);
  }
    where
      s0 : Entry S
      s0 = start_entry S m0

      good_one : (x : Entry S) → Lt s0.key x.key → Good (s0 ∷ []) x
      good_one x l = ((λ t. lt_le _ _ l, tt), λ n. (lt_le _ _ l, tt))

      go : (a : Bool) → is_cut S s0 ≡ a → All (Good (s0 ∷ [])) (arrivals S (s0 ∷ []))
      go true e = rw (e, arrivals) tt
      go false e = rw (e, arrivals) (all_append _ (moves S s0 S.actions 0) [] (all_map _ _ good_one (moves S s0 S.actions 0) (moves_later s0)) tt)
