-- What `answer` says of a list of entries whose paths are first: the best of the uncut goal entries, or that a node was cut, or none.
use Rattle.std.proofs.Common.{Option, None, Some}
use mathlib.Core.Path.{◌≡◌, refl, sym, ap, ◌∙◌, subst}
use Prim.Native.Nat.{ℕ}
use mathlib.Core.Bool.{Bool, true, false, true≢false}
use mathlib.Core.List.Memᴰ.{head as here, tail as there}
use mathlib.Core.List.{List, [], ◌∷◌, Memᴰ}
use mathlib.Core.Logic.{inl, inr}
use lib.ListN.{length}
use Rattle.model.specs.exploration.Key.{Key, Le, Lt, less, earlier, First}
use Rattle.model.specs.exploration.System.{System}
use Rattle.model.specs.exploration.Equations.{Uncut, Path, Plan, Answers, with_plan, some_cut, none_cut}
use Rattle.model.specs.exploration.Explore.{Entry, Of, is_cut, better, best_goal, has_cut, answer}
use Rattle.model.proofs.exploration.KeyLaws.{le_refl, le_trans, lt_le, not_below, le_antisym, less_yes, less_no, first_total, first_trans}
use Rattle.model.proofs.exploration.Each.{All, all_map, all_at, all_mem}
use Rattle.model.proofs.exploration.Gather.{Sized}
use Rattle.model.proofs.exploration.Paths.{path_end, path_steps, path_cast}

module _ (S : System) where
  -- an uncut entry at a goal
  abbrev AtGoal : Entry S → Type 0
  AtGoal e = (S.goal e.node ≡ true) × (is_cut S e ≡ false)

  -- of less key, or of the same key and with the first path
  abbrev Beats : Entry S → Entry S → Type 0
  Beats x y = Le x.key y.key × (x.key ≡ y.key → First x.path y.path)

  beats_trans : (x y z : Entry S) → Beats x y → Beats y z → Beats x z
  beats_trans x y z a b = (le_trans _ _ _ a.0 b.0, λ e. first_trans _ _ _ (a.1 (xy e)) (b.1 (sym (xy e) ∙ e)))
    where
      xy : x.key ≡ z.key → x.key ≡ y.key
      xy e = le_antisym _ _ a.0 (subst (Le y.key) (sym e) b.0)

  lower_beats : (x y : Entry S) → Lt x.key y.key → Beats x y
  lower_beats x y l = (lt_le _ _ l, λ e. absurd (not_below x.key y.key l (subst (λ (k : Key). Le k x.key) e (le_refl x.key))))

  -- what `best_goal` has of a list
  abbrev BestOf : List (Entry S) → Option (Entry S) → Type 0
  BestOf L None = All (λ y. AtGoal y → ⊥) L
  BestOf L (Some e) = Memᴰ e L × AtGoal e × All (λ y. AtGoal y → Beats e y) L

  skip : (x : Entry S) (L : List (Entry S)) (o : Option (Entry S)) → (AtGoal x → ⊥) → BestOf L o → BestOf (x ∷ L) o
  skip x L None n b = (n, b)
  skip x L (Some y) n b = (there b.0, b.1, (λ g. absurd (n g), b.2))

  better_best : (x : Entry S) (L : List (Entry S)) (o : Option (Entry S)) → AtGoal x → Sized S x → All (λ y. AtGoal y → Sized S y) L → BestOf L o → BestOf (x ∷ L) (better S x o)
  unfolding better
  better_best x L None g s z b = (here refl, g, ((λ h. (le_refl _, λ e. inl refl)), all_map _ _ (λ y n h. absurd (n h)) L b))
  better_best x L (Some y) g s z b = go (less x.key y.key) (less y.key x.key) (earlier x.path y.path) refl refl refl
    where
      x_wins : Beats x y → BestOf (x ∷ L) (Some x)
      x_wins w = (here refl, g, ((λ h. (le_refl _, λ e. inl refl)), all_map _ _ (λ v f h. beats_trans x y v w (f h)) L b.2))

      y_wins : Beats y x → BestOf (x ∷ L) (Some y)
      y_wins w = (there b.0, b.1, ((λ h. w), b.2))

      lengths : y.key ≡ x.key → length y.path ≡ length x.path
      lengths e = all_at _ L b.0 z b.1 ∙ ap (λ (k : Key). k.steps) e ∙ sym s

      go : (p q r : Bool) → less x.key y.key ≡ p → less y.key x.key ≡ q → earlier x.path y.path ≡ r → BestOf (x ∷ L) (better S x (Some y))
      go true q r e f h = rw (e, better) (x_wins (lower_beats x y (less_yes _ _ e)))
      go false true r e f h = rw (e, f, better) (y_wins (lower_beats y x (less_yes _ _ f)))
      go false false true e f h = rw (e, f, h, better) (x_wins (less_no _ _ f, λ k. inr h))
      go false false false e f h = rw (e, f, h, better) (y_wins (less_no _ _ e, λ k. first_total y.path x.path (lengths k) h))

  best_goal_lem : (L : List (Entry S)) → All (λ y. AtGoal y → Sized S y) L → BestOf L (best_goal S L)
  unfolding best_goal
  best_goal_lem [] z = tt
  best_goal_lem (x ∷ L) z = go (S.goal x.node) (is_cut S x) refl refl (best_goal_lem L z.1)
    where
      go : (a b : Bool) → S.goal x.node ≡ a → is_cut S x ≡ b → BestOf L (best_goal S L) → BestOf (x ∷ L) (best_goal S (x ∷ L))
      go true true e f ih = rw (e, f, best_goal) (skip x L (best_goal S L) (λ g. true≢false (sym f ∙ g.1)) ih)
      go true false e f ih = rw (e, f, best_goal) (better_best x L (best_goal S L) (e, f) (z.0 (e, f)) z.1 ih)
      go false b e f ih = rw (e, best_goal) (skip x L (best_goal S L) (λ g. true≢false (sym g.0 ∙ e)) ih)

  -- ---- cut entries

  some_is_cut : (L : List (Entry S)) → has_cut S L ≡ true → (e : Entry S) × Memᴰ e L × (is_cut S e ≡ true)
  unfolding has_cut
  some_is_cut [] h = absurd (true≢false (sym h))
  some_is_cut (x ∷ L) h = go (is_cut S x) refl (some_is_cut L)
    where
      go : (a : Bool) → is_cut S x ≡ a → (has_cut S L ≡ true → (e : Entry S) × Memᴰ e L × (is_cut S e ≡ true)) → (e : Entry S) × Memᴰ e (x ∷ L) × (is_cut S e ≡ true)
      go true e ih = (x, here refl, e)
      go false e ih = let r = ih (rw (e, has_cut) at h) in (r.0, there r.1, r.2)

  none_is_cut : (L : List (Entry S)) → has_cut S L ≡ false → All (λ e. is_cut S e ≡ false) L
  unfolding has_cut
  none_is_cut [] h = tt
  none_is_cut (x ∷ L) h = go (is_cut S x) refl (none_is_cut L)
    where
      go : (a : Bool) → is_cut S x ≡ a → (has_cut S L ≡ false → All (λ e. is_cut S e ≡ false) L) → All (λ e. is_cut S e ≡ false) (x ∷ L)
      go true e ih = absurd (true≢false (rw (e, has_cut) at h))
      go false e ih = (e, ih (rw (e, has_cut) at h))

  -- ---- the answer

  module _ (M : List (Entry S)) (paths : (e : Entry S) → Memᴰ e M → is_cut S e ≡ false → Path S (Of S M) e.path e.node e.key)
      (firsts : (e : Entry S) → Memᴰ e M → (q : List ℕ) → Path S (Of S M) q e.node e.key → First e.path q) where
    -- the entry of an uncut goal node
    goal_entry : {n : S.Node} {k : Key} (u : Uncut S (Of S M) n k) → S.goal n ≡ true → AtGoal u.1.0
    goal_entry u g = (ap S.goal u.1.2 ∙ g, ap S.cut u.1.4 ∙ u.2)

    module _ (e : Entry S) (best : BestOf M (Some e)) where
      best_least : {n : S.Node} {k : Key} → Uncut S (Of S M) n k → S.goal n ≡ true → Le e.key k
      best_least u g = subst (Le e.key) u.1.3 (all_at _ M u.1.1 best.2 (goal_entry u g)).0

      best_first : {q : List ℕ} {n : S.Node} → Path S (Of S M) q n e.key → S.goal n ≡ true → First e.path q
      best_first {q} r g =
          let u = path_end S r in
          let y = u.1.0 in
          let f : First e.path y.path = (all_at _ M u.1.1 best.2 (goal_entry u g)).1 (sym u.1.3) in
          first_trans _ _ _ f (firsts y u.1.1 q (path_cast S refl (sym u.1.2) (sym u.1.3) r))

      plan_of_best : Plan S (Of S M) e.key.cost e.path
      plan_of_best = record {
        node = e.node;
        key = e.key;
        cost_is = refl;
        path = paths e best.0 best.1.1;
        goal = best.1.0;
        least = best_least;
        first = best_first;
      }

    -- `answer` of the list answers as its entries do.
    pub answer_answers : Answers S (Of S M) (answer S M)
    unfolding answer
    answer_answers = go (best_goal S M) (has_cut S M) refl refl (best_goal_lem M (all_mem _ M (λ y m g. sym (path_steps S (paths y m g.1)))))
      where
        go : (o : Option (Entry S)) (b : Bool) → best_goal S M ≡ o → has_cut S M ≡ b → BestOf M (best_goal S M) → Answers S (Of S M) (answer S M)
        go (Some e) b p q k = rw (p, answer) (with_plan (plan_of_best e (rw p at k)))
        go None b p q k = no_goal_lem b q (rw p at k)
          where
            no_goal_lem : (b : Bool) → has_cut S M ≡ b → All (λ y. AtGoal y → ⊥) M → Answers S (Of S M) (answer S M)
            no_goal_lem true q n = let c = some_is_cut M q in rw (p, q, answer) (some_cut (λ m k u g. all_at _ M u.1.1 n (goal_entry u g)) (c.0.node, c.0.key, c.0.hints, (c.0, c.1, refl, refl, refl), c.2))
            no_goal_lem false q n = rw (p, q, answer) (none_cut (λ m k u g. all_at _ M u.1.1 n (goal_entry u g))
                (λ c. true≢false (sym c.4 ∙ ap S.cut (sym c.3.4) ∙ all_at _ M c.3.1 (none_is_cut M q))))
