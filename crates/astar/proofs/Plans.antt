-- A goal whose key is the least open rank is the answer.
use Rattle.std.proofs.Common.{Some}
use mathlib.Core.Path.{◌≡◌, refl, sym, ap, ◌∙◌, subst}
use Prim.Native.Nat.{ℕ, zero, suc}
use native.Mathlib.Omega.{arith}
use mathlib.Core.Bool.{Bool, true, false}
use mathlib.Core.List.{List, [], ◌∷◌, ◌++◌}
use mathlib.Core.Logic.{inl}
use lib.ListN.{length}
use Rattle.model.specs.exploration.Key.{Key, zero_key, Le, First}
use Rattle.model.specs.exploration.System.{System, rank_of}
use Rattle.model.specs.exploration.Equations.{up_to, plan, Entries, Starts, Explores, Uncut, Path, begin, onward, Plan}
use Rattle.model.specs.exploration.Explore.{solve}
use Rattle.model.proofs.exploration.Stepping.{arrives_by}
use Rattle.model.proofs.exploration.KeyLaws.{le_refl, le_trans, lt_le, extend_not_zero, rank_zero, first_trans, first_snoc}
use Rattle.model.proofs.exploration.Laws.{Laws, Finite}
use Rattle.model.proofs.exploration.Paths.{path_end, path_steps, path_cast}
use Rattle.model.proofs.exploration.Answered.{plan_is}
use Rattle.astar.specs.Records.{Held, Table, rank_in, path_of}
use Rattle.astar.specs.Search.{first_goal}
use Rattle.astar.proofs.Slots.{Holds, holds_one}
use Rattle.astar.proofs.Goals.{AtGoal, goal_some}
use Rattle.astar.proofs.Invariant.{Sent, Inv, Barren, linked_steps, path_suc, steps_linked, zero_slot, path_length, sized, linked_rank}
use Rattle.astar.proofs.Solution.{Up, as_sent, as_sent_key, was_made, start_node, up_solves}

module _ (S : System) (laws : Laws S) {m0 : S.Node} (starts : Starts S m0) {t : Table S} (inv : Inv S m0 t (Sent S t)) (k : Key)
    (past : (i : ℕ) (r : Held S) → Holds t i r → r.taken ≡ false → Le k (rank_in S r)) (begins : Le (rank_of S m0 zero_key) k) where
  -- the records up to rank k
  abbrev L : Entries S
  L = Up S t (up_to k)

  beyond : (i : ℕ) (r : Held S) → Holds t i r → r.taken ≡ false → (j : Key) → Le j k → Le j (rank_in S r)
  beyond i r h o j l = le_trans j k (rank_in S r) l (past i r h o)

  solves : Explores S (up_to k) L
  solves = up_solves S laws starts inv (up_to k) beyond begins (λ x z w. z)

  -- ---- the path of an uncut record is a path

  uncut_path : (n i : ℕ) (r : Held S) → Holds t i r → r.key.steps ≡ n → S.cut r.hints ≡ false → Le (rank_in S r) k
      → Path S L (path_of S t n i) r.node r.key
  unfolding path_of
  uncut_path zero i r h e c l =
      let at0 : Holds t 0 r = subst (λ (z : ℕ). Holds t z r) (zero_slot S inv i r h e) h in
      let key : r.key ≡ zero_key = ap (λ (z : Held S). z.key) (holds_one t 0 at0 inv.begun.1) ∙ inv.begun.2.1 in
      path_cast S refl refl (sym key)
      (begin (start_node S laws starts inv (up_to k) beyond begins (λ x z w. z) r at0 refl)
      (r.hints, (0, r, at0, refl, key, refl, subst (λ (z : Key). Le (rank_of S r.node z) k) key l), c))
  uncut_path (suc n) i r h e c l =
      let d = steps_linked S inv i r h e in
      let within = le_trans _ _ _ (lt_le _ _ (linked_rank S laws d)) l in
      let p = uncut_path n r.parent d.source d.held (omega (arith, linked_steps S d)) d.uncut within in
      path_cast S (sym (path_suc S t n i h)) refl (sym d.key_is)
      (onward r.action p d.in_range d.leads
      (r.hints, (i, r, h, refl, d.key_is, refl, subst (λ (z : Key). Le (rank_of S r.node z) k) d.key_is l), c))

  -- ---- and the first of its node and key

  first_path : {q : List ℕ} {n : S.Node} {j : Key} → Path S L q n j → (i : ℕ) (r : Held S) → Holds t i r → r.node ≡ n → r.key ≡ j → First (path_of S t r.key.steps i) q
  unfolding path_of zero_key
  first_path (begin s u) i r h a e = inl (ap (λ (z : Key). path_of S t z.steps i) e)
  first_path (onward {p = p} {m = m} {n = n} {k = j} a q b s u) i r h en ek = go (path_end S q) (λ d o g e f. first_path q d o g e f)
    where
      away : i ≡ 0 → ⊥
      away z = extend_not_zero j (S.cost a) (sym ek ∙ ap (λ (w : Held S). w.key) (holds_one t 0 (subst (λ (w : ℕ). Holds t w r) z h) inv.begun.1) ∙ inv.begun.2.1)

      go : Uncut S L m j → ((d : ℕ) (o : Held S) → Holds t d o → o.node ≡ m → o.key ≡ j → First (path_of S t o.key.steps d) p) → First (path_of S t r.key.steps i) (p ++ (a ∷ []))
      go v ih =
          let x = arrives_by S L a v.1 b v.2 s in
          let sent = was_made S laws starts inv (up_to k) beyond begins (λ y z w. z) x u.1.6 in
          let f = (inv.gathers i r h away).first (as_sent S laws starts inv (up_to k) beyond begins (λ y z w. z) x) sent
          (sym en, as_sent_key S laws starts inv (up_to k) beyond begins (λ y z w. z) x ∙ sym ek) in
          let o = v.1.1 in
          let l : length (path_of S t o.key.steps v.1.0) ≡ length p = path_length S inv o.key.steps v.1.0 o v.1.2 refl ∙ ap (λ (z : Key). z.steps) v.1.4 ∙ path_steps S q in
          first_trans _ _ _ f (first_snoc _ p a l (ih v.1.0 o v.1.2 v.1.3 v.1.4))

  -- ---- the answer

  module _ (barren : Barren S t) {p : List ℕ} (found : first_goal S t k t 0 ≡ Some p) where
    abbrev best : ((i : ℕ) × (r : Held S) × Holds t i r × AtGoal S k r × (p ≡ path_of S t k.steps i)) × ((i : ℕ) (r : Held S) → Holds t i r → AtGoal S k r → First p (path_of S t k.steps i))
    best = goal_some S k t (sized S inv k) found

    abbrev r : Held S
    r = best.0.1

    plan_least : {n : S.Node} {j : Key} → Uncut S L n j → S.goal n ≡ true → Le r.key j
    plan_least {n} {j} u g = subst (λ (z : Key). Le z j) (sym best.0.3.0) (subst (Le k) u.1.4 (go u.1.1.taken refl))
      where
        at_goal : S.goal u.1.1.node ≡ true
        at_goal = ap S.goal u.1.3 ∙ g

        go : (a : Bool) → u.1.1.taken ≡ a → Le k u.1.1.key
        go true e = absurd (barren u.1.0 u.1.1 u.1.2 e (ap S.cut u.1.5 ∙ u.2) (ap S.goal u.1.3 ∙ g))
        go false e = subst (Le k) (rank_zero u.1.1.key _ (laws.at_goal u.1.1.node at_goal)) (past u.1.0 u.1.1 u.1.2 e)

    plan_first : {q : List ℕ} {n : S.Node} → Path S L q n r.key → S.goal n ≡ true → First p q
    plan_first {q} x g =
        let u = path_end S x in
        let o = u.1.1 in
        let key : o.key ≡ k = u.1.4 ∙ best.0.3.0 in
        let f : First p (path_of S t k.steps u.1.0) = best.1 u.1.0 o u.1.2 (key, ap S.cut u.1.5 ∙ u.2, ap S.goal u.1.3 ∙ g) in
        let d : First (path_of S t k.steps u.1.0) q = subst (λ (z : Key). First (path_of S t z.steps u.1.0) q) key (first_path x u.1.0 o u.1.2 u.1.3 u.1.4) in
        first_trans _ _ _ f d

    -- The goal's rank is its key, which is k.
    goal_rank : Le (rank_in S r) k
    goal_rank = subst (λ (z : Key). Le z k) (sym (rank_zero r.key _ (laws.at_goal r.node best.0.3.2) ∙ best.0.3.0)) (le_refl k)

    plan_of : Plan S L k.cost p
    plan_of = record {
      node = r.node;
      key = r.key;
      cost_is = ap (λ (z : Key). z.cost) best.0.3.0;
      path = path_cast S (sym best.0.4) refl refl
          (uncut_path k.steps best.0.0 r best.0.2 (ap (λ (z : Key). z.steps) best.0.3.0) best.0.3.1 goal_rank);
      goal = best.0.3.2;
      least = plan_least;
      first = plan_first;
    }

    -- The first path to an uncut goal whose key is the least open rank is the answer.
    pub plan_right : Finite S → solve S ≡ plan k.cost p
    unfolding plan_of
    plan_right fin = plan_is S laws fin (up_to k) L solves plan_of (subst (λ (z : Key). Le z k) (sym best.0.3.0) (le_refl k))
