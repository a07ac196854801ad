-- The other ends of a search: nothing is open, or the table is full.
use Rattle.std.proofs.Common.{Some}
use mathlib.Core.Path.{◌≡◌, refl, sym, ap, ◌∙◌, subst}
use Prim.Native.Nat.{ℕ, zero, suc, ◌<◌}
use native.Mathlib.Omega.{arith}
use mathlib.Core.Bool.{Bool, true, false, true≢false}
use mathlib.Core.List.{List, [], ◌∷◌, map}
use lib.ListN.{length, length-map}
use Rattle.model.specs.exploration.Key.{Key, zero_key, Le, Lt}
use Rattle.model.specs.exploration.System.{System, rank_of}
use Rattle.model.specs.exploration.Equations.{up_to, unbounded, Entries, Starts, Explores, NoGoal, some_cut, none_cut}
use Rattle.model.specs.exploration.Explore.{Entry, Of, reached, solve}
use Rattle.model.proofs.exploration.Stepping.{arrives_by}
use Rattle.model.proofs.exploration.KeyLaws.{le_trans, not_below}
use Rattle.model.proofs.exploration.Laws.{Laws, Finite}
use Rattle.model.proofs.exploration.Each.{All}
use Rattle.model.proofs.exploration.Counting.{Apart}
use Rattle.model.proofs.exploration.Uniqueness.{unique}
use Rattle.model.proofs.exploration.Solves.{reached_solves}
use Rattle.model.proofs.exploration.Answered.{weaken, answer_is, reached_at_least}
use Rattle.astar.specs.Records.{Held, Table, rank_in}
use Rattle.astar.specs.Search.{has_cut_in, exhausted}
use Rattle.astar.proofs.Slots.{Holds, holds_one, all_held}
use Rattle.astar.proofs.Finding.{some_cut_in, none_cut_in}
use Rattle.astar.proofs.Invariant.{Sent, Inv, Barren, start_least, sent_rank}
use Rattle.astar.proofs.Sending.{Before, source_is}
use Rattle.astar.proofs.Following.{Crowded}
use Rattle.astar.proofs.Solution.{Up, up_solves}

-- ---- nothing is open

module _ (S : System) (laws : Laws S) (fin : Finite S) {m0 : S.Node} (starts : Starts S m0) where
  -- Where all slots are taken, what they say is the answer.
  pub exhausted_right : {t : Table S} → Inv S m0 t (Sent S t) → Barren S t → ((i : ℕ) (r : Held S) → Holds t i r → r.taken ≡ true) → solve S ≡ exhausted S t
  unfolding exhausted
  exhausted_right {t} inv barren taken = go (has_cut_in S t) refl
    where
      solves : Explores S unbounded (Up S t unbounded)
      solves = up_solves S laws starts inv unbounded (λ i r h o. absurd (true≢false (sym (taken i r h) ∙ o))) tt (λ x z w. z)

      no_goal_lem : NoGoal S (Up S t unbounded)
      no_goal_lem n k u g = barren u.1.0 u.1.1 u.1.2 (taken u.1.0 u.1.1 u.1.2) (ap S.cut u.1.5 ∙ u.2) (ap S.goal u.1.3 ∙ g)

      go : (a : Bool) → has_cut_in S t ≡ a → solve S ≡ exhausted S t
      go true e =
          let c = some_cut_in S t e in
          rw (e, exhausted) (answer_is S laws fin (Up S t unbounded) solves (some_cut no_goal_lem (c.1.node, c.1.key, c.1.hints, (c.0, c.1, c.2, refl, refl, refl, tt), c.3)))
      go false e = rw (e, exhausted) (answer_is S laws fin (Up S t unbounded) solves
          (none_cut no_goal_lem (λ d. true≢false (sym d.4 ∙ ap S.cut (sym d.3.5) ∙ none_cut_in S t e d.3.0 d.3.1 d.3.2))))

-- ---- lists of different nodes

all_of_map : {A B : Type 0} (P : B → Type 0) (f : A → B) (xs : List A) → All (λ x. P (f x)) xs → All P (map f xs)
all_of_map P f [] h = tt
all_of_map P f (x ∷ xs) h = (h.0, all_of_map P f xs h.1)

module _ (S : System) (laws : Laws S) where
  abbrev nodes : Table S → List S.Node
  nodes t = map (λ (r : Held S). r.node) t

  apart_nodes : (t : Table S) → ((i j : ℕ) (r q : Held S) → Holds t i r → Holds t j q → r.node ≡ q.node → i ≡ j) → Apart S.same (nodes t)
  apart_nodes [] d = tt
  apart_nodes (x ∷ t) d = (
    all_of_map _ (λ (r : Held S). r.node) t (all_held _ t (λ i r h. go i r h (S.same x.node r.node) refl)),
    apart_nodes t (λ i j r q h k e. let s : suc i ≡ suc j = d (suc i) (suc j) r q h k e in omega arith),
  )
    where
      go : (i : ℕ) (r : Held S) → Holds t i r → (a : Bool) → S.same x.node r.node ≡ a → S.same x.node r.node ≡ false
      go i r h true e = let s : 0 ≡ suc i = d 0 (suc i) x r refl h (laws.same_eq _ _ e) in absurd (omega arith)
      go i r h false e = e

  -- ---- the table is full

  module _ (fin : Finite S) {m0 : S.Node} (starts : Starts S m0) where
    abbrev R : Entries S
    R = Of S (reached S)

    truth : Explores S unbounded R
    truth = reached_solves S laws fin

    -- The start node is reached.
    pub start_reached : 0 < length (reached S)
    start_reached =
        let l = reached_at_least S laws (m0 ∷ []) (tt, tt) ((zero_key, S.start_hints, truth.start starts), tt) in
        omega arith

    module _ {slots : ℕ} {i : ℕ} {q : Held S} (x : Crowded S laws slots m0 i q) where
      abbrev t : Table S
      t = x.table

      -- Arrivals of ranks up to that of slot i are from other slots, so they were made.
      made : (z : Entry S) → Sent S t z → Le (rank_of S z.node z.key) (rank_in S q) → Before S t i x.action z
      made z s l = (
        s,
        λ e.
            let p : s.source ≡ q = source_is S x.expanding s e in
            absurd (not_below (rank_in S q) _ (subst (λ (r : Held S). Lt (rank_in S r) (rank_of S z.node z.key)) p (sent_rank S laws s)) l),
      )

      solves : Explores S (up_to (rank_in S q)) (Up S t (up_to (rank_in S q)))
      solves = up_solves S laws starts x.expanding.inv (up_to (rank_in S q))
          (λ s r h o j l. le_trans j (rank_in S q) (rank_in S r) l (x.expanding.inv.order i s q r x.expanding.held h x.expanding.taken o))
          (start_least S x.expanding.inv laws q.key.steps i q x.expanding.held refl) made

      -- The node of a taken record is reached.
      taken_reached : (s : ℕ) (r : Held S) → Holds t s r → r.taken ≡ true → R r.node r.key r.hints
      taken_reached s r h y =
          let l = x.expanding.top s r h y in
          unique S laws (up_to (rank_in S q)) (Up S t (up_to (rank_in S q))) R solves (weaken S (up_to (rank_in S q)) truth) r.node r.key r.hints l
          (s, r, h, refl, refl, refl, l)

      -- A node to which an action leads from a taken record that is not cut is reached.
      next_reached : (s : ℕ) (r : Held S) → Holds t s r → r.taken ≡ true → S.cut r.hints ≡ false → (a : ℕ) → a < S.actions → {n : S.Node} → S.step r.node a ≡ Some n → (k : Key) × (g : S.Hints) × R n k g
      next_reached s r h y c a b {n} l = truth.complete tt (arrives_by S R a (taken_reached s r h y) b c l)

      each_reached : (s : ℕ) (r : Held S) → Holds t s r → (k : Key) × (g : S.Hints) × R r.node k g
      each_reached zero r h =
          let b = x.expanding.inv.begun in
          let e : m0 ≡ r.node = sym b.2.0 ∙ ap (λ (z : Held S). z.node) (holds_one t 0 b.1 h) in
          (zero_key, S.start_hints, subst (λ (n : S.Node). R n zero_key S.start_hints) e (truth.start starts))
      each_reached (suc s) r h =
          let l = x.expanding.inv.linked (suc s) r h (λ z. omega arith) in
          next_reached r.parent l.source l.held l.taken l.uncut r.action l.in_range l.leads

      -- A full table to whose nodes one more comes is smaller than the nodes reached.
      pub crowded : slots < length (reached S)
      crowded =
          let e = x.expanding in
          let l = reached_at_least S laws (x.node ∷ nodes t)
          (all_of_map _ (λ (r : Held S). r.node) t (all_held _ t x.new), apart_nodes t e.inv.distinct)
          (next_reached i q e.held e.taken e.uncut x.action x.in_range x.leads, all_of_map _ (λ (r : Held S). r.node) t (all_held _ t each_reached)) in
          omega (arith, length-map t (λ (r : Held S). r.node), x.no_room)
