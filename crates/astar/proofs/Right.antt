-- The search in a table of any number of slots gives the defined answer, or that the table is too small where it is.
use Rattle.std.proofs.Common.{Option, None, Some}
use mathlib.Core.Path.{◌≡◌, refl, sym, ap, ◌∙◌, subst}
use Prim.Native.Nat.{ℕ, zero, suc, ◌+◌, ◌<◌}
use native.Mathlib.Omega.{arith}
use mathlib.Core.Bool.{Bool, true, false}
use mathlib.Core.List.{List}
use mathlib.Core.Logic.{◌⊎◌, inl, inr}
use lib.ListN.{length}
use lib.Dec.{ltb}
use borrow.Author.Tests.{ltb-true, ltb-false}
use Rattle.model.specs.exploration.Key.{zero_key, Le}
use Rattle.model.specs.exploration.System.{System, rank_of}
use Rattle.model.specs.exploration.Equations.{no_plan, Starts}
use Rattle.model.specs.exploration.Explore.{reached, answer, solve}
use Rattle.model.proofs.exploration.Laws.{Laws, Finite}
use Rattle.model.proofs.exploration.Fuel.{reached_none}
use Rattle.astar.specs.Records.{Held, Open, Table, least_open, mark}
use Rattle.astar.specs.Search.{Result, answered, too_small, Filled, goes_on, full, expand, first_goal, turns, start_table, search_in}
use Rattle.astar.proofs.Slots.{Holds}
use Rattle.astar.proofs.Invariant.{start_least}
use Rattle.astar.proofs.Finding.{least_none, least_some}
use Rattle.astar.proofs.Plans.{plan_right}
use Rattle.astar.proofs.Ends.{exhausted_right, start_reached, crowded}
use Rattle.astar.proofs.Taken.{taken_in, taken_le}
use Rattle.astar.proofs.Turning.{Ready, start_ready, past, turn_cut, Turned, turn_expanded}

module _ (S : System) (slots : ℕ) where
  -- the defined answer, or "too small" where the nodes reached are more than the slots
  abbrev pub Right : Result → Type 0
  Right res = (res ≡ answered (solve S)) ⊎ ((slots < length (reached S)) × (res ≡ too_small))

  module _ (laws : Laws S) (fin : Finite S) {m0 : S.Node} (starts : Starts S m0) where
    -- Turns from a table that is ready end right, if with the slots taken they are more than the slots.
    abbrev Turns : ℕ → Type 0
    Turns n = (t : Table S) → Ready S slots m0 t → slots < n + taken_in S t → Right (turns S slots n t)

    module _ (n : ℕ) (ih : Turns n) (t : Table S) (ready : Ready S slots m0 t) (more : slots < suc n + taken_in S t) where
      module _ (o : Open) (e : least_open S t 0 ≡ Some o) (f : first_goal S t o.rank t 0 ≡ None) (r : Held S) (h : Holds t o.slot r) where
        abbrev u : Table S
        u = mark S t o.slot

        -- A turn that expands a slot is right.
        expanding : (g : Filled S) → S.cut r.hints ≡ false → expand S slots u r o.slot S.actions ≡ g → Turned S slots ready e h f laws g → Right (turns S slots (suc n) t)
        unfolding turns
        expanding (goes_on v) c g w = rw (e, turns, f, h, c, g) (ih v w.0 (omega (arith, w.1)))
        expanding full c g w = rw (e, turns, f, h, c, g) (inr (crowded S laws fin starts w, refl))

        -- A turn that takes a slot is right, cut or not.
        taking : (a : Bool) → S.cut r.hints ≡ a → Right (turns S slots (suc n) t)
        unfolding turns
        taking true c = let m = turn_cut S slots ready e h f laws c in rw (e, turns, f, h, c) (ih u m.0 (omega (arith, m.1)))
        taking false c = expanding (expand S slots u r o.slot S.actions) c refl (turn_expanded S slots ready e h f laws c)

      -- The start's rank is not above the least open one.
      begins : (o : Open) → least_open S t 0 ≡ Some o → Le (rank_of S m0 zero_key) o.rank
      begins o e =
          let r = least_some S t e in
          subst (Le (rank_of S m0 zero_key)) (sym r.3) (start_least S ready.inv laws r.0.key.steps o.slot r.0 r.1 refl)

      -- Every turn is right.
      turn : (o : Option Open) → least_open S t 0 ≡ o → Right (turns S slots (suc n) t)
      unfolding turns
      turn None e = rw (e, turns) (inl (ap answered (sym (exhausted_right S laws fin starts ready.inv ready.barren (least_none S t e)))))
      turn (Some o) e = goal (first_goal S t o.rank t 0) refl
        where
          goal : (p : Option (List ℕ)) → first_goal S t o.rank t 0 ≡ p → Right (turns S slots (suc n) t)
          goal (Some p) f = rw (e, turns, f)
              (inl (ap answered (sym (plan_right S laws starts ready.inv o.rank (past S slots ready e) (begins o e) ready.barren f fin))))
          goal None f = let r = least_some S t e in taking o e f r.0 r.1 (S.cut r.0.hints) refl

    pub turns_right : (n : ℕ) → Turns n
    turns_right zero = λ t ready more. absurd (omega (arith, taken_le S t, ready.room))
    turns_right (suc n) = λ t ready more. turn n (turns_right n) t ready more (least_open S t 0) refl

-- the search, by what the start is
pub by_start : (S : System) (slots : ℕ) {o : Option S.Node} → S.start ≡ o
    → search_in S slots ≡ elim o as (λ x. Result) [ None ↦ answered (no_plan 12) | Some m ↦ elim (ltb 0 slots) [ true ↦ turns S slots (suc slots) (start_table S m) | false ↦ too_small ] ]
unfolding search_in
by_start S slots e = ap (λ (o : Option S.Node). elim o as (λ x. Result) [ None ↦ answered (no_plan 12) | Some m ↦ elim (ltb 0 slots) [ true ↦ turns S slots (suc slots) (start_table S m) | false ↦ too_small ] ]) e

solve_none : (S : System) → S.start ≡ None → solve S ≡ no_plan 12
unfolding solve answer
solve_none S e = ap (answer S) (reached_none S e)

-- The search gives the defined answer, or "too small" only where the nodes reached outnumber the slots.
pub search_right : (S : System) → Laws S → Finite S → (slots : ℕ) → (search_in S slots ≡ answered (solve S)) ⊎ ((slots < length (reached S)) × (search_in S slots ≡ too_small))
search_right S laws fin slots = go S.start refl
  where
    room : (m : S.Node) → S.start ≡ Some m → (a : Bool) → ltb 0 slots ≡ a → Right S slots (search_in S slots)
    room m e true l = subst (Right S slots) (sym (by_start S slots e ∙ first)) (turns_right S slots laws fin e (suc slots) (start_table S m) (start_ready S slots laws m (ltb-true 0 slots l)) (omega arith))
      where
        first : (elim (ltb 0 slots) as (λ x. Result) [ true ↦ turns S slots (suc slots) (start_table S m) | false ↦ too_small ]) ≡ turns S slots (suc slots) (start_table S m)
        first = rw l refl
    room m e false l = inr (omega (arith, start_reached S laws fin e, ltb-false), by_start S slots e ∙ rw l refl)

    go : (o : Option S.Node) → S.start ≡ o → Right S slots (search_in S slots)
    go None e = inl (by_start S slots e ∙ ap answered (sym (solve_none S e)))
    go (Some m) e = room m e (ltb 0 slots) refl
