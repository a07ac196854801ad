-- What holds between two turns: it holds of the start table, and each turn that takes a slot keeps it.
use Rattle.std.proofs.Common.{None, Some}
use mathlib.Core.Path.{◌≡◌, refl, sym, ap, ◌∙◌, subst}
use Prim.Native.Nat.{ℕ, zero, suc, ◌≤◌, ◌<◌}
use native.Mathlib.Omega.{arith}
use mathlib.Core.Bool.{true, false, true≢false}
use lib.ListN.{length, length-set, set}
use Rattle.model.specs.exploration.Key.{Key, zero_key, Le}
use Rattle.model.specs.exploration.System.{System}
use Rattle.model.proofs.exploration.KeyLaws.{rank_zero}
use Rattle.model.proofs.exploration.Laws.{Laws}
use Rattle.astar.specs.Records.{Held, Open, Table, rank_in, least_open, take-it, mark}
use Rattle.astar.specs.Search.{Filled, goes_on, full, expand, first_goal, start_table}
use Rattle.astar.proofs.Slots.{Holds, holds_one, holds_lt, put_each, put_set}
use Rattle.astar.proofs.Finding.{least_some}
use Rattle.astar.proofs.Goals.{goal_none}
use Rattle.astar.proofs.Invariant.{Sent, Inv, Barren, sized}
use Rattle.astar.proofs.Sending.{Expanding}
use Rattle.astar.proofs.Following.{Crowded, Went}
use Rattle.astar.proofs.Expansion.{expand_went}
use Rattle.astar.proofs.Taking.{mark_is, take-cut, take-uncut, expanded}
use Rattle.astar.proofs.Taken.{taken_in, taken_keeps, taken_take}

module _ (S : System) (slots : ℕ) where
  -- A table between two turns: all arrivals from taken slots were made, no goal was passed over, and it has not more than so many slots.
  pub record Ready (m0 : S.Node) (t : Table S) : Type 0 where
    pub inv : Inv S m0 t (Sent S t)
    pub barren : Barren S t
    pub room : length t ≤ slots

  -- ---- the start table

  -- The start table's only slot is open.
  start_slot : (m0 : S.Node) (i : ℕ) (r : Held S) → Holds (start_table S m0) i r
      → (i ≡ 0) × (record { node = m0; key = zero_key; hints = S.start_hints; parent = 0; action = 0; taken = false } ≡ r)
  unfolding start_table
  start_slot m0 zero r h = (refl, (cc))
  start_slot m0 (suc i) r h = let z : ◌≡◌ {A = ℕ} 0 1 = cc in absurd (omega arith)

  -- The search begins with a table that is ready.
  pub start_ready : Laws S → (m0 : S.Node) → 0 < slots → Ready m0 (start_table S m0)
  unfolding start_table
  start_ready laws m0 l = record {
    inv = record {
      distinct = λ i j r q h k e. (start_slot m0 i r h).0 ∙ sym (start_slot m0 j q k).0;
      begun = (record { node = m0; key = zero_key; hints = S.start_hints; parent = 0; action = 0; taken = false }, refl, (refl, refl, refl));
      linked = λ i r h n. absurd (n (start_slot m0 i r h).0);
      gathers = λ i r h n. absurd (n (start_slot m0 i r h).0);
      proper = λ i r h. subst (λ (q : Held S). S.Proper q.hints) (start_slot m0 i r h).1 laws.start_proper;
      low = λ x z. absurd (open' z.slot z.source z.held z.taken);
      order = λ i j r q h k y. absurd (open' i r h y);
      sent = λ x z. z;
    };
    barren = λ i r h y. absurd (open' i r h y);
    room = omega arith;
  }
    where
      open' : (i : ℕ) (r : Held S) → Holds (start_table S m0) i r → r.taken ≡ true → ⊥
      open' i r h y = true≢false (sym y ∙ ap (λ (q : Held S). q.taken) (sym (start_slot m0 i r h).1))

  -- ---- a slot taken

  module _ {m0 : S.Node} {t : Table S} (ready : Ready m0 t) {o : Open} (least : least_open S t 0 ≡ Some o) where
    abbrev u : Table S
    u = mark S t o.slot

    -- No open rank is below that of the least open slot.
    pub past : (i : ℕ) (r : Held S) → Holds t i r → r.taken ≡ false → Le o.rank (rank_in S r)
    past = (least_some S t least).4

    module _ {r : Held S} (held : Holds t o.slot r) (no_goal : first_goal S t o.rank t 0 ≡ None) (laws : Laws S) where
      is_least : (least_some S t least).0 ≡ r
      is_least = holds_one t o.slot (least_some S t least).1 held

      open' : r.taken ≡ false
      open' = ap (λ (q : Held S). q.taken) (sym is_least) ∙ (least_some S t least).2

      rank_is : o.rank ≡ rank_in S r
      rank_is = (least_some S t least).3 ∙ ap (rank_in S) is_least

      below : (s : ℕ) (p : Held S) → Holds t s p → p.taken ≡ false → Le (rank_in S r) (rank_in S p)
      below s p h a = subst (λ (k : Key). Le k (rank_in S p)) rank_is (past s p h a)

      no_goal_lem : S.cut r.hints ≡ false → S.goal r.node ≡ true → ⊥
      no_goal_lem c g = goal_none S o.rank t (sized S ready.inv o.rank) no_goal o.slot r held
          (sym (rank_is ∙ rank_zero r.key (S.estimate r.node) (laws.at_goal r.node g)), c, g)

      is_set : u ≡ set t o.slot (take-it S r)
      is_set = mark_is S t o.slot held

      -- Once the slot is taken, still no record taken is an uncut goal.
      still_barren : Barren S u
      unfolding take-it
      still_barren = subst (Barren S) (sym is_set) (put_each (put_set t o.slot (take-it S r) (holds_lt t o.slot held))
          (λ s p. p.taken ≡ true → S.cut p.hints ≡ false → S.goal p.node ≡ true → ⊥) (λ y. no_goal_lem) (λ s p n h. ready.barren s p h))

      one_more : taken_in S u ≡ suc (taken_in S t)
      one_more = ap (taken_in S) is_set ∙ taken_take S t o.slot r held open'

      same_room : length u ≤ slots
      same_room = let e : length u ≡ length t = ap length is_set ∙ simp length-set in omega (arith, ready.room)

      -- A cut slot is taken: the table is ready for the next turn, and has one more slot taken.
      pub turn_cut : S.cut r.hints ≡ true → Ready m0 u × (taken_in S u ≡ suc (taken_in S t))
      turn_cut c = (
        record {
          inv = subst (λ (v : Table S). Inv S m0 v (Sent S v)) (sym is_set) (take-cut S ready.inv o.slot r held open' below c);
          barren = still_barren;
          room = same_room;
        },
        one_more,
      )

      -- An uncut slot is taken: its expansion begins.
      pub turn_uncut : S.cut r.hints ≡ false → Expanding S m0 u o.slot (take-it S r) 0 × (length u ≤ slots)
      turn_uncut c = (
        subst (λ (v : Table S). Expanding S m0 v o.slot (take-it S r) 0) (sym is_set)
            (take-uncut S ready.inv o.slot r held open' below c),
        same_room,
      )

      -- what a turn that expands the slot comes to
      abbrev pub Turned : Filled S → Type 0
      Turned (goes_on v) = Ready m0 v × (taken_in S t < taken_in S v)
      Turned full = Crowded S laws slots m0 o.slot (take-it S r)

      -- After its expansion the table is ready for the next turn, or it was full.
      pub turn_expanded : S.cut r.hints ≡ false → Turned (expand S slots u r o.slot S.actions)
      turn_expanded c = go (expand S slots u r o.slot S.actions) (expand_went S laws slots r (turn_uncut c).0 S.actions (omega arith))
        where
          go : (f : Filled S) → Went S laws slots m0 u o.slot (take-it S r) S.actions f → Turned f
          go (goes_on v) w = (
            record { inv = expanded S w.expanding; barren = λ i q h y. still_barren i q (w.back i q y h) y; room = w.room same_room },
            omega (arith, one_more, taken_keeps S u v w.keeps),
          )
          go full w = w
