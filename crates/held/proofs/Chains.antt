-- The paths of slots are those of the records, and slots of a search's table are chained.
use Rattle.std.proofs.Common.{◌≡◌, refl, sym, ap, ap₂, ◌∙◌, List, [], ◌∷◌, ◌++◌, ℕ, zero, suc, ◌-◌, ◌≤◌, ◌<◌, length, arith}
use Rattle.model.specs.exploration.Key.{earlier}
use Rattle.model.specs.exploration.Explore.{Entry}
use Rattle.model.specs.search.Node.{Node}
use Rattle.model.specs.search.Query.{Query}
use Rattle.astar.specs.Records.{Held, Table, path_of}
use Rattle.astar.specs.Search.{path_by}
use Rattle.astar.proofs.Invariant.{Linked, Inv, linked_steps, path_suc, path_by_suc, steps_linked}
use Rattle.astar.proofs.Chains.{path_slot}
use Rattle.table.specs.declared.Slot.{Slot}
use Rattle.table.specs.Slots.{slot_in}
use Rattle.paths.specs.Chain.{parent_at, action_at, steps_at, slot_path, order_by, Chained}
use Rattle.held.specs.Held.{sys, held_is, held_in}
use Rattle.held.proofs.HeldLaws.{held_at, held_one}

-- slots whose records are a search's table
module _ (job : Query) {m0 : Node} (ss : List Slot) {P : Entry (sys job) → Type 0} (inv : Inv (sys job) m0 (held_in job.bytes ss) P) where
  abbrev T : Table (sys job)
  T = held_in job.bytes ss

  abbrev record_at : ℕ → Held (sys job)
  record_at i = held_is job.bytes (slot_in ss i)

  -- Slot i with steps has a parent, one step nearer.
  parent_in : (i m : ℕ) → i < length ss → steps_at ss i ≡ suc m → (parent_at ss i < length ss) × (steps_at ss (parent_at ss i) ≡ m)
  unfolding held_is
  parent_in i m l e =
      let k : Linked (sys job) T (record_at i) = steps_linked (sys job) inv i (record_at i) (held_at job.bytes ss i l) e in
      let q = held_one job.bytes ss (parent_at ss i) k.held in
      let s : k.source.key.steps ≡ steps_at ss (parent_at ss i) = ap (λ (r : Held (sys job)). r.key.steps) q.1 in
      (q.0, omega (arith, linked_steps (sys job) k))

  -- The last m actions that lead to slot i are the same for the records and the slots.
  pub path_held : (m i : ℕ) → i < length ss → m ≤ steps_at ss i → path_of (sys job) T m i ≡ slot_path ss m i
  unfolding path_of slot_path held_is
  path_held zero i l h = refl
  path_held (suc m) i l h =
      let e : steps_at ss i ≡ suc (steps_at ss i - 1) = omega arith in
      let q = parent_in i (steps_at ss i - 1) l e in
      let p = path_held m (parent_at ss i) q.0 (omega (arith, q.1)) in
      path_suc (sys job) T m i (held_at job.bytes ss i l) ∙ ap (λ (z : List ℕ). z ++ (action_at ss i ∷ [])) p

  -- Equal paths of equally many steps are those of one slot.
  path_one : (i j m : ℕ) → steps_at ss i ≡ m → steps_at ss j ≡ m → slot_path ss m i ≡ slot_path ss m j → i < length ss → j < length ss → i ≡ j
  unfolding held_is
  path_one i j m e f p l k =
      path_slot (sys job) inv m i j (record_at i) (record_at j)
      (held_at job.bytes ss i l) (held_at job.bytes ss j k) e f
      (path_held m i l (omega arith) ∙ p ∙ sym (path_held m j k (omega arith)))

  -- The slots are chained.
  pub chained : Chained ss
  chained = record { inside = λ i m e l. parent_in i m l e; distinct = path_one }

  -- The path of the last m actions that lead to slot i, and on by action a.
  path_on : (k m i a : ℕ) → i < length ss → k ≡ suc m → m ≤ steps_at ss i → path_by (sys job) T k i a ≡ slot_path ss m i ++ (a ∷ [])
  path_on k m i a l e h = path_by_suc (sys job) T m i a e ∙ ap (λ (z : List ℕ). z ++ (a ∷ [])) (path_held m i l h)

  -- Of two ways of k steps, by slot i and action a and by slot j and action b, the order is that of the slots' paths.
  pub order_held : (k i a j b : ℕ) → i < length ss → j < length ss → k ≡ suc (steps_at ss i) → k ≡ suc (steps_at ss j)
      → earlier (path_by (sys job) T k i a) (path_by (sys job) T k j b) ≡ order_by ss i a j b
  order_held k i a j b l m e f =
      ap₂ (λ (x y : List ℕ). earlier x y) (path_on k (steps_at ss i) i a l e (omega arith)) (path_on k (steps_at ss i) j b m e (omega arith))
