-- What follows where an action from slot i is to be followed: the arrival's key fits, and its path can be compared with that of a slot with an equal key.
use Rattle.std.proofs.Common.{◌≡◌, sym, ap, ◌∙◌, subst, true, false, ◌⊎◌, inl, inr, Some, ℕ, suc, ◌<◌, length, arith}
use Rattle.model.specs.exploration.Key.{Key, extend, earlier}
use Rattle.model.specs.search.Query.{Query}
use Rattle.astar.specs.Records.{Held}
use Rattle.astar.specs.Search.{path_by}
use Rattle.astar.proofs.Slots.{Holds}
use Rattle.astar.proofs.Invariant.{Linked, linked_steps, steps_linked}
use Rattle.table.specs.declared.Slot.{Slot}
use Rattle.table.specs.Slots.{slot_in, Narrow}
use Rattle.table.specs.Tables.{Table}
use Rattle.paths.specs.Chain.{order_by}
use Rattle.held.specs.Held.{sys, held_is, held_in, Sound}
use Rattle.held.proofs.HeldLaws.{held_at, held_one, sound_at}
use Rattle.held.proofs.Chains.{chained, order_held}
use Rattle.held.proofs.Steps.{next_fits}
use Rattle.expansion.specs.Arrivals.{key_by, Arriving, Extends, Joins}

module _ {job : Query} {t : Table} {i : ℕ} {from : Slot} {a : ℕ} (x : Arriving job t i from a) where
  -- Each slot in use holds its record, and each is sound.
  pub held_slot : (j : ℕ) → j < length t.slots → Holds (held_in job.bytes t.slots) j (held_is job.bytes (slot_in t.slots j))
  held_slot = held_at job.bytes t.slots

  pub sound_slot : (j : ℕ) → j < length t.slots → Sound job (slot_in t.slots j)
  sound_slot = sound_at job t.slots x.running.sound

  -- Slot i holds the record of `from`, so it has the same key.
  pub source : held_is job.bytes from ≡ held_is job.bytes (slot_in t.slots i)
  source = (held_one job.bytes t.slots i x.expanding.held).1

  source_steps : from.key.steps ≡ (slot_in t.slots i).key.steps
  unfolding held_is
  source_steps = ap (λ (r : Held (sys job)). r.key.steps) source

  -- The number of a slot has 16 bits.
  pub small : i < 65536
  small = omega (arith, x.running.most, x.running.used, x.inside)

  -- Where a slot is open or free, the key of the arrival fits.
  extends : ((j : ℕ) × (j < length t.slots) × ((slot_in t.slots j).taken ≡ false)) ⊎ (length t.slots < t.room) → Extends job.bytes from a
  unfolding held_is
  extends o =
      let c : from.key.cost ≡ (slot_in t.slots i).key.cost = ap (λ (r : Held (sys job)). r.key.cost) source in
      let y : (slot_in t.slots i).taken ≡ true = ap (λ (r : Held (sys job)). r.taken) (sym source) ∙ x.expanding.taken in
      let f = next_fits job t.slots x.expanding.inv {places = t.room} i x.inside y o x.running.used x.running.most in
      let s = (sound_slot i x.inside).formed in
      record { accepted = x.running.accepted; known = x.known; summed = omega (arith, source_steps); short = omega (arith, source_steps) }

  pub extends_free : length t.slots < t.room → Extends job.bytes from a
  extends_free l = extends (inr l)

-- Slot j, which is open, was read where an action is to be followed.
pub record Loaded (job : Query) (t : Table) (i : ℕ) (from : Slot) (a j : ℕ) (old : Slot) : Type 0 where
  pub arriving : Arriving job t i from a
  pub inside : j < length t.slots
  pub is : old ≡ slot_in t.slots j
  pub narrow : Narrow old
  pub is_open : (slot_in t.slots j).taken ≡ false

module _ {job : Query} {t : Table} {i : ℕ} {from : Slot} {a j : ℕ} {old : Slot} (z : Loaded job t i from a j old) where
  pub loaded_sound : Sound job old
  loaded_sound = subst (Sound job) (sym z.is) (sound_slot z.arriving j z.inside)

  pub extends_open : Extends job.bytes from a
  extends_open = extends z.arriving (inl (j, z.inside, z.is_open))

  -- ---- the slot has the arrival's key

  module _ (same : key_by job.bytes from a ≡ (held_is job.bytes old).key) where
    steps_more : old.key.steps ≡ suc from.key.steps
    unfolding held_is extend
    steps_more = ap (λ (k : Key). k.steps) (sym same)

    holds : Holds (held_in job.bytes t.slots) j (held_is job.bytes old)
    holds = held_slot z.arriving j z.inside ∙ ap (λ (s : Slot). Some (held_is job.bytes s)) (sym z.is)

    link : Linked (sys job) (held_in job.bytes t.slots) (held_is job.bytes old)
    unfolding held_is
    link = steps_linked (sys job) z.arriving.expanding.inv j (held_is job.bytes old) holds steps_more

    -- Its parent has as many steps as slot i.
    parent_inside : old.parent < length t.slots
    unfolding held_is
    parent_inside = (held_one job.bytes t.slots old.parent link.held).0

    parent_steps : old.key.steps ≡ suc (slot_in t.slots old.parent).key.steps
    unfolding held_is
    parent_steps = linked_steps (sys job) link ∙ ap (λ (r : Held (sys job)). suc r.key.steps) (held_one job.bytes t.slots old.parent link.held).1

    -- The path to the slot and the new one can be compared: they are equally long.
    pub joins : Joins job.bytes t.slots i old
    joins = record {
      chained = chained job t.slots z.arriving.expanding.inv;
      inside = z.arriving.inside;
      old_inside = parent_inside;
      level = omega (arith, source_steps z.arriving, steps_more, parent_steps);
      small = small z.arriving;
      formed = loaded_sound.formed;
      narrow = z.narrow;
    }

    -- The order of the two paths in the table is that of the records' paths.
    pub compared : earlier (path_by (sys job) (held_in job.bytes t.slots) old.key.steps i a)
        (path_by (sys job) (held_in job.bytes t.slots) old.key.steps old.parent old.action) ≡ order_by t.slots i a old.parent old.action
    compared =
        order_held job t.slots z.arriving.expanding.inv old.key.steps i a old.parent old.action z.arriving.inside parent_inside
        (steps_more ∙ ap suc (source_steps z.arriving)) parent_steps
