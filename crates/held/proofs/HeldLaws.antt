-- Which records the slots in use stand for: how many they are, and which is in each slot.
use Rattle.std.proofs.Common.{◌≡◌, List, ℕ, ◌<◌, length, arith}
use Rattle.std.proofs.Math.ListN.{length-map}
use Rattle.std.proofs.lemmas.Option.{slice_get-map, slice_get-get_or}
use Rattle.model.specs.search.Node.{Node}
use Rattle.model.specs.search.Query.{Query}
use Rattle.model.proofs.job.VerdictLaws.{all_get_d}
use Rattle.astar.specs.Records.{HeldOf}
use Rattle.astar.proofs.Slots.{Holds, holds_one, holds_lt}
use Rattle.table.specs.declared.Slot.{Slot}
use Rattle.table.specs.Slots.{slot_in, no_slot}
use Rattle.held.specs.Held.{held_is, held_in, Sound, AllSound}

module _ (job : List ℕ) (ss : List Slot) where
  -- There are as many records as slots.
  pub length-held : length (held_in job ss) ≡ length ss
  unfolding held_in
  length-held = length-map ss (held_is job)

  -- Slot i holds the record that it stands for.
  pub held_at : (i : ℕ) → i < length ss → Holds (held_in job ss) i (held_is job (slot_in ss i))
  unfolding held_in
  held_at i h = rw (slice_get-map (held_is job) ss i, slice_get-get_or ss i no_slot h)

  -- Slot i holds no other record.
  pub held_one : (i : ℕ) {r : HeldOf Node (List ℕ)} → Holds (held_in job ss) i r → (i < length ss) × (r ≡ held_is job (slot_in ss i))
  held_one i h =
      let l : i < length ss = omega (arith, length-held, holds_lt (held_in job ss) i h) in
      (l, holds_one (held_in job ss) i h (held_at i l))

-- Each slot in use is sound.
pub sound_at : (job : Query) (ss : List Slot) → AllSound job ss → (i : ℕ) → i < length ss → Sound job (slot_in ss i)
sound_at job ss s i l = all_get_d (Sound job) no_slot ss s i l
