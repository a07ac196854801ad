-- How the records change where a slot is stored: in place of another, after the last, or marked as taken.
use Rattle.std.proofs.Common.{◌≡◌, refl, sym, ap, ◌∙◌, List, [], ◌∷◌, ◌++◌, ℕ, zero, suc, ◌<◌, length, set}
use Rattle.std.proofs.lemmas.List.{map-set, map-append}
use Rattle.model.specs.search.Query.{Query}
use Rattle.model.proofs.exploration.Each.{All, all_append}
use Rattle.astar.specs.Records.{take-it, mark}
use Rattle.astar.proofs.Taking.{mark_is}
use Rattle.table.specs.declared.Slot.{Slot}
use Rattle.table.specs.Slots.{slot_in, taken_slot}
use Rattle.held.specs.Held.{sys, held_is, held_in, Sound, AllSound}
use Rattle.held.proofs.HeldLaws.{held_at, sound_at}

all_set : {A : Type 0} (P : A → Type 0) (l : List A) (i : ℕ) (a : A) → P a → All P l → All P (set l i a)
all_set P [] i a p h = tt
all_set P (x ∷ l) zero a p h = (p, h.1)
all_set P (x ∷ l) (suc i) a p h = (h.0, all_set P l i a p h.1)

module _ (job : List ℕ) (ss : List Slot) where
  -- A slot that is stored in place of another changes that slot's record.
  pub store_held : (j : ℕ) (s : Slot) → held_in job (set ss j s) ≡ set (held_in job ss) j (held_is job s)
  unfolding held_in
  store_held j s = map-set (held_is job) ss j s

  -- One slot more is one record more.
  pub append-held : (s : Slot) → held_in job (ss ++ (s ∷ [])) ≡ held_in job ss ++ (held_is job s ∷ [])
  unfolding held_in
  append-held s = map-append (held_is job) ss (s ∷ [])

module _ (job : Query) where
  -- All slots stay sound if a sound one is stored among them.
  pub store_sound : (ss : List Slot) (j : ℕ) (s : Slot) → Sound job s → AllSound job ss → AllSound job (set ss j s)
  store_sound = all_set (Sound job)

  -- All slots stay sound if a sound one is stored after them.
  pub append-sound : (ss : List Slot) (s : Slot) → Sound job s → AllSound job ss → AllSound job (ss ++ (s ∷ []))
  append-sound ss s p h = all_append (Sound job) ss (s ∷ []) h (p, tt)

  -- ---- slot i marked as taken

  taken_held : (s : Slot) → held_is job.bytes (taken_slot s) ≡ take-it (sys job) (held_is job.bytes s)
  unfolding held_is taken_slot take-it
  taken_held s = refl

  taken_sound : (s : Slot) → Sound job s → Sound job (taken_slot s)
  unfolding taken_slot
  taken_sound s h =
      let f = h.formed in
      record {
        formed = record { clean = f.clean; clean_hints = f.clean_hints; marked = f.marked; summed = f.summed };
        estimated = h.estimated;
      }

  module _ (ss : List Slot) (i : ℕ) (l : i < length ss) where
    -- The record of a slot that was marked is taken.
    pub mark_held : held_in job.bytes (set ss i (taken_slot (slot_in ss i))) ≡ mark (sys job) (held_in job.bytes ss) i
    mark_held =
        store_held job.bytes ss i (taken_slot (slot_in ss i)) ∙ ap (set (held_in job.bytes ss) i) (taken_held (slot_in ss i))
        ∙ sym (mark_is (sys job) (held_in job.bytes ss) i (held_at job.bytes ss i l))

    -- All slots stay sound if one is marked.
    pub mark_sound : AllSound job ss → AllSound job (set ss i (taken_slot (slot_in ss i)))
    mark_sound s = store_sound ss i (taken_slot (slot_in ss i)) (taken_sound (slot_in ss i) (sound_at job ss s i l)) s
