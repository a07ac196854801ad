-- What becomes of slot j, whose node an action leads to.
use Rattle.std.proofs.Common.{◌≡◌, refl, sym, ap, ◌∙◌, subst, Bool, true, false, List, ℕ, ◌<◌, length, set}
use Rattle.model.specs.exploration.Key.{Key, less, same_key}
use Rattle.model.specs.search.Query.{Query}
use Rattle.model.proofs.exploration.KeyLaws.{same_key_lem}
use Rattle.task.specs.declared.Key as code
use Rattle.task.specs.Meaning.{key_is}
use Rattle.astar.specs.Records as records
use Rattle.astar.specs.Search as search
use Rattle.astar.proofs.Slots.{set_held}
use Rattle.table.specs.declared.Slot.{Slot}
use Rattle.table.specs.Slots.{slot_in}
use Rattle.table.specs.Tables.{Table, stored}
use Rattle.paths.specs.Chain.{order_by}
use Rattle.held.specs.Held.{sys, node_for, held_is, held_in}
use Rattle.held.proofs.Storing.{store_held, store_sound}
use Rattle.expansion.specs.Arrivals.{key_by, hints_by, newcomer, both, joined, Arriving, Reaches, Makes, Relaxes}
use Rattle.expansion.proofs.Cases.{tied_new, tied_old, relaxed_taken, relaxed_less, relaxed_same, relaxed_more}
use Rattle.expansion.proofs.Arrival.{Loaded, held_slot, loaded_sound, compared}
use Rattle.expansion.proofs.Making.{made_sound}

module _ {job : Query} {t : Table} {i : ℕ} {from : Slot} {a j : ℕ} (x : Arriving job t i from a) (l : j < length t.slots) (node : List ℕ) where
  -- the records of the table, that of slot j, and what the search makes of it
  abbrev T : records.Table (sys job)
  T = held_in job.bytes t.slots

  abbrev r : records.Held (sys job)
  r = held_is job.bytes (slot_in t.slots j)

  abbrev become : records.Held (sys job)
  become = search.relaxed (sys job) T r (key_by job.bytes from a) (hints_by job.bytes from a node) i a

  -- Nothing is stored where the record stays as it is.
  kept : become ≡ r → Relaxes job t i from a node j t
  kept w = record {
    relaxes = sym (ap (set T j) w ∙ set_held T j r (held_slot x j l));
    sound = x.running.sound;
    same_room = refl;
  }

  -- A taken slot stays.
  pub relax_taken : (slot_in t.slots j).taken ≡ true → Relaxes job t i from a node j t
  unfolding held_is
  relax_taken y = kept (relaxed_taken (sys job) T r (hints_by job.bytes from a node) i a (key_by job.bytes from a) y)

-- ---- slot j is open

module _ {job : Query} {t : Table} {i : ℕ} {from : Slot} {a j : ℕ} {old : Slot} (z : Loaded job t i from a j old) where
  -- With an equal key the ways are compared.
  pub tied : {k : code.Key} → Reaches (key_by job.bytes from a) k → same_key (key_is k) (key_is old.key) ≡ true
      → key_by job.bytes from a ≡ (held_is job.bytes old).key
  unfolding held_is
  tied reaches q = sym reaches.is ∙ same_key_lem _ _ q

  module _ (node : List ℕ) where
    -- the key and the hint residuals of the arrival, and what the search makes of the slot that was read
    abbrev key : Key
    key = key_by job.bytes from a

    abbrev hints : List ℕ
    hints = hints_by job.bytes from a node

    abbrev Is : records.Held (sys job) → Type 0
    Is q = search.relaxed (sys job) (held_in job.bytes t.slots) (held_is job.bytes old) key hints i a ≡ q

    become_is : {q : records.Held (sys job)} → Is q → become z.arriving z.inside node ≡ q
    become_is w = ap (λ (s : Slot). search.relaxed (sys job) (held_in job.bytes t.slots) (held_is job.bytes s) key hints i a) (sym z.is) ∙ w

    -- The slot that is stored stands for what the search makes of the record, and has the old slot's node and estimate.
    put : {u : Table} {s : Slot} {q : records.Held (sys job)} → u ≡ stored t j s → Makes job.bytes q old.estimate s
        → q.node ≡ node_for job.bytes old.node → Is q → Relaxes job t i from a node j u
    put {u} {s} e m d w =
        subst (Relaxes job t i from a node j) (sym e)
        (record {
          relaxes = store_held job.bytes t.slots j s ∙ ap (set (held_in job.bytes t.slots) j) (m.stands ∙ sym (become_is w));
          sound = store_sound job t.slots j s (made_sound job m d (loaded_sound z).estimated) z.arriving.running.sound;
          same_room = refl;
        })

    -- What the search makes of two ways with equal keys is the record of both.
    tied_joined : key ≡ (held_is job.bytes old).key
        → search.tied (sys job) (held_in job.bytes t.slots) (held_is job.bytes old) hints i a ≡ joined job.bytes t.slots i from a node old
    unfolding held_is
    tied_joined same = go (order_by t.slots i a old.parent old.action) refl
      where
        go : (b : Bool) → order_by t.slots i a old.parent old.action ≡ b
            → search.tied (sys job) (held_in job.bytes t.slots) (held_is job.bytes old) hints i a ≡ joined job.bytes t.slots i from a node old
        go true e = tied_new (sys job) _ (held_is job.bytes old) hints i a (compared z same ∙ e) ∙ ap (both job.bytes i from a node old) (sym e)
        go false e = tied_old (sys job) _ (held_is job.bytes old) hints i a (compared z same ∙ e) ∙ ap (both job.bytes i from a node old) (sym e)

    -- ---- how the arrival's key compares with the slot's

    module _ {k : code.Key} (reaches : Reaches key k) where
      still_open : old.taken ≡ false
      still_open = ap (λ (s : Slot). s.taken) z.is ∙ z.is_open

      -- A lesser key replaces the slot's.
      pub relax_less : less (key_is k) (key_is old.key) ≡ true → {u : Table} {s : Slot} → u ≡ stored t j s
          → Makes job.bytes (newcomer job.bytes i from a node old.node) old.estimate s → Relaxes job t i from a node j u
      unfolding held_is
      relax_less p e m = put e m refl (relaxed_less (sys job) _ (held_is job.bytes old) hints i a key still_open (rw reaches.is at p))

      -- An equal key merges.
      pub relax_same : less (key_is k) (key_is old.key) ≡ false → same_key (key_is k) (key_is old.key) ≡ true → {u : Table} {s : Slot} → u ≡ stored t j s
          → Makes job.bytes (joined job.bytes t.slots i from a node old) old.estimate s → Relaxes job t i from a node j u
      unfolding held_is
      relax_same p q e m =
          put e m refl
          (relaxed_same (sys job) _ (held_is job.bytes old) hints i a key still_open (rw reaches.is at p) (rw reaches.is at q)
          ∙ tied_joined (tied reaches q))

      -- A larger key changes nothing.
      pub relax_more : less (key_is k) (key_is old.key) ≡ false → same_key (key_is k) (key_is old.key) ≡ false → Relaxes job t i from a node j t
      unfolding held_is
      relax_more p q =
          kept z.arriving z.inside node
          (become_is (relaxed_more (sys job) _ (held_is job.bytes old) hints i a key still_open (rw reaches.is at p) (rw reaches.is at q))
          ∙ ap (held_is job.bytes) z.is)
