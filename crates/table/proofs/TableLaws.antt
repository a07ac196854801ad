-- Laws of a table as the list of its slots in use: where they stand in the bytes, and how a slot that is stored changes them.
use Rattle.std.proofs.Common.{◌≡◌, refl, ◌∙◌, ap, sym, ℕ, ◌+◌, ◌*◌, ◌≤◌, ◌<◌, List, length, set, take, arith}
use Rattle.std.proofs.lemmas.List.{take_more_set}
use Rattle.std.proofs.Math.Seq.{take-set-lt}
use Rattle.model.specs.calls.Search.{slots_in, slot_bytes}
use Rattle.table.specs.declared.Slot.{Slot}
use Rattle.table.specs.Slots.{slots, slot_at, slot_in, taken_slot}
use Rattle.table.specs.Tables.{Table, table, table_in, pushed, stored, marked, Front, Within}
use Rattle.table.proofs.SlotLaws.{slots_counted, slot_inside}
use Rattle.table.proofs.LookupLaws.{length-first, first_at}

-- No more slots are counted than the bytes have room for.
slots_in_bytes : (bytes : List ℕ) → slots_in bytes * slot_bytes ≤ length bytes
slots_in_bytes bytes = let e = slots_counted bytes _ refl in omega arith

slots_in_same : (u bytes : List ℕ) → length u ≡ length bytes → slots_in u ≡ slots_in bytes
unfolding slots_in
slots_in_same u bytes e = rw e

-- ---- the first k slots of the bytes, which have them all, are the list ss

module _ {k : ℕ} {bytes : List ℕ} {ss : List Slot} (f : Front k bytes) (v : take k (slots bytes) ≡ ss) where
  pub length_is : length ss ≡ k
  length_is = ap length (sym v) ∙ length-first bytes k f.whole

  -- Slot i stands in the bytes.
  module _ (i : ℕ) (h : i < length ss) where
    pub slot_room : i * slot_bytes + slot_bytes ≤ length bytes
    slot_room = omega (arith, length_is, f.whole)

    pub slot_is : slot_at bytes i ≡ slot_in ss i
    slot_is = sym (first_at bytes k i (omega (arith, length_is))) ∙ ap (λ (x : List Slot). slot_in x i) v

-- What the methods that read need, found without an answer.
pub ruleset in_front = (length_is, slot_room, slot_is)

-- ---- k slots are in use, of n that there is room for

module _ {n k : ℕ} {bytes : List ℕ} (w : Within n k bytes) where
  -- The bytes have them all.
  pub room_bytes : n * slot_bytes ≤ length bytes
  room_bytes = omega (arith, w.room, slots_in_bytes bytes)

  front : Front k bytes
  front = record { whole = omega (arith, w.used, room_bytes) }

  -- What is written into the bytes leaves the room.
  pub within_still : {u : List ℕ} → length u ≡ length bytes → Within n k u
  within_still e = record { room = w.room ∙ sym (slots_in_same _ _ e); most = w.most; used = w.used }

  -- They are the slots of a table t.
  module _ {t : Table} (v : table_in n k bytes ≡ t) where
    front_is : take k (slots bytes) ≡ t.slots
    front_is = ap (λ (x : Table). x.slots) v

    -- So what is read in the bytes is these.
    pub read_is : {ss : List Slot} → ss ≡ take k (slots bytes) → ss ≡ t.slots
    read_is e = e ∙ front_is

    pub count_is : length t.slots ≡ k
    count_is = length_is front front_is

    pub room_is : n ≡ t.room
    room_is = ap (λ (x : Table). x.room) v

    -- Slot i stands in the bytes.
    module _ (i : ℕ) (h : i < length t.slots) where
      pub place_room : i * slot_bytes + slot_bytes ≤ length bytes
      place_room = slot_room front front_is i h

      -- Stored in its place, a slot is slot i.
      pub stored_is : (s : Slot) (u : List ℕ) → slots u ≡ set (slots bytes) i s → table_in n k u ≡ stored t i s
      stored_is s u e =
          ap (table n) (ap (take k) e ∙ take-set-lt k (slots bytes) i s (omega (arith, count_is))) ∙ ap (λ (x : Table). stored x i s) v

      pub marked_is : (u : List ℕ) → slots u ≡ set (slots bytes) i (taken_slot (slot_at bytes i)) → table_in n k u ≡ marked t i
      marked_is u e = stored_is (taken_slot (slot_at bytes i)) u e ∙ ap (λ (s : Slot). stored t i (taken_slot s)) (slot_is front front_is i h)

    -- Where there is room for one more, its bytes are there.
    module _ (h : length t.slots < t.room) where
      pub next_room : k * slot_bytes + slot_bytes ≤ length bytes
      next_room = omega (arith, count_is, room_is, room_bytes)

      pub within_more : {u : List ℕ} → length u ≡ length bytes → Within n (k + 1) u
      within_more e = let r = within_still e in record { room = r.room; most = r.most; used = omega (arith, count_is, room_is) }

      -- Stored there, a slot is one more.
      pub pushed_is : (s : Slot) (u : List ℕ) → slots u ≡ set (slots bytes) k s → table_in n (k + 1) u ≡ pushed t s
      pushed_is s u e =
          ap (table n) (ap (take (k + 1)) e ∙ take_more_set (slots bytes) k s (slot_inside bytes k next_room)) ∙ ap (λ (x : Table). pushed x s) v

-- What the methods' goals need, found without an answer. `within_still` is not among them: with it the search for the invariant after `mark` and `store`
-- came to its limit, also where the law takes the parts of `Within`.
pub ruleset in_table = (read_is, count_is, room_is, place_room, stored_is, marked_is, next_room, within_more, pushed_is)
