-- Laws of the list of slots: its length, its elements, and how a row's change changes it.
use Rattle.std.proofs.Common.{◌≡◌, refl, sym, ap, ◌∙◌, ◌≢◌, List, ℕ, ◌+◌, ◌*◌, ◌/◌, ◌^◌, ◌≤◌, ◌<◌, arith, length, get_or, set, length-set, ext_get_or}
use Rattle.std.proofs.Common.{get_or-set_same, get_or-set_other, Bool, true, false, min, leb, leb-true, leb-false}
use Rattle.std.proofs.Math.Decide.{ℕ_discrete}
use Rattle.model.specs.calls.Search.{slots_in, slot_bytes}
use Rattle.model.specs.logic.Formula.{choose}
use Rattle.model.specs.search.Node.{node_words}
use Rattle.model.proofs.job.VerdictLaws.{get_or-list_of, length-list_of}
use Rattle.task.specs.declared.Key.{Key}
use Rattle.table.specs.declared.Slot.{Slot}
use Rattle.table.specs.Cells.{word, with_word, row, RowSet, row_words}
use Rattle.table.specs.Slots.{slots, slot_of, no_slot, slot_at, taken_slot, Narrow}
use Rattle.table.specs.Slots.{key_in, parent_in, action_in, taken_in, goal_in, estimate_in, flag_word}
use Rattle.table.proofs.RowLaws.{flag_marked, slot_marked}
use Rattle.table.proofs.CellLaws.{word_same, word_other, length-word, row_at, row_words_lem}

-- There are as many slots as the bytes have room for.
pub length-slots : (l : List ℕ) → length (slots l) ≡ length l / slot_bytes
unfolding slots
length-slots l = length-list_of (λ i. slot_of (row l i)) (length l / slot_bytes)

-- Those that a table counts are at most 65,536.
pub slots_counted : (l : List ℕ) (r : ℕ) → r ≡ min (length l / slot_bytes) 65536 → r ≡ slots_in l
unfolding slots_in
slots_counted l r e = go (leb (length l / slot_bytes) 65536) refl
  where
    go : (b : Bool) → leb (length l / slot_bytes) 65536 ≡ b → r ≡ choose b (length l / slot_bytes) 65536
    go true h = omega (arith, leb-true _ _ h)
    go false h = omega (arith, leb-false _ _ h)

-- A slot is there where its bytes are, and the reverse.
pub slot_inside : (l : List ℕ) (i : ℕ) → i * slot_bytes + slot_bytes ≤ length l → i < length (slots l)
slot_inside l i h = omega (arith, length-slots l)

pub slot_bytes_lem : (l : List ℕ) (i : ℕ) → i < length (slots l) → i * slot_bytes + slot_bytes ≤ length l
slot_bytes_lem l i h = omega (arith, length-slots l)

-- Slot i is that of row i.
pub slot_at_lem : (l : List ℕ) (i : ℕ) → i * slot_bytes + slot_bytes ≤ length l → slot_at l i ≡ slot_of (row l i)
unfolding slots
slot_at_lem l i h = get_or-list_of (λ k. slot_of (row l k)) (length l / slot_bytes) i no_slot (omega arith)

-- ---- the parts of a slot, from its last words

module _ (l : List ℕ) (i : ℕ) (h : i * slot_bytes + slot_bytes ≤ length l) where
  pub slot_key : {w : ℕ} {r : Key} → r ≡ key_in w → w ≡ word l (i * row_words + 17) → r ≡ (slot_at l i).key
  unfolding slot_of
  slot_key q e = q ∙ rw (slot_at_lem l i h, row_at l i 17 (omega arith), ← e)

  pub slot_estimate : {w : ℕ} {r : ℕ} → r ≡ estimate_in w → w ≡ word l (i * row_words + 19) → r ≡ (slot_at l i).estimate
  unfolding slot_of
  slot_estimate q e = q ∙ rw (slot_at_lem l i h, row_at l i 19 (omega arith), ← e)

  pub slot_parent : {w : ℕ} {r : ℕ} → r ≡ parent_in w → w ≡ word l (i * row_words + 17) → r ≡ (slot_at l i).parent
  unfolding slot_of
  slot_parent q e = q ∙ rw (slot_at_lem l i h, row_at l i 17 (omega arith), ← e)

  pub slot_action : {w : ℕ} {r : ℕ} → r ≡ action_in w → w ≡ word l (i * row_words + 18) → r ≡ (slot_at l i).action
  unfolding slot_of
  slot_action q e = q ∙ rw (slot_at_lem l i h, row_at l i 18 (omega arith), ← e)

  pub slot_taken : {w : ℕ} {r : Bool} → r ≡ taken_in w → w ≡ word l (i * row_words + 18) → r ≡ (slot_at l i).taken
  unfolding slot_of
  slot_taken q e = q ∙ rw (slot_at_lem l i h, row_at l i 18 (omega arith), ← e)

  pub slot_goal : {w : ℕ} {r : Bool} → r ≡ goal_in w → w ≡ word l (i * row_words + 18) → r ≡ (slot_at l i).goal
  unfolding slot_of
  slot_goal q e = q ∙ rw (slot_at_lem l i h, row_at l i 18 (omega arith), ← e)

-- ---- the node of a slot, from its first words

pub length-node : (l : List ℕ) (i : ℕ) → i * slot_bytes + slot_bytes ≤ length l → length (slot_at l i).node ≡ node_words
unfolding slot_of
length-node l i h = rw (slot_at_lem l i h) (length-list_of (λ j. get_or (row l i) j 0) node_words)

pub node_word : (l : List ℕ) (i j : ℕ) → j < node_words → i * slot_bytes + slot_bytes ≤ length l → get_or (slot_at l i).node j 0 ≡ word l (i * row_words + j)
unfolding slot_of
node_word l i j g h = rw (slot_at_lem l i h) (get_or-list_of (λ k. get_or (row l i) k 0) node_words j 0 g ∙ row_at l i j (omega arith))

-- What is read from a row is slot i, within its widths.
pub slot_read : (l a : List ℕ) (i : ℕ) (s : Slot) → s ≡ slot_of a → a ≡ row l i → i * slot_bytes + slot_bytes ≤ length l → (s ≡ slot_at l i) × Narrow s
unfolding slot_of
slot_read l a i s e q h = (
  e ∙ ap slot_of q ∙ sym (slot_at_lem l i h),
  rw e (record { cost = omega arith; steps = omega arith; estimate = omega arith; parent = omega arith; action = omega arith }),
)

-- ---- one slot changed

-- A row set, all others as they were, sets a slot.
pub slots_set : (l t a : List ℕ) (i : ℕ) (s : Slot) → RowSet l t i a → slot_of a ≡ s → length t ≡ length l → i * slot_bytes + slot_bytes ≤ length l
    → slots t ≡ set (slots l) i s
slots_set l t a i s q e n h =
    ext_get_or no_slot (slots t) (set (slots l) i s) (omega (arith, length-slots t, length-slots l, length-set (slots l) i s))
    (λ m g. go m (slot_bytes_lem t m g) (ℕ_discrete m i))
  where
    go : (m : ℕ) → m * slot_bytes + slot_bytes ≤ length t → Dec (m ≡ i) → get_or (slots t) m no_slot ≡ get_or (set (slots l) i s) m no_slot
    go m g (yes d) =
        rw d
        (slot_at_lem t i (omega arith) ∙ ap slot_of q.0 ∙ e ∙ sym (get_or-set_same (slots l) i s no_slot (slot_inside l i h)))
    go m g (no d) =
        slot_at_lem t m g ∙ ap slot_of (q.1 m d) ∙ sym (slot_at_lem l m (omega arith)) ∙ sym (get_or-set_other (slots l) i m s no_slot d)

-- A slot is marked by its word 18.
pub slots_marked : (l t : List ℕ) (i : ℕ) {v w a : ℕ} {g : Bool} → w ≡ word l (i * row_words + 18) → a ≡ action_in w → g ≡ goal_in w
    → v ≡ flag_word a true g → t ≡ with_word l (i * row_words + 18) v → v < 2 ^ 64 → i * slot_bytes + slot_bytes ≤ length l
    → slots t ≡ set (slots l) i (taken_slot (slot_at l i))
slots_marked l t i {v} {w} {a} {g} ew ea eg ev et b h =
    slots_set l t (row t i) i (taken_slot (slot_at l i)) (refl, other) (slot_marked (row l i) (row t i) beside here ∙ ap taken_slot (sym (slot_at_lem l i h)))
    (ap length et ∙ length-word l (i * row_words + 18) v) h
  where
    other : (m : ℕ) → m ≢ i → row t m ≡ row l m
    other m d =
        row_words_lem l t m (λ j g. ap (λ (x : List ℕ). word x (m * row_words + j)) et ∙ word_other l (i * row_words + 18) (m * row_words + j) v (omega arith))

    beside : (j : ℕ) → j < row_words → j ≢ 18 → get_or (row t i) j 0 ≡ get_or (row l i) j 0
    beside j g d =
        row_at t i j (omega arith) ∙ ap (λ (x : List ℕ). word x (i * row_words + j)) et ∙ word_other l (i * row_words + 18) (i * row_words + j) v (omega arith)
        ∙ sym (row_at l i j (omega arith))

    here : get_or (row t i) 18 0 ≡ flag_marked (get_or (row l i) 18 0)
    here =
        row_at t i 18 (omega arith) ∙ ap (λ (x : List ℕ). word x (i * row_words + 18)) et ∙ word_same l (i * row_words + 18) v b (omega arith) ∙ ev
        ∙ ap (λ (x : ℕ). flag_word x true g) ea ∙ ap (flag_word (action_in w) true) eg ∙ ap flag_marked (ew ∙ sym (row_at l i 18 (omega arith)))

-- What the functions on bytes need, found without an answer.
pub ruleset in_rows = (slots_counted, slot_key, slot_estimate, slot_parent, slot_action, slot_taken, slot_goal, slots_set, slots_marked)
