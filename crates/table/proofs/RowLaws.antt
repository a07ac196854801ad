-- Laws of a slot as a row of twenty words.
use Rattle.std.proofs.Common.{refl, ◌≡◌, ◌≢◌, Bool, true, false, List, ℕ, ◌+◌, ◌*◌, ◌/◌, ◌%◌, ◌<◌, arith, length, get_or, eqb}
use Rattle.std.specs.Int.{from_bool}
use Rattle.model.specs.Bits.{digit}
use Rattle.model.specs.job.Job.{list_of}
use Rattle.model.specs.search.Node.{node_words}
use Rattle.table.specs.declared.Slot.{Slot}
use Rattle.table.specs.Slots.{slot_of, row_of, action_in, goal_in, key_word, flag_word, taken_slot, Narrow}
use Rattle.table.specs.Cells.{row_words}
use Rattle.table.proofs.CellLaws.{list_of_elements, list_of_same}

-- ---- bits as numbers

pub byte_digit : (b : Bool) → from_bool b ≡ digit b
unfolding digit
byte_digit true = refl
byte_digit false = refl

-- ---- the parts of word 18: action, taken and goal are read as they were written

flag_taken : (action : ℕ) (taken goal : Bool) → action < 256 → eqb (flag_word action taken goal / 256 % 2) 1 ≡ taken
unfolding digit
flag_taken a true true h = let e : (a + 256 + 512) / 256 % 2 ≡ 1 = omega arith in rw e
flag_taken a true false h = let e : (a + 256 + 0) / 256 % 2 ≡ 1 = omega arith in rw e
flag_taken a false true h = let e : (a + 0 + 512) / 256 % 2 ≡ 0 = omega arith in rw e
flag_taken a false false h = let e : (a + 0 + 0) / 256 % 2 ≡ 0 = omega arith in rw e

flag_goal : (action : ℕ) (taken goal : Bool) → action < 256 → eqb (flag_word action taken goal / 512 % 2) 1 ≡ goal
unfolding digit
flag_goal a true true h = let e : (a + 256 + 512) / 512 % 2 ≡ 1 = omega arith in rw e
flag_goal a true false h = let e : (a + 256 + 0) / 512 % 2 ≡ 0 = omega arith in rw e
flag_goal a false true h = let e : (a + 0 + 512) / 512 % 2 ≡ 1 = omega arith in rw e
flag_goal a false false h = let e : (a + 0 + 0) / 512 % 2 ≡ 0 = omega arith in rw e

flag_action : (action : ℕ) (taken goal : Bool) → action < 256 → flag_word action taken goal % 256 ≡ action
unfolding digit
flag_action a true true h = omega arith
flag_action a true false h = omega arith
flag_action a false true h = omega arith
flag_action a false false h = omega arith

-- ---- the parts of word 17: steps and parent are read as they were written

key_steps : (c s p : ℕ) → c < 4294967296 → s < 65536 → key_word c s p / 4294967296 % 65536 ≡ s
key_steps c s p h g = let e : key_word c s p / 4294967296 ≡ s + p * 65536 = omega arith in rw e (omega arith)

key_parent : (c s p : ℕ) → c < 4294967296 → s < 65536 → p < 65536 → key_word c s p / 281474976710656 % 65536 ≡ p
key_parent c s p h g f = let e : key_word c s p / 281474976710656 ≡ p = omega arith in rw e (omega arith)

-- the word 18 of a slot that is taken now
abbrev pub flag_marked : ℕ → ℕ
flag_marked w = flag_word (action_in w) true (goal_in w)

-- ---- whole rows

-- A slot's row gives the slot again.
pub slot_again : (s : Slot) (r : List ℕ) (k f : ℕ) → r ≡ row_of s.node s.hints k f s.estimate → k ≡ key_word s.key.cost s.key.steps s.parent
    → f ≡ flag_word s.action s.taken s.goal → length s.node ≡ node_words → length s.hints ≡ 8 → Narrow s → slot_of r ≡ s
unfolding slot_of row_of list_of
slot_again s r k f q ek ef en eh w =
    let ec : key_word s.key.cost s.key.steps s.parent % 4294967296 ≡ s.key.cost = omega (arith, w.cost) in
    let es = key_steps s.key.cost s.key.steps s.parent w.cost w.steps in
    let ep = key_parent s.key.cost s.key.steps s.parent w.cost w.steps w.parent in
    let ea = flag_action s.action s.taken s.goal w.action in
    let et = flag_taken s.action s.taken s.goal w.action in
    let eg = flag_goal s.action s.taken s.goal w.action in
    let ee : s.estimate % 1073741824 ≡ s.estimate = omega (arith, w.estimate) in
    rw (q, ek, ef) (rw (list_of_elements s.node node_words en, list_of_elements s.hints 8 eh, ec, es, ee, ep, ea, et, eg))

-- A row whose word 18 alone is changed so is that of the slot, taken.
pub slot_marked : (l t : List ℕ) → ((j : ℕ) → j < row_words → j ≢ 18 → get_or t j 0 ≡ get_or l j 0) → get_or t 18 0 ≡ flag_marked (get_or l 18 0)
    → slot_of t ≡ taken_slot (slot_of l)
unfolding slot_of taken_slot
slot_marked l t h e =
    let w : ℕ = get_or l 18 0 in
    let low : action_in w < 256 = omega arith in
    let n = list_of_same (λ j. get_or t j 0) (λ j. get_or l j 0) node_words (λ j g. h j (omega arith) (omega arith)) in
    let k = list_of_same (λ j. get_or t (node_words + j) 0) (λ j. get_or l (node_words + j) 0) 8 (λ j g. h (node_words + j) (omega arith) (omega arith)) in
    rw (
      n,
      k,
      h 17 (omega arith) (omega arith),
      h 19 (omega arith) (omega arith),
      e,
      flag_action (action_in w) true (goal_in w) low,
      flag_taken (action_in w) true (goal_in w) low,
      flag_goal (action_in w) true (goal_in w) low,
    )
