-- Laws of lookups in a list of slots, from its elements; and that what is found is in the list.
use Rattle.std.proofs.Common.{Option, None, Some, IfSome, MatchOption, ap, zero-add, ◌≡◌, refl, sym, ◌∙◌, Bool, true, false, List, [], ◌∷◌}
use Rattle.std.proofs.Common.{ℕ, zero, suc, ◌+◌, ◌*◌, ◌≤◌, ◌<◌, arith, length, get_or, take, drop, drop_of_length-le, drop-cons, get_or-take}
use Rattle.std.proofs.Common.{length-take-le, eqb, ap₂}
use Rattle.std.specs.List.{list_all, range_with_len}
use mathlib.Core.Bool.{◌&&◌}
use Rattle.model.specs.logic.Formula.{choose}
use Rattle.model.specs.exploration.Key.{Key, less}
use Rattle.model.specs.search.Node.{same_numbers, node_words}
use Rattle.model.specs.calls.Search.{slot_bytes}
use Rattle.task.specs.declared.Key as code
use Rattle.task.specs.Meaning.{key_is}
use Rattle.table.specs.declared.Slot.{Slot}
use Rattle.table.specs.declared.lookup.Candidate.{Candidate}
use Rattle.table.specs.Cells.{word, row_words}
use Rattle.table.specs.Slots.{slots, slot_at, slot_in, no_slot}
use Rattle.table.specs.Lookup.{find_in, rank_at, candidate, better, least_in, slot_of_best}
use Rattle.table.proofs.SlotLaws.{length-slots, length-node, node_word}

-- ---- the node of slot i against a, word by word

both : (b c : Bool) → (b && c) ≡ elim b [ true ↦ c | false ↦ false ]
both true c = refl
both false c = refl

-- Two lists of one length are the same exactly if their elements at all the numbers from k on are.
same_numbered : (f : ℕ → Bool) (a b : List ℕ) (k : ℕ) → length a ≡ length b → ((j : ℕ) → j < length a → f (k + j) ≡ eqb (get_or a j 0) (get_or b j 0))
    → list_all f (range_with_len k (length a)) ≡ same_numbers a b
unfolding same_numbers
same_numbered f [] [] k e h = refl
same_numbered f [] (y ∷ ys) k e h = absurd (omega arith)
same_numbered f (x ∷ xs) [] k e h = absurd (omega arith)
same_numbered f (x ∷ xs) (y ∷ ys) k e h =
    let z : k + 0 ≡ k = omega arith in
    let r = same_numbered f xs ys (k + 1) (omega arith) (λ j l. let q : k + 1 + j ≡ k + suc j = omega arith in rw q (h (suc j) (omega arith))) in
    ap₂ (λ (b c : Bool). b && c) (rw z at (h 0 (omega arith))) r ∙ both (eqb x y) (same_numbers xs ys)

pub node_same : (l a : List ℕ) (i : ℕ) → i * slot_bytes + slot_bytes ≤ length l → length a ≡ node_words
    → list_all (λ j. eqb (get_or a j 0) (word l (i * row_words + j))) (range_with_len 0 node_words) ≡ same_numbers a (slot_at l i).node
node_same l a i h e =
    rw e at
    (same_numbered (λ j. eqb (get_or a j 0) (word l (i * row_words + j))) a (slot_at l i).node 0 (e ∙ sym (length-node l i h))
    (λ j g. rw (zero-add j) (ap (eqb (get_or a j 0)) (sym (node_word l i j (omega (arith, e)) h)))))

-- ---- the first n slots: how many, and which

pub length-first : (l : List ℕ) (n : ℕ) → n * slot_bytes ≤ length l → length (take n (slots l)) ≡ n
length-first l n h = length-take-le n (slots l) (omega (arith, length-slots l))

pub first_at : (l : List ℕ) (n i : ℕ) → i < n → get_or (take n (slots l)) i no_slot ≡ slot_at l i
first_at l n i g = get_or-take n (slots l) i no_slot g

-- ---- the first slot of a node

module _ (a : List ℕ) where
  abbrev pub Here : List Slot → ℕ → Type 0
  Here ss i = true ≡ same_numbers a (slot_in ss i).node

  abbrev pub Other : List Slot → ℕ → Type 0
  Other ss i = false ≡ same_numbers a (slot_in ss i).node

  find_none : (ss : List Slot) (k : ℕ) → ((j : ℕ) → 0 ≤ j → j < length ss → Other ss j) → None ≡ find_in a ss k
  unfolding find_in
  find_none [] k h = refl
  find_none (s ∷ ss) k h = rw (find_in, ← h 0 (omega arith) (omega arith)) (find_none ss (suc k) (λ j z l. h (suc j) (omega arith) (omega arith)))

  find_some : (ss : List Slot) (k i : ℕ) → i < length ss → Here ss i → ((j : ℕ) → 0 ≤ j → j < i → Other ss j) → Some (k + i) ≡ find_in a ss k
  unfolding find_in
  find_some [] k i l y h = absurd (omega arith)
  find_some (s ∷ ss) k zero l y h = let e : k + 0 ≡ k = omega arith in rw (find_in, ← y) (ap Some e)
  find_some (s ∷ ss) k (suc i) l y h =
      let e : k + suc i ≡ suc k + i = omega arith in
      rw (find_in, ← h 0 (omega arith) (omega arith)) (ap Some e ∙ find_some ss (suc k) i (omega arith) y (λ j z m. h (suc j) (omega arith) (omega arith)))

  -- The first of the slots' numbers at which the node is, if it is at one, is what is looked up.
  pub find_first : (ss : List Slot) (n : ℕ) (r : Option ℕ) → length ss ≡ n
      → MatchOption r ((k : ℕ) → 0 ≤ k → k < n → Other ss k) (λ i. (0 ≤ i) × (i < n) × Here ss i × ((k : ℕ) → 0 ≤ k → k < i → Other ss k))
      → r ≡ find_in a ss 0
  find_first ss n None e h = find_none ss 0 (λ j z l. h j z (omega arith))
  find_first ss n (Some i) e h = let z : 0 + i ≡ i = omega arith in ap Some (sym z) ∙ find_some ss 0 i (omega arith) h.2 h.3

-- ---- the better of two

pub better_taken : (s : Slot) (k : ℕ) (b : Option Candidate) → true ≡ s.taken → b ≡ better s k b
unfolding better
better_taken s k None q = rw (← q)
better_taken s k (Some b) q = rw (← q)

-- an open slot s, whose rank is r
module _ (s : Slot) (k : ℕ) (q : false ≡ s.taken) (r : code.Key) (e : key_is r ≡ rank_at s) where
  candidate_is : Some (record { slot = k; rank = r }) ≡ Some (candidate s k)
  candidate_is = ap (λ (z : Key). Some (record { slot = k; rank = record { cost = z.cost; steps = z.steps } })) e

  pub better_first : Some (record { slot = k; rank = r }) ≡ better s k None
  unfolding better
  better_first = rw (← q) candidate_is

  module _ (b : Candidate) where
    pub better_behind : true ≡ less (key_is b.rank) (key_is r) → Some b ≡ better s k (Some b)
    unfolding better
    better_behind l = rw (← q, ← e, ← l)

    pub better_here : false ≡ less (key_is b.rank) (key_is r) → Some (record { slot = k; rank = r }) ≡ better s k (Some b)
    unfolding better
    better_here l = rw (← q) (rw (← e, ← l) candidate_is)

-- ---- the least of the slots from i on

module _ (ss : List Slot) where
  pub least_none : (i : ℕ) → length ss ≤ i → None ≡ least_in (drop i ss) i
  unfolding least_in
  least_none i g = rw (drop_of_length-le ss g)

  pub least_more : (i k : ℕ) (s : Slot) (b r : Option Candidate) → b ≡ least_in (drop k ss) k → r ≡ better s i b → k ≡ suc i
      → get_or ss i no_slot ≡ s → i < length ss → r ≡ least_in (drop i ss) i
  unfolding least_in
  least_more i k s b r e q d f g = rw (q, e, d, drop-cons ss i no_slot g, f)

-- ---- what is found is in the list

-- what was found, if anything, is below n
abbrev Below : ℕ → Option ℕ → Type 0
Below n f = IfSome f (λ i. i < n)

better_below : (s : Slot) (k n : ℕ) (b : Option Candidate) → k < n → Below n (slot_of_best b) → Below n (slot_of_best (better s k b))
unfolding better slot_of_best
better_below s k n None g h = go s.taken
  where
    go : (t : Bool) → Below n (slot_of_best (choose t None (Some (candidate s k))))
    go true = tt
    go false = g
better_below s k n (Some b) g h = go s.taken (less (key_is b.rank) (rank_at s))
  where
    go : (t l : Bool) → Below n (slot_of_best (choose t (Some b) (choose l (Some b) (Some (candidate s k)))))
    go true l = h
    go false true = h
    go false false = g

least_below : (ss : List Slot) (k : ℕ) → Below (k + length ss) (slot_of_best (least_in ss k))
unfolding least_in slot_of_best
least_below [] k = tt
least_below (s ∷ ss) k =
    let e : suc k + length ss ≡ k + suc (length ss) = omega arith in
    better_below s k (k + suc (length ss)) (least_in ss (suc k)) (omega arith) (rw e at (least_below ss (suc k)))

-- What `least` answers is a slot of the list.
pub least_inside : (ss : List Slot) (f : Option ℕ) (i : ℕ) → f ≡ Some i → f ≡ slot_of_best (least_in ss 0) → i < length ss
least_inside ss f i q e = rw (zero-add, ← e, q) at (least_below ss 0)
