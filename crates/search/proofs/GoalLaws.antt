-- Laws of the goals of a key and of the cut slots, in a list of slots.
use Rattle.std.proofs.Common.{◌≡◌, refl, sym, ap, ap₂, ◌∙◌, Bool, true, false, Option, None, Some, List, [], ◌∷◌, ℕ, zero, suc, ◌+◌, ◌-◌, ◌≤◌, ◌<◌}
use Rattle.std.proofs.Common.{arith, length}
use Rattle.std.proofs.Common.{drop, drop_of_length-le, drop-cons}
use Rattle.std.specs.List.{list_any, range_with_len}
use mathlib.Core.Bool.{◌||◌}
use Rattle.model.specs.logic.Formula.{choose}
use Rattle.model.specs.exploration.Key.{Key}
use Rattle.model.proofs.exploration.KeyLaws.{same_key_lem}
use Rattle.model.proofs.Tests.{and_both}
use Rattle.task.specs.Meaning.{key_is}
use Rattle.table.specs.declared.Slot.{Slot}
use Rattle.table.specs.Slots.{slot_in, no_slot}
use Rattle.paths.specs.Chain.{order, Level}
use Rattle.search.specs.GoalSlots.{slot_cut, any_cut, due, chosen, first_due, After}

-- ---- a slot that is due

-- A slot that is due has that cost and so many steps.
pub due_key : (job : List ℕ) (k : Key) (x : Slot) → due job k x ≡ true → (x.key.cost ≡ k.cost) × (x.key.steps ≡ k.steps)
unfolding due
due_key job k x h =
    let e : key_is x.key ≡ k = same_key_lem _ _ ((and_both _ _).0 ((and_both _ _).0 h).0).0 in
    (ap (λ (y : Key). y.cost) e, ap (λ (y : Key). y.steps) e)

-- What was found after slot i, which is due, can be compared with it.
pub comparable : (job : List ℕ) (ss : List Slot) (i b : ℕ) (k : Key) → true ≡ due job k (slot_in ss i) → After ss (i + 1) k (Some b) → i < length ss
    → Level ss b i
comparable job ss i b k d h l =
    record { first = h.1; second = l; differ = λ e. omega arith; level = h.3 ∙ sym (due_key job k (slot_in ss i) (sym d)).1 }

-- ---- the slots from i on

module _ (job : List ℕ) (k : Key) (ss : List Slot) where
  abbrev From : ℕ → Option ℕ
  From i = first_due job k ss (drop i ss) i

  -- After the last there is none, and slot i is chosen against those after it.
  pub due_none : (i : ℕ) → length ss ≤ i → None ≡ From i
  unfolding first_due
  due_none i g = rw (drop_of_length-le ss g)

  pub due_more : (i : ℕ) → i < length ss → From i ≡ chosen ss (due job k (slot_in ss i)) i (From (suc i))
  unfolding first_due
  due_more i g = rw (drop-cons ss i no_slot g)

  -- A turn of the loop, which counts down.
  pub due_turn : (i j : ℕ) {f r : Option ℕ} → f ≡ From j → r ≡ chosen ss (due job k (slot_in ss i)) i f → j ≡ suc i → i < length ss → r ≡ From i
  due_turn i j e q d h = q ∙ rw (e, d) (sym (due_more i h))

  -- What is chosen is slot i or was found after it.
  chosen_from : (i : ℕ) (f : Option ℕ) → After ss (suc i) k f → i < length ss → After ss i k (chosen ss (due job k (slot_in ss i)) i f)
  unfolding chosen
  chosen_from i f h l = go (due job k (slot_in ss i)) refl f h
    where
      here : due job k (slot_in ss i) ≡ true → After ss i k (Some i)
      here e = let p = due_key job k (slot_in ss i) e in (omega arith, l, p.0, p.1)

      go : (b : Bool) → due job k (slot_in ss i) ≡ b → (f : Option ℕ) → After ss (suc i) k f → After ss i k (chosen ss b i f)
      go true e None h = here e
      go true e (Some b) h = pick (order ss b i)
        where
          pick : (o : Bool) → After ss i k (choose o (Some b) (Some i))
          pick true = (omega arith, h.1, h.2, h.3)
          pick false = here e
      go false e None h = tt
      go false e (Some b) h = (omega arith, h.1, h.2, h.3)

  after_from : (d i : ℕ) → d + i ≡ length ss → After ss i k (From i)
  after_from zero i e = rw (← due_none i (omega arith)) tt
  after_from (suc d) i e =
      rw (due_more i (omega arith)) (chosen_from i (From (suc i)) (after_from d (suc i) (omega arith)) (omega arith))

  -- What is found is one of them, of that cost and with so many steps.
  pub due_after : (i : ℕ) → i ≤ length ss → After ss i k (From i)
  due_after i l = after_from (length ss - i) i (omega arith)

-- ---- a cut slot among all

-- Some slot is cut exactly if one is of those that are numbered from a on.
pub any_numbered : (job : List ℕ) (f : ℕ → Slot) (ss : List Slot) (a : ℕ) → ((k : ℕ) → k < length ss → f (a + k) ≡ slot_in ss k)
    → list_any (λ k. slot_cut job (f k)) (range_with_len a (length ss)) ≡ any_cut job ss
unfolding any_cut
any_numbered job f [] a h = refl
any_numbered job f (x ∷ xs) a h =
    let z : a + 0 ≡ a = omega arith in
    ap₂ (λ (b c : Bool). b || c) (ap (slot_cut job) (rw z at (h 0 (omega arith))))
    (any_numbered job f xs (a + 1) (λ k l. let e : a + 1 + k ≡ a + suc k = omega arith in rw e (h (suc k) (omega arith))))
