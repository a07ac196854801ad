-- The list of needed rights: bit i of the steps that may be used is that of its element i, and zeros bar no step.
use mathlib.Core.Path.{◌≡◌, sym, ap, ◌∙◌}
use Prim.Native.Nat.{ℕ, ◌≤◌, ◌<◌}
use native.Mathlib.Omega.{arith}
use native.Mathlib.Decide.{dec_lt}
use mathlib.Core.Bool.{Bool, true, false, true≢false}
use mathlib.Core.List.{List}
use lib.ListN.{length, get_or, replicate, length-replicate, get_or-replicate}
use lib.Seq.{ext_get_or}
use Rattle.model.specs.Bits.{bit}
use Rattle.model.specs.logic.Formula.{choose}
use Rattle.model.specs.job.Job.{Job, no_action, action_of, list_of}
use Rattle.model.specs.job.Rights.{usable_bits, barred, restricted}
use Rattle.model.specs.task.State.{within}
use Rattle.model.proofs.bits.Bits.{bit_zero}
use Rattle.model.proofs.bits.BitsOf.{bits_of_at, bits_of_past}
use Rattle.model.proofs.task.StateLaws.{within_facts}
use Rattle.model.proofs.job.VerdictLaws.{length-list_of, get_or-list_of}

-- Bit i tells whether the caller holds all that step i needs.
pub usable_bit : (needs : List ℕ) (rights i : ℕ) → i < length needs → bit (usable_bits needs rights) i ≡ within (get_or needs i 0) rights
unfolding usable_bits
usable_bit needs rights i l = bits_of_at (λ (n : ℕ). within n rights) 0 needs i l

-- After the last step's bit there is none.
pub usable_past : (needs : List ℕ) (rights i : ℕ) → length needs ≤ i → bit (usable_bits needs rights) i ≡ false
unfolding usable_bits
usable_past needs rights i l = bits_of_past (λ (n : ℕ). within n rights) needs i l

-- ---- further rights

within_more : (n r s : ℕ) → within r s ≡ true → within n r ≡ true → within n s ≡ true
within_more n r s h k = (within_facts n s).1 (λ i b. (within_facts r s).0 h i ((within_facts n r).0 k i b))

-- With further rights a step that may be used still may.
pub usable_more : (needs : List ℕ) (r s : ℕ) → within r s ≡ true → (i : ℕ) → bit (usable_bits needs r) i ≡ true → bit (usable_bits needs s) i ≡ true
usable_more needs r s h i b = go (dec_lt i (length needs))
  where
    go : Dec (i < length needs) → bit (usable_bits needs s) i ≡ true
    go (yes l) = usable_bit needs s i l ∙ within_more (get_or needs i 0) r s h (sym (usable_bit needs r i l) ∙ b)
    go (no l) = absurd (true≢false (sym b ∙ usable_past needs r i (omega arith)))

-- ---- zeros

-- "The program lends zeros, one a step, so it may use every step."
pub zeros_usable : (n rights i : ℕ) → i < n → bit (usable_bits (replicate n 0) rights) i ≡ true
zeros_usable n rights i l =
    usable_bit (replicate n 0) rights i (omega (arith, length-replicate {A = ℕ} n 0))
    ∙ ap (λ (x : ℕ). within x rights) (get_or-replicate n i 0 0 l)
    ∙ (within_facts 0 rights).1 (λ k b. absurd (true≢false (sym b ∙ bit_zero k)))

-- A job whose steps may all be used stays as it is.
pub all_usable : (u : ℕ) (j : Job) → ((i : ℕ) → i < length j.actions → bit u i ≡ true) → restricted u j ≡ j
unfolding restricted action_of
all_usable u j h = λ t. record { start = j.start; goal = j.goal; actions = steps t; constraints = j.constraints; hints = j.hints }
  where
    steps : list_of (λ i. choose (bit u i) (action_of j i) barred) (length j.actions) ≡ j.actions
    steps = ext_get_or no_action _ j.actions (length-list_of _ _) (λ i l.
        let inside : i < length j.actions = rw length-list_of at l in
        get_or-list_of _ (length j.actions) i no_action inside ∙ ap (λ (b : Bool). choose b (action_of j i) barred) (h i inside))
