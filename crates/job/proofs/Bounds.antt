-- Where the head and the pairs of a job are fine, all that a reader looks at is there.
use Rattle.std.proofs.Common.{◌≡◌, ℕ, zero, suc, ◌+◌, ◌*◌, ◌≤◌, ◌<◌, arith, mul-suc, mul-le-mul_left, true, List, leb, eqb, length, leb-true}
use Rattle.model.specs.Verdict.{no_refusal, in_turn}
use Rattle.model.specs.job.Layout.{set_bytes, action_bytes, action_count, pair_count, pair_offset, pair_length, task_bytes, set_count, action_offset}
use Rattle.model.specs.job.Layout.{set_offset}
use Rattle.model.specs.job.Decoding.{head_verdict, section_start, right_length, pair_verdict, pairs_verdict}
use Rattle.model.proofs.Tests.{and_both}
use Rattle.model.proofs.job.Forms.{task_length}
use Rattle.model.proofs.job.Accepted.{four_true, head_fine}
use Rattle.model.proofs.job.VerdictLaws.{or_else_fine, unless_fine, in_turn_fine}
use Rattle.job.specs.Laid.{HeadThere, ActionThere, Laid}

module _ (bytes : List ℕ) where
  -- The tests of a pair are true.
  abbrev PairTrue : ℕ → Type 0
  PairTrue i =
      (leb (8 + 4 * i) (length bytes) ≡ true) × (eqb (pair_offset bytes i) (section_start bytes i) ≡ true)
      × (right_length bytes i (pair_length bytes i) ≡ true) × (leb (pair_offset bytes i + pair_length bytes i) (length bytes) ≡ true)

  pair_tests : (n : ℕ) → in_turn n (pair_verdict bytes) ≡ no_refusal → (i : ℕ) → i < n → PairTrue i
  unfolding pair_verdict
  pair_tests n h i l = four_true _ _ _ _ ((unless_fine _ 2 i).0 ((in_turn_fine n (pair_verdict bytes)).0 h i l))

  -- A pair that is fine has its four bytes.
  pair_whole : (n : ℕ) → in_turn n (pair_verdict bytes) ≡ no_refusal → (i : ℕ) → i < n → 8 + 4 * i ≤ length bytes
  pair_whole n h i l = leb-true (8 + 4 * i) (length bytes) (pair_tests n h i l).0

  -- There is a pair for the task.
  pub some_pairs : 0 < pair_count bytes
  unfolding pair_count
  some_pairs = omega arith

  formula_length : (i n : ℕ) → 1 ≤ i → right_length bytes i n ≡ true → n ≤ 128
  unfolding right_length
  formula_length zero n l h = absurd (omega arith)
  formula_length (suc i) n l h = leb-true n 128 ((and_both (leb 1 n) (leb n 128)).0 h).1

  -- If the head and the pairs are fine, all is there.
  pub laid : head_verdict bytes ≡ no_refusal → pairs_verdict bytes ≡ no_refusal → Laid bytes
  unfolding pairs_verdict
  laid h p = record {
    head = head_fine bytes h;
    pair = pair_whole (pair_count bytes) each;
    section = λ i l. leb-true _ (length bytes) (tests i l).3;
    task = task_length bytes (tests 0 some_pairs).2;
    few_bytes = λ i m l. formula_length i _ m (tests i l).2;
  }
    where
      each : in_turn (pair_count bytes) (pair_verdict bytes) ≡ no_refusal
      each = ((or_else_fine (in_turn (pair_count bytes) (pair_verdict bytes)) _).0 p).0

      tests : (i : ℕ) → i < pair_count bytes → PairTrue i
      tests = pair_tests (pair_count bytes) each

-- One of n pieces of s bytes ends where the last one does, or before it.
piece_within : (s i n : ℕ) → i < n → s * i + s ≤ s * n
piece_within s i n h = rw (← mul-suc s i) (mul-le-mul_left s h)

-- Where the bytes of an action are there, each of its sets is.
module _ {bytes : List ℕ} {i : ℕ} (h : ActionThere bytes i) where
  pub set_inside : (k : ℕ) → k < set_count bytes → set_offset bytes i k + set_bytes ≤ length bytes
  unfolding set_offset
  set_inside k l = omega (arith, h.whole)

-- Where the head and the pairs are fine, the bytes of the task are there.
module _ {bytes : List ℕ} (l : Laid bytes) where
  pub task_pair : 8 ≤ length bytes
  task_pair = l.pair 0 (some_pairs bytes)

  task_inside : pair_offset bytes 0 + task_bytes bytes (set_count bytes) ≤ length bytes
  task_inside = omega (arith, l.section 0 (some_pairs bytes), l.task)

  pub head_there : HeadThere bytes
  unfolding task_bytes
  head_there = record { pair = task_pair; whole = omega (arith, task_inside) }

  pub action_there : (i : ℕ) → i < action_count bytes → ActionThere bytes i
  unfolding task_bytes action_offset
  action_there i h = record { pair = task_pair; whole = omega (arith, task_inside, piece_within (action_bytes (set_count bytes)) i (action_count bytes) h) }
