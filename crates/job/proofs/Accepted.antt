-- What acceptance says of a job's bytes, for the code that reads accepted jobs.
use Rattle.std.proofs.Common.{◌≡◌, ◌∙◌, ℕ, ◌+◌, ◌-◌, ◌≤◌, ◌<◌, arith, List, length, drop, length-drop, length-take-le}
use Rattle.model.specs.Verdict.{no_refusal}
use Rattle.model.specs.logic.Formula.{Formula}
use Rattle.model.specs.logic.Parts.{most_parts, parts_of}
use Rattle.model.specs.logic.Reading.{formula, parsed}
use Rattle.model.specs.job.Job.{Action, action_of, no_action}
use Rattle.model.specs.job.Layout.{fact_count, action_count, constraint_count, hint_count, pair_count, pair_offset, pair_length, section_bytes, action_at}
use Rattle.model.specs.job.Layout.{formula_in, formula_at, job_of}
use Rattle.model.specs.job.Decoding.{job_verdict}
use Rattle.model.proofs.logic.ReadingLaws.{section_from, parsed_wider}
use Rattle.model.proofs.job.VerdictLaws.{get_or-list_of}
use Rattle.model.proofs.job.Accepted.{section_fine, accepted_checks, each_formula}
use Rattle.job.specs.Laid.{Laid, Formulated}
use Rattle.job.proofs.Bounds.{some_pairs, task_pair, laid, head_there, action_there}

module _ (bytes : List ℕ) where
  section_size : (i : ℕ) → pair_offset bytes i + pair_length bytes i ≤ length bytes → length (section_bytes bytes i) ≡ pair_length bytes i
  unfolding section_bytes
  section_size i h = length-take-le (pair_length bytes i) (drop (pair_offset bytes i) bytes) (rw length-drop (omega arith))

  -- What is read with fewer facts and actions is read with 64.
  section_read : (i n : ℕ) (φ : Formula) → fact_count bytes ≤ 64 → action_count bytes ≤ 64 → formula_in bytes i ≡ formula φ n
      → (parsed 64 64 (section_bytes bytes i) 0 ≡ formula φ n) × (n ≡ length (section_bytes bytes i))
  unfolding formula_in
  section_read i n φ v a e =
      let p = section_from (fact_count bytes) (action_count bytes) (section_bytes bytes i) φ n e in
      (parsed_wider (fact_count bytes) (action_count bytes) 64 64 (section_bytes bytes i) v a 0 φ n p.0, p.1)

-- Action i of the job that the bytes stand for.
pub action_of_lem : (bytes : List ℕ) (i : ℕ) → i < action_count bytes → action_of (job_of bytes) i ≡ action_at bytes i
unfolding action_of job_of
action_of_lem bytes i l = get_or-list_of (action_at bytes) (action_count bytes) i no_action l

-- A number that was read of it, with its number k as an index.
pub field_read : (bytes : List ℕ) {i k : ℕ} → k ≡ i → i < action_count bytes → (f : Action → ℕ) {x : ℕ} → x ≡ f (action_at bytes k)
    → x ≡ f (action_of (job_of bytes) i)
field_read bytes {i} e l f h = rw (action_of_lem bytes i l, ← e) h

-- ---- an accepted job
module _ (bytes : List ℕ) (h : job_verdict bytes ≡ no_refusal) where
  pub accepted_laid : Laid bytes
  accepted_laid = laid bytes (accepted_checks bytes h).0 (accepted_checks bytes h).1

  -- There are at most sixteen formulas.
  pub few_pairs : pair_count bytes ≤ 17
  unfolding pair_count
  few_pairs = let l = accepted_laid in omega arith

  formulated_next : (i : ℕ) → i < constraint_count bytes + hint_count bytes → 1 + i < pair_count bytes → Formulated bytes (1 + i)
  formulated_next i l m = record {
    size = size;
    whole = rw exact at found.1;
    read = rw exact at read.0;
    few_parts = passed.1;
  }
    where
      size : length (section_bytes bytes (1 + i)) ≡ pair_length bytes (1 + i)
      size = section_size bytes (1 + i) (accepted_laid.section (1 + i) m)

      passed : ((n : ℕ) × (formula_in bytes (1 + i) ≡ formula (formula_at bytes (1 + i)) n)) × (length (parts_of (formula_at bytes (1 + i))) ≤ most_parts)
      passed = section_fine bytes (pair_offset bytes (1 + i)) (1 + i) (each_formula bytes h i l)

      found : (n : ℕ) × (formula_in bytes (1 + i) ≡ formula (formula_at bytes (1 + i)) n)
      found = passed.0

      read : (parsed 64 64 (section_bytes bytes (1 + i)) 0 ≡ formula (formula_at bytes (1 + i)) found.0) × (found.0 ≡ length (section_bytes bytes (1 + i)))
      read = section_read bytes (1 + i) found.0 (formula_at bytes (1 + i)) accepted_laid.head.few_facts accepted_laid.head.few_actions found.1

      exact : found.0 ≡ pair_length bytes (1 + i)
      exact = read.1 ∙ size

  pub accepted_formula : (i : ℕ) → 1 ≤ i → i < pair_count bytes → Formulated bytes i
  unfolding pair_count
  accepted_formula i m l =
      let e : 1 + (i - 1) ≡ i = omega arith in
      rw e at (formulated_next (i - 1) (omega arith) (omega arith))

-- By these a reader of an accepted job finds that all which it reads is there.
pub ruleset reading = (accepted_laid, few_pairs, some_pairs, head_there, action_there)
