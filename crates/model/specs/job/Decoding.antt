-- The refusals 1 to 5, in the order of document 01's table.
use Rattle.std.specs.Prelude.{Err, Bool, ◌&&◌, ◌||◌, List, [], ◌∷◌, length, drop, ltb}
use Prim.Native.Nat.{ℕ, zero, suc, ◌+◌, ◌-◌, ◌*◌, ◌^◌}
use Rattle.std.proofs.Math.Dec.{eqb, leb}
use Rattle.model.specs.Verdict.{no_refusal, Verdict, unless, or_else, in_turn}
use Rattle.model.specs.Bits.{number_at}
use Rattle.model.specs.Refusal.{refusal}
use Rattle.model.specs.logic.Reading.{Parsed, formula, wrong}
use Rattle.model.specs.logic.Parts.{most_bytes, most_parts, Part, parts_of}
use Rattle.model.specs.job.Layout.{set_bytes, plain_sets, all_sets, fact_count, action_count, constraint_count, hint_count, pair_count, pair_offset}
use Rattle.model.specs.job.Layout.{pair_length, task_bytes, set_count, set_offset, formula_in}

-- "V and A outside their ranges"
unfoldable pub counts_in_range : ℕ → ℕ → Bool
counts_in_range v a = leb 1 v && leb v 64 && leb a 64

-- "more than 6 carried parts": refused at "the seventh", counted from an offset
unfoldable pub parts_verdict : ℕ → List Part → Verdict
parts_verdict o ps = elim (drop most_parts ps) [ [] ↦ no_refusal | p ∷ qs ↦ Err (refusal 5 (o + p.position)) ]

-- a section's formula: "unknown code, number too large, early end, bytes left", then "same section, after 4" the carried parts
unfoldable pub formula_verdict : ℕ → Parsed → Verdict
unfolding parts_verdict parts_of
formula_verdict o (formula φ n) = parts_verdict o (parts_of φ)
formula_verdict o (wrong p) = Err (refusal 4 (o + p))

module _ (bytes : List ℕ) where
  -- head: "under 4 bytes, or a count out of range"
  unfoldable pub head_verdict : Verdict
  unfolding unless counts_in_range fact_count action_count constraint_count hint_count
  head_verdict =
      unless (leb 4 (length bytes) && counts_in_range (fact_count bytes) (action_count bytes) && leb (constraint_count bytes) 8 && leb (hint_count bytes) 8) 1 0

  -- "The first section begins right after the pairs, each next where the one before ended"
  unfoldable pub section_start : ℕ → ℕ
  unfolding pair_count pair_offset pair_length
  section_start zero = 4 + 4 * pair_count bytes
  section_start (suc i) = pair_offset bytes i + pair_length bytes i

  -- the task section has exactly the bytes of its start, goal and actions, with or without forbidden facts; a formula's "has 1 to 128 bytes"
  unfoldable pub right_length : ℕ → ℕ → Bool
  unfolding task_bytes
  right_length zero n = eqb n (task_bytes bytes plain_sets) || eqb n (task_bytes bytes all_sets)
  right_length (suc i) n = leb 1 n && leb n most_bytes

  -- pairs, in turn: "pair or section not whole, not adjoining, wrong length"
  unfoldable pub pair_verdict : ℕ → Verdict
  unfolding unless section_start right_length pair_offset pair_length
  pair_verdict i =
      unless (leb (8 + 4 * i) (length bytes) && eqb (pair_offset bytes i) (section_start i) && right_length i (pair_length bytes i)
      && leb (pair_offset bytes i + pair_length bytes i) (length bytes)) 2 i

  -- "or bytes after the last section": refused at "the last pair's" number
  unfoldable pub pairs_verdict : Verdict
  unfolding in_turn or_else pair_verdict unless section_start pair_count
  pairs_verdict = or_else (in_turn (pair_count bytes) pair_verdict) (unless (eqb (section_start (pair_count bytes)) (length bytes)) 2 (pair_count bytes - 1))

  -- task: "a bit V or above", refused at the "offset of the first such number"
  unfoldable pub set_verdict : ℕ → Verdict
  unfolding unless number_at fact_count
  set_verdict o = unless (ltb (number_at set_bytes bytes o) (2 ^ fact_count bytes)) 3 o

  unfoldable pub action_verdict : ℕ → Verdict
  unfolding in_turn set_verdict set_count set_offset
  action_verdict i = in_turn (set_count bytes) (λ k. set_verdict (set_offset bytes i k))

  unfoldable pub task_verdict : Verdict
  unfolding in_turn or_else set_verdict action_verdict pair_offset action_count
  task_verdict =
      or_else (set_verdict (pair_offset bytes 0)) (or_else (set_verdict (pair_offset bytes 0 + set_bytes)) (in_turn (action_count bytes) action_verdict))

  -- "each rule, then hint"
  unfoldable pub formulas_verdict : Verdict
  unfolding in_turn formula_verdict pair_offset formula_in constraint_count hint_count
  formulas_verdict =
      in_turn (constraint_count bytes + hint_count bytes) (λ i. formula_verdict (pair_offset bytes (1 + i)) (formula_in bytes (1 + i)))

  -- "a job is accepted if none of 1 to 5 in the table of refusals below applies to it"
  unfoldable pub job_verdict : Verdict
  unfolding or_else head_verdict pairs_verdict task_verdict formulas_verdict
  job_verdict = or_else head_verdict (or_else pairs_verdict (or_else task_verdict formulas_verdict))
