-- What decoding gives, and what an accepted job tells of its formulas.
use Rattle.std.specs.Prelude.{ℕ, ◌+◌, ◌-◌, List, length, Result, Ok, Err}
use Rattle.model.specs.Refusal.{Refusal}
use Rattle.model.specs.job.Layout.{pair_offset, pair_length}
use Rattle.model.specs.job.Decoding.{job_verdict}

-- the bytes, or the first refusal that applies to them
unfoldable pub decoded : List ℕ → Result (List ℕ) Refusal
unfolding job_verdict
decoded bytes = elim (job_verdict bytes) [ Ok _ ↦ Ok bytes | Err r ↦ Err r ]

-- how many bytes the formulas have: they stand after the task
abbrev pub formula_bytes : List ℕ → ℕ
formula_bytes bytes = length bytes - (pair_offset bytes 0 + pair_length bytes 0)
