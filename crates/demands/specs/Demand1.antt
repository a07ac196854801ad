-- Demand 1: for any bytes a result or a numbered refusal. Which numbers each call can refuse with, and what it leaves of the lent slices.
use Rattle.std.specs.Prelude.{Err, ◌≡◌, ◌↔◌, ◌⊎◌, List, ℕ, ◌≤◌, length, replicate}
use Rattle.model.specs.Verdict.{no_refusal}
use Rattle.model.specs.Refusal.{Refusal, refusal}
use Rattle.model.specs.Results.{Validated}
use Rattle.model.specs.job.Layout.{action_count}
use Rattle.model.specs.job.Decoding.{job_verdict}
use Rattle.model.specs.calls.Call.{Call, call_verdict}
use Rattle.model.specs.calls.Search.{SearchEnd}
use Rattle.model.specs.calls.WriteBack.{WriteEnd}

-- "a job is accepted if none of 1 to 5 in the table of refusals below applies to it"
abbrev pub Accepted : List ℕ → Type 0
Accepted job = job_verdict job ≡ no_refusal

-- A call is taken if its job is accepted and 14 does not apply to its list, either.
abbrev pub Taken : Call → Type 0
Taken call = call_verdict call ≡ no_refusal

abbrev pub Between : ℕ → ℕ → ℕ → Type 0
Between low high k = (low ≤ k) × (k ≤ high)

-- What each call checks first, search and read-through alike: the job, and then "a list whose length is not A is refused as 14 after number 5, with its
-- length as place".
pub record Checks (call : Call) : Type 0 where
  pub taken_if : Taken call ↔ (Accepted call.bytes × (length call.needs ≡ action_count call.bytes))
  pub not_accepted : {r : Refusal} → job_verdict call.bytes ≡ Err r → (call_verdict call ≡ Err r) × Between 1 5 r.number
  pub other_length : Accepted call.bytes → (length call.needs ≡ action_count call.bytes → ⊥)
      → call_verdict call ≡ Err (refusal 14 (length call.needs))

-- The end of a search, `search::search` and `search::planned`.
pub record SearchRefuses (call : Call) (table buffer : List ℕ) (e : SearchEnd) : Type 0 where
  -- A search refuses with 1 to 5, 14, or 10 to 13.
  pub numbers : {r : Refusal} → e.result ≡ Err r → Between 1 5 r.number ⊎ (r.number ≡ 14) ⊎ Between 10 13 r.number
  -- A call that is not taken is refused as its check says, one that is taken with 10 to 13.
  pub not_taken : {r : Refusal} → call_verdict call ≡ Err r → e.result ≡ Err r
  pub taken : Taken call → {r : Refusal} → e.result ≡ Err r → Between 10 13 r.number
  -- "if refused, the plan buffer untouched"
  pub buffer_kept : {r : Refusal} → e.result ≡ Err r → e.plan ≡ buffer
  -- "Numbers 1 to 9 leave everything lent alone; search answers and 10 to 13 of a search leave every byte of the table zero", of any table; "14 to 18
  -- leave everything lent alone".
  pub table_kept : (Taken call → ⊥) → e.table ≡ table
  pub table_zero : Taken call → e.table ≡ replicate (length table) 0

-- The result of a read-through, `validate::validate`, to which nothing is lent that it could write.
pub record ReadThroughRefuses (call : Call) (v : Validated) : Type 0 where
  -- A read-through refuses with 1 to 9, 14 or 15.
  pub numbers : {r : Refusal} → v ≡ Err r → Between 1 9 r.number ⊎ Between 14 15 r.number
  -- A call that is not taken is refused as its check says, a step list of one that is taken with 6 to 9 or 15.
  pub not_taken : {r : Refusal} → call_verdict call ≡ Err r → v ≡ Err r
  pub taken : Taken call → {r : Refusal} → v ≡ Err r → Between 6 9 r.number ⊎ (r.number ≡ 15)

-- "For a rule to write back, V and A outside their ranges give 1, length 0 or over 128 gives 2 (place 0), then 4 and 5 .., then 13."
abbrev pub RuleNumber : ℕ → Type 0
RuleNumber k = (k ≡ 1) ⊎ (k ≡ 2) ⊎ (k ≡ 4) ⊎ (k ≡ 5) ⊎ (k ≡ 13)

-- The end of writing back, `normal::write_back`.
pub record WriteBackRefuses (buffer : List ℕ) (e : WriteEnd) : Type 0 where
  pub numbers : {r : Refusal} → e.result ≡ Err r → RuleNumber r.number
  -- "Its buffer is untouched if refused"
  pub buffer_kept : {r : Refusal} → e.result ≡ Err r → e.buffer ≡ buffer

-- ---- the functions for C

-- What `dagzhimo_search`, `dagzhimo_validate` and `dagzhimo_write_back` answer: 0 for a result, or the number of a refusal.
abbrev pub SearchAnswer : ℕ → Type 0
SearchAnswer k = (k ≡ 0) ⊎ Between 1 5 k ⊎ (k ≡ 14) ⊎ Between 10 13 k

abbrev pub ValidateAnswer : ℕ → Type 0
ValidateAnswer k = (k ≡ 0) ⊎ Between 1 9 k ⊎ Between 14 15 k

abbrev pub WriteAnswer : ℕ → Type 0
WriteAnswer k = (k ≡ 0) ⊎ RuleNumber k
