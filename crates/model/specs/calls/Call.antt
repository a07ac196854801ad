-- What a search and a read-through are called with: a job, the rights that its steps need, and those of the caller (card 4).
use Rattle.std.specs.Prelude.{ℕ, List, length, eqb}
use Rattle.model.specs.Verdict.{Verdict, unless, or_else}
use Rattle.model.specs.job.Job.{Job}
use Rattle.model.specs.job.Layout.{action_count}
use Rattle.model.specs.job.Decoding.{job_verdict}
use Rattle.model.specs.job.Rights.{usable_bits}
use Rattle.model.specs.search.Query.{Query, query, job_for}

pub record Call : Type 0 where
  -- the job's bytes
  pub bytes : List ℕ
  -- "a list lent beside the job gives 8 needed bits per step"
  pub needs : List ℕ
  -- "A caller passes 8 rights bits"
  pub rights : ℕ

-- a call, of its parts
abbrev pub call : List ℕ → List ℕ → ℕ → Call
call bytes needs rights = record { bytes = bytes; needs = needs; rights = rights }

-- "A list whose length is not A is refused as 14 after number 5, with its length as place"
unfoldable pub needs_verdict : Call → Verdict
unfolding unless action_count
needs_verdict c = unless (eqb (length c.needs) (action_count c.bytes)) 14 (length c.needs)

-- 1 to 5, and then 14
unfoldable pub call_verdict : Call → Verdict
unfolding or_else job_verdict needs_verdict
call_verdict c = or_else (job_verdict c.bytes) (needs_verdict c)

-- the steps that the caller may use, one bit each
abbrev pub usable_in : Call → ℕ
usable_in c = usable_bits c.needs c.rights

-- what a search is asked by a call
abbrev pub asked : Call → Query
asked c = query c.bytes (usable_in c)

-- the job as it is to the caller
abbrev pub caller_job : Call → Job
caller_job c = job_for (asked c)
