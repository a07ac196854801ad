-- What a search is asked. A later demand on a search is a field more, and a proof that does not look at it stays as it is.
use Rattle.std.specs.Prelude.{ℕ, List}
use Rattle.model.specs.job.Job.{Job}
use Rattle.model.specs.job.Layout.{job_of}
use Rattle.model.specs.job.Rights.{restricted}

pub record Query : Type 0 where
  -- the job's bytes
  pub bytes : List ℕ
  -- the steps that the caller may use, one bit each
  pub usable : ℕ

-- a query, of its parts
abbrev pub query : List ℕ → ℕ → Query
query bytes usable = record { bytes = bytes; usable = usable }

-- the job that is searched
abbrev pub job_for : Query → Job
job_for q = restricted q.usable (job_of q.bytes)
