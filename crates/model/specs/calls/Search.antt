-- A search on job bytes, with a lent table and a lent plan buffer.
use Rattle.std.specs.Prelude.{Ok, Err, ◌≡◌, ℕ, ◌/◌, ◌<◌, Bool, true, false, ◌⊎◌, List, ◌++◌, length, take, drop, replicate, leb}
use Rattle.model.specs.Verdict.{no_refusal}
use Rattle.model.specs.Results.{planned, Searched}
use Rattle.model.specs.Refusal.{refusal}
use Rattle.model.specs.logic.Formula.{choose}
use Rattle.model.specs.job.Job.{Job}
use Rattle.model.specs.job.Layout.{job_of}
use Rattle.model.specs.job.Rights.{usable_bits, restricted}
use Rattle.model.specs.exploration.Equations.{Answer, plan, no_plan}
use Rattle.model.specs.search.JobSystem.{solve_job, reached_count}
use Rattle.model.specs.calls.Call.{Call, call_verdict, caller_job}

-- the result, and what the table and the plan buffer hold afterwards
pub record SearchEnd : Type 0 where
  pub result : Searched
  pub table : List ℕ
  pub plan : List ℕ

-- an end, of its parts
abbrev pub search_end : Searched → List ℕ → List ℕ → SearchEnd
search_end r table buffer = record { result = r; table = table; plan = buffer }

-- "A place has one fixed size, stated in docs/ and at most 256 bytes"; here it is a slot.
abbrev pub slot_bytes : ℕ
slot_bytes = 160

-- "the table's places are its whole ones, or 65,536 if there are more"
unfoldable pub slots_in : List ℕ → ℕ
slots_in table = let n : ℕ = length table / slot_bytes in choose (leb n 65_536) n 65_536

-- "search answers and 10 to 13 of a search leave every byte of the table zero"
unfoldable pub cleared : List ℕ → List ℕ
cleared table = replicate (length table) 0

-- "the plan as a part of the lent plan buffer, one byte a step, from its start; bytes behind it keep their values"
unfoldable pub written_over : List ℕ → List ℕ → List ℕ
written_over p buffer = p ++ drop (length p) buffer

-- the end of a search that found an answer; 13: "buffer shorter than the plan", with the "length needed"
unfoldable pub answered : Answer → List ℕ → List ℕ → SearchEnd
unfolding cleared written_over
answered (no_plan n) table buffer = record { result = Err (refusal n 0); table = cleared table; plan = buffer }
answered (plan c p) table buffer = elim (leb (length p) (length buffer)) [
  | true ↦ record { result = Ok (planned c (length p)); table = cleared table; plan = written_over p buffer }
  | false ↦ record { result = Err (refusal 13 (length p)); table = cleared table; plan = buffer }
]

-- what the rules give "with 10 left aside"; "numbers 1 to 9 leave everything lent alone", and "14 to 18 leave everything lent alone"
unfoldable pub ruled : Call → List ℕ → List ℕ → SearchEnd
unfolding answered call_verdict usable_bits restricted job_of solve_job
ruled c table buffer = elim (call_verdict c) [
  | Err r ↦ record { result = Err r; table = table; plan = buffer }
  | Ok _ ↦ answered (solve_job (caller_job c)) table buffer
]

unfoldable pub too_small_end : List ℕ → List ℕ → SearchEnd
unfolding cleared
too_small_end table buffer = record { result = Err (refusal 10 0); table = cleared table; plan = buffer }

-- "the pairs reached outnumber the places"
abbrev pub Outnumbered : Call → List ℕ → Type 0
Outnumbered c table = (call_verdict c ≡ no_refusal) × (slots_in table < reached_count (caller_job c))

-- What a search gives. "One result is open: when the pairs reached outnumber the places, a search gives either 10 or what the rules above
-- give with 10 left aside, and nothing else."
abbrev pub SearchGives : Call → List ℕ → List ℕ → SearchEnd → Type 0
SearchGives c table buffer e = (e ≡ ruled c table buffer) ⊎ (Outnumbered c table × (e ≡ too_small_end table buffer))

-- ---- which of the two it gives

-- the end, where `full` tells of a job and a number of slots whether its search runs out of them
unfoldable pub decided : (Job → ℕ → Bool) → Call → List ℕ → List ℕ → SearchEnd
unfolding answered call_verdict usable_bits restricted job_of solve_job slots_in too_small_end
decided full c table buffer = elim (call_verdict c) [
  | Err r ↦ record { result = Err r; table = table; plan = buffer }
  | Ok _ ↦ elim (full (caller_job c) (slots_in table)) [ true ↦ too_small_end table buffer | false ↦ answered (solve_job (caller_job c)) table buffer ]
]

-- What is promised of a search. It gives what the rules say, and which of the two it gives is decided by the job as it is to the caller and by the number
-- of slots, and by nothing else that is lent.
pub record SearchEnds (full : Job → ℕ → Bool) (c : Call) (table buffer : List ℕ) (e : SearchEnd) : Type 0 where
  pub gives : SearchGives c table buffer e
  pub determined : e ≡ decided full c table buffer

-- ---- the plan as a part of the lent buffer

-- how many steps of a plan were written
unfoldable pub steps_in : Searched → ℕ
steps_in (Ok p) = p.steps
steps_in (Err r) = 0

-- "the plan as a part of the lent plan buffer, one byte a step, from its start", empty on a refusal
unfoldable pub part_of : SearchEnd → List ℕ
unfolding steps_in
part_of e = take (steps_in e.result) e.plan
