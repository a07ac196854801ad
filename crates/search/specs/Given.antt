-- What a search gives back, for its result in a table.
use Rattle.std.specs.Prelude.{◌≡◌, Bool, true, false, List, ℕ}
use Rattle.model.specs.Results.{Searched}
use Rattle.model.specs.calls.Search as calls
use Rattle.model.specs.calls.Search.{SearchEnd, search_end, cleared, too_small_end}
use Rattle.model.specs.exploration.Equations.{plan}
use Rattle.model.specs.job.Job.{Job}
use Rattle.model.specs.search.JobSystem.{system_of}
use Rattle.astar.specs.Search.{Result, answered, too_small, search_in}

-- the end that a result in a table comes to
abbrev pub end_of : Result → List ℕ → List ℕ → SearchEnd
end_of (answered a) table buffer = calls.answered a table buffer
end_of too_small table buffer = too_small_end table buffer

-- whether a result is that the table is too small
abbrev is_small : Result → Bool
is_small (answered a) = false
is_small too_small = true

-- whether the search of a job runs out of so many slots
unfoldable pub runs_out : Job → ℕ → Bool
unfolding search_in
runs_out j slots = is_small (search_in (system_of j) slots)

-- The path p of cost c is handed over, or refused, as it is wherever a table was lent.
abbrev pub HandsOver : ℕ → List ℕ → List ℕ → Searched → List ℕ → Type 0
HandsOver c p buffer r after = (table : List ℕ) → search_end r (cleared table) after ≡ calls.answered (plan c p) table buffer
