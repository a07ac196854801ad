-- Results as numbers: "a definition gives this paper's number and values for each of the enum's cases". 0 and two values for a result, or a
-- refusal's number, its place and 0.
use Rattle.std.specs.Prelude.{Ok, Err, ◌≡◌, ℕ, Bool, List, [], ◌∷◌}
use Rattle.model.specs.Refusal.{Refusal}
use Rattle.model.specs.Results.{Searched, Validated, Rewritten}
use Rattle.model.specs.job.Job.{Job}
use Rattle.model.specs.calls.Call.{Call}
use Rattle.model.specs.calls.Search.{SearchEnd, search_end, part_of, SearchEnds}
use Rattle.model.specs.calls.WriteBack.{WriteEnd}

-- a refusal, of any call
unfoldable pub refusal_numbers : Refusal → List ℕ
refusal_numbers r = r.number ∷ r.place ∷ 0 ∷ []

-- a search: the cost and the number of steps
unfoldable pub search_numbers : Searched → List ℕ
unfolding refusal_numbers
search_numbers (Ok p) = 0 ∷ p.cost ∷ p.steps ∷ []
search_numbers (Err r) = refusal_numbers r

-- a read-through: the cost and the hint bits
unfoldable pub validate_numbers : Validated → List ℕ
unfolding refusal_numbers
validate_numbers (Ok p) = 0 ∷ p.cost ∷ p.hints ∷ []
validate_numbers (Err r) = refusal_numbers r

-- writing back: the number of bytes written
unfoldable pub write_numbers : Rewritten → List ℕ
unfolding refusal_numbers
write_numbers (Ok n) = 0 ∷ n ∷ 0 ∷ []
write_numbers (Err r) = refusal_numbers r

-- A search answers with numbers, and leaves the table and the plan buffer as some end that it comes to.
pub record SearchAnswers (full : Job → ℕ → Bool) (c : Call) (table buffer table' buffer' numbers : List ℕ) : Type 0 where
  pub result : Searched
  pub ends : SearchEnds full c table buffer (search_end result table' buffer')
  pub said : numbers ≡ search_numbers result

-- A search hands back its result and the part of the plan buffer that holds the steps.
pub record PartGiven (full : Job → ℕ → Bool) (c : Call) (table buffer table' part : List ℕ) (result : Searched) : Type 0 where
  pub end : SearchEnd
  pub ends : SearchEnds full c table buffer end
  pub said : result ≡ end.result
  pub table_is : table' ≡ end.table
  pub part_is : part ≡ part_of end

-- Writing back answers with numbers, and leaves the buffer, as an end says.
pub record WriteAnswers (end : WriteEnd) (buffer' numbers : List ℕ) : Type 0 where
  pub said : numbers ≡ write_numbers end.result
  pub buffer_is : buffer' ≡ end.buffer
