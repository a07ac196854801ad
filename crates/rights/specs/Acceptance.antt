-- What a call comes to before its search or its read-through.
use Rattle.std.specs.Prelude.{Result, Ok, Err}
use Rattle.model.specs.Refusal.{Refusal}
use Rattle.model.specs.search.Query.{Query}
use Rattle.model.specs.calls.Call.{Call, call_verdict, asked}

-- the first refusal of the job or of the list of needed rights, or what is asked
unfoldable pub accepted : Call → Result Query Refusal
unfolding call_verdict
accepted c = elim (call_verdict c) [
  | Err r ↦ Err r
  | Ok _ ↦ Ok (asked c)
]
