-- The part of the plan buffer that holds the steps.
use Rattle.std.proofs.Common.{refl, List, ℕ, ◌≤◌, length, take}
use Rattle.model.specs.Results.{Searched}
use Rattle.model.specs.calls.Call.{Call}
use Rattle.model.specs.calls.Search.{search_end, SearchEnds, steps_in, part_of}
use Rattle.model.specs.calls.Numbers.{PartGiven}
use Rattle.model.proofs.calls.Ways.{way, steps_fit}
use Rattle.search.specs.Given.{runs_out}

module _ (c : Call) (table buffer : List ℕ) {table' buffer' : List ℕ} (u : Searched)
    (x : SearchEnds runs_out c table buffer (search_end u table' buffer')) where
  -- As many steps as were written are in the buffer.
  pub part_fits : steps_in u ≤ length buffer'
  part_fits = steps_fit c table buffer (way c table buffer x.gives)

  -- The front part of the buffer that is so long holds them.
  pub part_given : PartGiven runs_out c table buffer table' (take (steps_in u) buffer') u
  unfolding part_of
  part_given = record { end = search_end u table' buffer'; ends = x; said = refl; table_is = refl; part_is = refl }
