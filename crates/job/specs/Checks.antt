-- The tests that the code makes of a job.
use Rattle.std.specs.Prelude.{ℕ, ◌+◌, ◌*◌, Bool, ◌&&◌, List, leb, eqb, length}
use Rattle.model.specs.job.Layout.{fact_count, action_count, constraint_count, hint_count, pair_offset, pair_length}
use Rattle.model.specs.job.Decoding.{counts_in_range, section_start, right_length}

-- what `head_verdict` and `pair_verdict` test
abbrev pub head_fits : List ℕ → Bool
head_fits bytes =
    leb 4 (length bytes) && counts_in_range (fact_count bytes) (action_count bytes) && leb (constraint_count bytes) 8 && leb (hint_count bytes) 8

abbrev pub pair_fits : List ℕ → ℕ → Bool
pair_fits bytes i =
    leb (8 + 4 * i) (length bytes) && eqb (pair_offset bytes i) (section_start bytes i) && right_length bytes i (pair_length bytes i)
    && leb (pair_offset bytes i + pair_length bytes i) (length bytes)
