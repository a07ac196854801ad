-- The first j words are written.
use Rattle.std.proofs.Common.{◌≡◌, ℕ, ◌*◌, ◌^◌, ◌<◌, get_or}
use Rattle.table.specs.Cells.{with_words, row_words}
use Rattle.table.proofs.cells.put_row.Given as goal

abbrev pub invariant-loop-j : goal.invariant-loop-j
invariant-loop-j l = record {
  written : l.t ≡ with_words l.initial.t (l.i * row_words) l.a l.j;
  fit : (k : ℕ) → k < l.j → get_or l.a k 0 < 2 ^ 64;
}
