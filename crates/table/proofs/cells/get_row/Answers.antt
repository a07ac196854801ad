-- `get_row` reads the words in order.
use Rattle.std.proofs.Common.{rules, ◌+◌, ◌*◌}
use Rattle.table.specs.Cells.{word, row, row_words}
use Rattle.table.proofs.CellLaws.{list_given}
use Rattle.table.proofs.cells.get_row.Goals as goal

pub returns : goal.returns
unfolding row
returns c = list_given _ (λ j. word c.args.t.now (c.args.i * row_words + j)) (λ j b q k. search rules) _ _ c.from_fn.ensures.items
