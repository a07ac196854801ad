-- The table of the worlds ahead: a constant or an unknown, by the test.
use Rattle.bits.specs.Tables.{everywhere, unknown}
use Rattle.residual.specs.Node.{ahead_table}
use Rattle.residual.proofs.ahead.Goals as goal

pub returns-then-closing : goal.returns-then-closing
unfolding ahead_table everywhere
returns-then-closing c = rw c.if-closing.true c.everywhere.ensures

pub returns-else-closing : goal.returns-else-closing
unfolding ahead_table unknown
returns-else-closing c = rw c.if-closing.false c.unknown.ensures
