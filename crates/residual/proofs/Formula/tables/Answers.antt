-- The walk starts at the section's start, where no part has a number yet.
use Rattle.residual.proofs.AnswerLaws.{tables_upward, walk_tables}
use Rattle.residual.proofs.Formula.tables.Goals as goal

pub returns-clause-tables : goal.returns-clause-tables
returns-clause-tables c =
    let w = c.evaluate-own.ensures in walk_tables _ _ c.self.invariant c.self.view_is c.read.ensures w.0 w.1

pub returns-clause-upward : goal.returns-clause-upward
returns-clause-upward c = tables_upward (returns-clause-tables c)
