-- The formula's own table is the residual.
use Rattle.residual.proofs.AnswerLaws.{first_answers}
use Rattle.residual.proofs.Formula.first.Goals as goal

pub returns : goal.returns
returns c = first_answers c.tables.ensures.tables
