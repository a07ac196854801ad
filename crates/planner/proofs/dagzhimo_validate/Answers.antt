-- The exported read-through answers with the numbers of the proved one.
use Rattle.planner.proofs.NumberLaws.{passed, refused}
use Rattle.planner.proofs.dagzhimo_validate.Goals as goal

pub returns-in-Ok : goal.returns-in-Ok
returns-in-Ok c = passed _ _ _ _ (rw c.new.ensures at c.validate.ensures) c.in-Ok.is c.from.ensures

pub returns-in-Err : goal.returns-in-Err
returns-in-Err c = refused _ _ _ _ (rw c.new.ensures at c.validate.ensures) c.in-Err.is c.refused.ensures
