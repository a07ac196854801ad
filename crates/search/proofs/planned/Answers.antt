-- `planned` hands back the front part of the buffer, which is as long as the plan, since as many bytes are there.
use Rattle.std.proofs.Common.{refl, arith}
use Rattle.std.proofs.lemmas.Grind.{common_steps}
use Rattle.model.specs.calls.Search.{steps_in}
use Rattle.search.proofs.PartLaws.{part_fits, part_given}
use Rattle.search.proofs.planned.Goals as goal

pub slice_bounds-result-end : goal.slice_bounds-result-end
unfolding steps_in
slice_bounds-result-end c = grind (arith, common_steps, part_fits _ _ _ _ c.in-Ok.ensures)

pub returns-in-Ok : goal.returns-in-Ok
unfolding steps_in
returns-in-Ok c = (part_given _ _ _ _ c.in-Ok.ensures, refl)

pub returns-in-Err : goal.returns-in-Err
unfolding steps_in
returns-in-Err c = (part_given _ _ _ _ c.in-Err.ensures, refl)
