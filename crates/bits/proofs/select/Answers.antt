-- A table chooses between the two halves of another.
use Rattle.model.specs.logic.Parts.{most_parts}
use Rattle.bits.proofs.TableLaws.{select_law}
use Rattle.bits.proofs.select.Goals as goal

pub returns : goal.returns
returns c =
    let a = c.args in
    rw (c.fixed.ensures, c.fixed-2.ensures) (select_law most_parts a.i a.p a.r c.ranges.p.fits)
