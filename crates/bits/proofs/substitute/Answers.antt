-- Each turn puts one table, and all of them, the last first, are one substitution.
use Rattle.std.proofs.Common.{◌≡◌, suc, ◌-◌, arith}
use Rattle.model.specs.logic.Parts.{most_parts}
use Rattle.bits.specs.Tables.{select_down}
use Rattle.bits.proofs.Substitution.{substitute_law}
use Rattle.bits.proofs.substitute.Goals as goal

pub loop-i-init : goal.loop-i-init
loop-i-init c = substitute_law most_parts c.args.t c.requires c.args.r c.ranges.r.fits

pub loop-i-preserved : goal.loop-i-preserved
unfolding select_down
loop-i-preserved c =
    let e : c.loop-i.i ≡ suc (c.loop-i.i - 1) = omega arith in
    rw c.select-left.ensures (rw e at c.loop-i.invariant)

pub returns : goal.returns
unfolding select_down
returns c = let e : c.loop-i.i ≡ 0 = omega arith in rw e at c.loop-i.invariant
