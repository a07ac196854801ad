-- The table of a formula with one operand: the machine's operations go by bits.
use Rattle.std.proofs.Common.{refl}
use Rattle.std.proofs.Math.Pow.{ones_sub-lt}
use Rattle.std.specs.Int.Bits.{or_lt}
use Rattle.model.proofs.bits.Bitwise.{bit_and_lem, bit_or_lem, and_lt}
use Rattle.bits.proofs.BitLaws.{bit_not}
use Rattle.residual.specs.Node.{table1}
use Rattle.residual.proofs.Bits.{by_bits}
use Rattle.residual.proofs.table_one.Goals as goal

pub returns-in-Not : goal.returns-in-Not
unfolding table1
returns-in-Not c =
    let p = c.args.p in
    rw c.in-Not.is (by_bits _ _ (ones_sub-lt 64 p) (λ k h. bit_not 64 p k c.ranges.p.fits h))

pub returns-in-Next : goal.returns-in-Next
unfolding table1
returns-in-Next c = rw c.in-Next.is (by_bits c.args.rest _ c.ranges.rest.fits (λ k h. refl))

pub returns-in-Eventually : goal.returns-in-Eventually
unfolding table1
returns-in-Eventually c =
    let a = c.args in
    rw c.in-Eventually.is (by_bits _ _ (or_lt 64 a.p a.rest c.ranges.p.fits c.ranges.rest.fits) (λ k h. bit_or_lem a.p a.rest k))

pub returns-in-Always : goal.returns-in-Always
unfolding table1
returns-in-Always c =
    let a = c.args in
    rw c.in-Always.is (by_bits _ _ (and_lt 64 a.p a.rest c.ranges.p.fits) (λ k h. bit_and_lem a.p a.rest k))
