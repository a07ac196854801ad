-- The half of a table where unknown i has the value, written into both halves.
use Rattle.std.proofs.Common.{◌≡◌, ℕ, ◌*◌, ◌%◌, ◌^◌, ◌<◌, arith}
use Rattle.std.proofs.Math.Pow.{pow-lt}
use Rattle.model.specs.logic.Parts.{most_parts}
use Rattle.bits.proofs.TableLaws.{fixed_true, fixed_false}
use Rattle.bits.proofs.fixed.Goals as goal

distance : (i : ℕ) → i < most_parts → (1 * 2 ^ i % 4294967296 ≡ 2 ^ i) × (2 ^ i < 64)
distance i h = let few : 2 ^ i < 2 ^ 6 = pow-lt h in (omega arith, few)

pub overflow_shr-result : goal.overflow_shr-result
overflow_shr-result c = omega (arith, (distance c.args.i c.requires).0, (distance c.args.i c.requires).1)

pub overflow_shl-result : goal.overflow_shl-result
overflow_shl-result c = omega (arith, (distance c.args.i c.requires).0, (distance c.args.i c.requires).1)

pub returns-then-value : goal.returns-then-value
returns-then-value c =
    let a = c.args in
    rw (c.unknown.ensures, (distance a.i c.requires).0, c.if-value.true) (fixed_true most_parts a.i a.r c.requires c.ranges.r.fits)

pub returns-else-value : goal.returns-else-value
returns-else-value c =
    let a = c.args in
    rw (c.unknown-else-value.ensures, (distance a.i c.requires).0, c.if-value.false) (fixed_false most_parts a.i a.r c.requires c.ranges.r.fits)
