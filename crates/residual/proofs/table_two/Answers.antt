-- The table of a formula with two operands: the machine's operations go by bits.
use Rattle.std.proofs.Common.{◌≡◌, ap, ◌∙◌, ℕ, ◌^◌, ◌<◌, Bool, ◌&&◌, ◌||◌, bit_and, bit_or}
use Rattle.std.specs.Int.Bits.{or_lt}
use Rattle.model.specs.Bits.{bit, of_bits}
use Rattle.model.proofs.bits.Bitwise.{bit_and_lem, bit_or_lem, and_lt}
use Rattle.residual.specs.Node.{table2}
use Rattle.residual.proofs.Bits.{by_bits}
use Rattle.residual.proofs.table_two.Goals as goal

until_bits : (p q r : ℕ) → p < 2 ^ 64 → q < 2 ^ 64 → bit_or q (bit_and p r) ≡ of_bits 64 (λ k. bit q k || (bit p k && bit r k))
until_bits p q r hp hq =
    by_bits _ _ (or_lt 64 q (bit_and p r) hq (and_lt 64 p r hp))
    (λ k h. bit_or_lem q (bit_and p r) k ∙ ap (λ (b : Bool). bit q k || b) (bit_and_lem p r k))

release_bits : (p q r : ℕ) → p < 2 ^ 64 → q < 2 ^ 64 → bit_and q (bit_or p r) ≡ of_bits 64 (λ k. bit q k && (bit p k || bit r k))
release_bits p q r hp hq = by_bits _ _ (and_lt 64 q (bit_or p r) hq)
    (λ k h. bit_and_lem q (bit_or p r) k ∙ ap (λ (b : Bool). bit q k && b) (bit_or_lem p r k))

pub returns-in-And : goal.returns-in-And
unfolding table2
returns-in-And c =
    let a = c.args in
    rw c.in-And.is (by_bits _ _ (and_lt 64 a.p a.q c.ranges.p.fits) (λ k h. bit_and_lem a.p a.q k))

pub returns-in-Or : goal.returns-in-Or
unfolding table2
returns-in-Or c =
    let a = c.args in
    rw c.in-Or.is (by_bits _ _ (or_lt 64 a.p a.q c.ranges.p.fits c.ranges.q.fits) (λ k h. bit_or_lem a.p a.q k))

pub returns-in-Until : goal.returns-in-Until
unfolding table2
returns-in-Until c = rw c.in-Until.is (until_bits c.args.p c.args.q c.args.rest c.ranges.p.fits c.ranges.q.fits)

pub returns-in-Release : goal.returns-in-Release
unfolding table2
returns-in-Release c = rw c.in-Release.is (release_bits c.args.p c.args.q c.args.rest c.ranges.p.fits c.ranges.q.fits)
