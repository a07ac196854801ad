-- The six tables, which antt computes, and the empty one of any further unknown.
use Rattle.std.proofs.Common.{◌≡◌, refl, sym, ap, ◌∙◌, ℕ, ◌≤◌, arith, false}
use Rattle.model.specs.logic.Parts.{most_parts}
use Rattle.model.specs.Bits.{bit, of_bits}
use Rattle.model.proofs.bits.Bits.{of_bits_cong}
use Rattle.bits.specs.Tables.{unknown}
use Rattle.bits.proofs.BitLaws.{bit_high}
use Rattle.bits.proofs.unknown.Goals as goal

table : (j r : ℕ) → r ≡ unknown most_parts j → (i : ℕ) → i ≡ j → r ≡ unknown most_parts i
table j r t i e = t ∙ ap (unknown most_parts) (sym e)

-- an unknown past the six is false at every setting
past : (i : ℕ) → most_parts ≤ i → 0 ≡ unknown most_parts i
unfolding unknown of_bits
past i h = of_bits_cong 64 (λ k. false) (λ k. bit k i) (λ k l. sym (bit_high most_parts k i l h))

pub returns-in-0 : goal.returns-in-0
unfolding unknown
returns-in-0 c = table 0 0xaaaa_aaaa_aaaa_aaaa refl c.args.i c.in-0.is

pub returns-in-1 : goal.returns-in-1
unfolding unknown
returns-in-1 c = table 1 0xcccc_cccc_cccc_cccc refl c.args.i c.in-1.is

pub returns-in-2 : goal.returns-in-2
unfolding unknown
returns-in-2 c = table 2 0xf0f0_f0f0_f0f0_f0f0 refl c.args.i c.in-2.is

pub returns-in-3 : goal.returns-in-3
unfolding unknown
returns-in-3 c = table 3 0xff00_ff00_ff00_ff00 refl c.args.i c.in-3.is

pub returns-in-4 : goal.returns-in-4
unfolding unknown
returns-in-4 c = table 4 0xffff_0000_ffff_0000 refl c.args.i c.in-4.is

pub returns-in-5 : goal.returns-in-5
unfolding unknown
returns-in-5 c = table 5 0xffff_ffff_0000_0000 refl c.args.i c.in-5.is

pub returns-in_default : goal.returns-in_default
returns-in_default c = past c.args.i (omega arith)
