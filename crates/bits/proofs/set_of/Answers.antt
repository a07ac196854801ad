-- Each turn puts the bit of one more below the others, and those from 0 on are all.
use Rattle.std.proofs.Common.{arith}
use Rattle.bits.proofs.SetLaws.{set_more, set_bits}
use Rattle.bits.proofs.set_of.Goals as goal

pub loop-i-preserved : goal.loop-i-preserved
loop-i-preserved g c = rw c.from.ensures (set_more _ _ _ _ _ c.loop-i.invariant (omega arith) (omega arith) c.f.ensures)

pub returns-clause-bits : goal.returns-clause-bits
returns-clause-bits g c = set_bits _ _ _ _ c.loop-i.invariant (omega arith)
