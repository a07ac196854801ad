-- Each entry is the conjunction of two.
use Rattle.std.proofs.Common.{rules, arith}
use Rattle.progression.proofs.Padding.{met_is}
use Rattle.progression.proofs.met.Goals as goal

pub returns : goal.returns
returns c = met_is _ _ _ (omega arith) (omega arith) (λ i l. search rules)
