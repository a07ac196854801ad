-- The checks of the pairs that were passed are fine.
use Rattle.std.proofs.Common.{◌≡◌}
use Rattle.model.specs.Verdict.{no_refusal, in_turn}
use Rattle.model.specs.job.Decoding.{pair_verdict}
use Rattle.job.proofs.pairs.check_each_pair.Given as goal

abbrev pub invariant-loop-i : goal.invariant-loop-i
invariant-loop-i l = in_turn l.i (pair_verdict l.bytes) ≡ no_refusal
