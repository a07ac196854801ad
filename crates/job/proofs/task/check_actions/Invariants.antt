-- The checks of the actions that were passed are fine.
use Rattle.std.proofs.Common.{◌≡◌}
use Rattle.model.specs.Verdict.{no_refusal, in_turn}
use Rattle.model.specs.job.Decoding.{action_verdict}
use Rattle.job.proofs.task.check_actions.Given as goal

abbrev pub invariant-loop-i : goal.invariant-loop-i
invariant-loop-i l = in_turn l.i (action_verdict l.bytes) ≡ no_refusal
