-- The checks of the sets that were passed are fine.
use Rattle.std.proofs.Common.{◌≡◌, ℕ, List}
use Rattle.model.specs.Verdict.{no_refusal, Verdict, in_turn}
use Rattle.model.specs.job.Layout.{set_offset}
use Rattle.model.specs.job.Decoding.{set_verdict}
use Rattle.job.proofs.task.check_action.Given as goal

-- the check of set k of action i
abbrev pub set_checked : List ℕ → ℕ → ℕ → Verdict
set_checked bytes i k = set_verdict bytes (set_offset bytes i k)

abbrev pub invariant-loop-k : goal.invariant-loop-k
invariant-loop-k l = in_turn l.k (set_checked l.bytes l.i) ≡ no_refusal
