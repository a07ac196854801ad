-- The verdict on a rule whose counts are out of range, for the callers.
use Rattle.std.proofs.Common.{◌≡◌, ℕ, ◌<◌, ◌⊎◌, List, Err, arith}
use Rattle.std.proofs.lemmas.Bool.Decides.{nat_tests}
use Rattle.model.specs.Refusal.{refusal}
use Rattle.model.specs.calls.WriteBack.{rule_verdict}

-- 1: a count out of range
pub counts_wrong : (v a : ℕ) (rule : List ℕ) → (v < 1) ⊎ (64 < v) ⊎ (64 < a) → Err (refusal 1 0) ≡ rule_verdict v a rule
unfolding rule_verdict
counts_wrong v a rule h = grind (arith, nat_tests)
