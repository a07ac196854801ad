-- The checks of the formulas that were passed are fine.
use Rattle.std.proofs.Common.{◌≡◌, ℕ, ◌+◌, List}
use Rattle.model.specs.Verdict.{no_refusal, Verdict, in_turn}
use Rattle.model.specs.job.Decoding.{formula_verdict}
use Rattle.model.specs.job.Layout.{pair_offset, formula_in}
use Rattle.job.proofs.formulas.check_formulas.Given as goal

-- the check of formula i
abbrev pub formula_checked : List ℕ → ℕ → Verdict
formula_checked bytes i = formula_verdict (pair_offset bytes (1 + i)) (formula_in bytes (1 + i))

abbrev pub invariant-loop-i : goal.invariant-loop-i
invariant-loop-i l = in_turn l.i (formula_checked l.bytes) ≡ no_refusal
