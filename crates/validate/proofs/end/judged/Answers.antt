-- `judged` answers the first refusal at the end, or the cost and the hint bits.
use Rattle.std.proofs.Common.{Ok, ap}
use Rattle.model.specs.Results.{passed}
use Rattle.model.proofs.job.Accepted.{length-hints}
use Rattle.validate.specs.Walk.{judged}
use Rattle.validate.proofs.Verdicts.{answer_refused, answer_fine}
use Rattle.validate.proofs.end.judged.Goals as goal

pub returns-in_err-check_end : goal.returns-in_err-check_end
unfolding judged
returns-in_err-check_end c = answer_refused _ _ _ c.from_residual.ensures.1 c.in_err-check_end.ensures

pub returns : goal.returns
unfolding judged
returns c = answer_fine _ _ _ c.in_ok-check_end.ensures (ap (λ b. Ok (passed c.args.w.cost b)) (rw length-hints c.hint_bits.ensures))
