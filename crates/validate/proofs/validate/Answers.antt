-- `validate` refuses a call that is not accepted and a step list that is too long, and walks any other.
use Rattle.std.proofs.Common.{sym, leb-true}
use Rattle.model.proofs.job.VerdictLaws.{unless_fine}
use Rattle.validate.proofs.Verdicts.{call_refused, too_long, read_through}
use Rattle.validate.proofs.validate.Goals as goal

pub returns-in_err-query : goal.returns-in_err-query
returns-in_err-query c = call_refused _ _ c.from_residual.ensures.1 c.in_err-query.ensures

pub returns-in_err-unless : goal.returns-in_err-unless
returns-in_err-unless c = too_long _ _ c.in_ok-query.ensures c.from_residual-in_err-unless.ensures.1 c.in_err-unless.ensures

pub in_workspace-requires : goal.in_workspace-requires
in_workspace-requires c = leb-true _ _ ((unless_fine _ 6 65535).0 (sym c.in_ok-unless.ensures))

pub returns : goal.returns
returns c = read_through _ _ c.in_ok-query.ensures c.in_ok-unless.ensures c.in_workspace.ensures
