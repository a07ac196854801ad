-- `search` touches nothing if the call is not accepted; else it answers, and clears the table last.
use Rattle.std.proofs.Common.{arith}
use Rattle.job.proofs.TurnLaws.{passed_on}
use Rattle.rights.proofs.AcceptedCalls.{when_usable, when_refused}
use Rattle.search.proofs.GivenLaws.{bad_ends, fine_ends}
use Rattle.search.proofs.search.Goals as goal

pub returns-in_err-query : goal.returns-in_err-query
returns-in_err-query c = bad_ends c.args.call.now _ _ (passed_on _ c.from_residual.ensures.1) (when_refused _ c.in_err-query.ensures)

pub returns : goal.returns
returns c =
    let k = when_usable c.args.call.now c.in_ok-query.ensures in
    fine_ends _ _ _ k.fine _ k.asks c.answer-end.ensures c.clear.ensures (omega arith)
