-- `answer` hands back what the search in the table came to.
use Rattle.std.proofs.Common.{rules, sym, ap, ◌∙◌, Err}
use Rattle.job.proofs.TurnLaws.{passed_on}
use Rattle.search.proofs.GivenLaws.{ended_for}
use Rattle.search.proofs.result.answer.Goals as goal

pub returns-in_err-goal : goal.returns-in_err-goal
returns-in_err-goal c =
    ended_for _ _ _ c.searched.new.t c.searched.result (rw c.new-table.ensures at c.searched.ensures) (sym c.in_err-goal.ensures.variant)
    (λ r e. let h = rw e at c.in_err-goal.ensures.cases in passed_on _ c.from_residual.ensures.1 ∙ ap Err (search (rules, h)))
