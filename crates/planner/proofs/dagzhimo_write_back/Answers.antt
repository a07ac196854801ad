-- The exported writing back answers with the numbers of the proved one, and leaves the buffer as it does.
use Rattle.std.proofs.Common.{◌≡◌, ap₂, ◌∙◌, ℕ}
use Rattle.model.specs.calls.WriteBack.{write_end, written_back}
use Rattle.planner.proofs.NumberLaws.{capped_same, written, not_written}
use Rattle.planner.proofs.dagzhimo_write_back.Goals as goal
use Rattle.planner.proofs.dagzhimo_write_back.Goals.{After-write_back}

-- The counts were handed on as bytes that stand for them.
is : (c : After-write_back) → write_end c.write_back.result c.write_back.new.out
    ≡ written_back c.args.facts c.args.steps c.args.rule.now c.args.buffer.now
is c =
    let s = c.args in
    c.write_back.ensures
    ∙ ap₂ (λ (v a : ℕ). written_back v a s.rule.now s.buffer.now) c.count.ensures c.count-2.ensures
    ∙ capped_same s.facts s.steps s.rule.now s.buffer.now

pub returns-in-Ok : goal.returns-in-Ok
returns-in-Ok c = written (is (goal.at.returns-in-Ok c).After-write_back) _ c.in-Ok.is

pub returns-in-Err : goal.returns-in-Err
returns-in-Err c = not_written (is (goal.at.returns-in-Err c).After-write_back) _ _ c.in-Err.is c.refused.ensures
