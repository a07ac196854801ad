-- `is_goal`: where the goal is true, the constraints decide.
use Rattle.std.proofs.Common.{◌≡◌, refl, sym, ◌∙◌}
use Rattle.model.specs.job.Layout.{job_of}
use Rattle.nodes.proofs.Arrivals.{goal_not, goal_closing}
use Rattle.nodes.proofs.is_goal.Goals as goal
use Rattle.nodes.proofs.is_goal.Goals.{After-goal}

goal_is : (c : After-goal) → c.goal.result ≡ (job_of c.args.work.now.bytes).goal
goal_is c = rw c.job.ensures at c.goal.ensures.set

pub returns-then-not-has : goal.returns-then-not-has
returns-then-not-has c =
    (sym (goal_not _ _ c.args.node (goal_is (goal.at.returns-then-not-has c).After-goal) (sym c.has.ensures ∙ c.if-not-has.true)), refl)

pub returns : goal.returns
returns c = (
  rw c.residuals_of.ensures at c.constraints_close.ensures.0
      ∙ sym (goal_closing _ _ c.args.node (goal_is (goal.at.returns c).After-goal) (sym c.has.ensures ∙ c.if-not-has.false)),
  c.constraints_close.ensures.1,
)
