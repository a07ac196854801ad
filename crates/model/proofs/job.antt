-- Jobs: the two forms of a task; accepted jobs are proper, their systems meet the laws of exploration, and the plan found is the best.
pub mod VerdictLaws
pub mod Forms
pub mod Accepted
pub mod PlanLaws
pub mod ReadThrough
pub mod NodeLaws
pub mod ResidualLists
pub mod SystemLaws
pub mod FiniteNodes
pub mod ResidualsHold
pub mod HintMeaning
pub mod PlansAsRuns
pub mod GuidedJob
pub mod BestPlan
pub mod AcceptedPlans
