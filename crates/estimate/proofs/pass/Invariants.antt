-- The actions below this one of the restricted job are passed.
use Rattle.model.specs.search.Query.{job_for}
use Rattle.estimate.specs.Turns.{Passed}
use Rattle.estimate.proofs.pass.Given as goal

abbrev pub invariant-loop-action : goal.invariant-loop-action
invariant-loop-action l = Passed (job_for l.q) l.built l.level l.initial.ends l.ends l.action l.best
