-- What the turns that are left come to is the estimate; in a turn it is one of them.
use Rattle.std.proofs.Common.{suc, ◌-◌}
use Rattle.model.specs.search.Query.{job_for}
use Rattle.estimate.proofs.LevelLaws.{Rising}
use Rattle.estimate.proofs.estimate.Given as goal

abbrev pub invariant-loop : goal.invariant-loop
invariant-loop l = Rising (job_for l.q) l.facts l.goal (suc (l.end - l.counter)) l.built l.level l.ends
