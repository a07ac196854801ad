-- Where some eights of actions are left, the set is that of the actions after them.
use Rattle.std.proofs.Common.{◌≡◌, ◌-◌, ◌*◌}
use Rattle.model.specs.job.Layout.{job_of}
use Rattle.nodes.proofs.ChoiceLaws.{set_from}
use Rattle.nodes.proofs.choices.Given as goal

abbrev pub invariant-loop-eight : goal.invariant-loop-eight
invariant-loop-eight l = l.set ≡ set_from (job_of l.job) l.facts (8 * l.eight) (8 * (l.initial.eight - l.eight))
