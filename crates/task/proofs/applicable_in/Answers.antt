-- The set has a bit for each action that is applicable.
use Rattle.std.proofs.Common.{rules, map}
use Rattle.std.proofs.lemmas.List.{length-map}
use Rattle.model.specs.job.Job.{no_action}
use Rattle.model.specs.task.State.{applicable}
use Rattle.bits.proofs.SetLaws.{set_of_list}
use Rattle.task.specs.Meaning.{action_is}
use Rattle.task.proofs.applicable_in.Goals as goal

pub returns : goal.returns
returns c =
    set_of_list (λ a. applicable a c.args.facts) no_action (map action_is c.args.actions.now) (length-map _ _) _ c.set_of.ensures.below
    (λ i l. let e = c.set_of.ensures.bits i l in search rules)
