-- The set has a bit for each step whose needed rights are held.
use Rattle.std.proofs.Common.{rules, refl}
use Rattle.model.specs.job.Rights.{usable_bits}
use Rattle.model.specs.task.State.{within}
use Rattle.bits.proofs.SetLaws.{set_of_list}
use Rattle.rights.proofs.Call.usable.Goals as goal

pub returns : goal.returns
unfolding usable_bits
returns c =
    let call = c.self.inside in
    rw (← c.self.view_is)
    (set_of_list (λ n. within n call.rights) 0 call.needs.now refl _ c.set_of.ensures.below
    (λ i l. let e = c.set_of.ensures.bits i l in search rules))
