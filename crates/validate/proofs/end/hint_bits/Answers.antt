-- The set has a bit for each hint that is met.
use Rattle.std.proofs.Common.{rules}
use Rattle.model.specs.job.Layout.{job_of}
use Rattle.validate.specs.Walk.{closed_at}
use Rattle.validate.proofs.Counts.{hint_closed}
use Rattle.validate.proofs.HintBits.{set_of_bits}
use Rattle.validate.proofs.end.hint_bits.Goals as goal

pub returns : goal.returns
returns c =
    let n = c.hint_count.ensures.count.0 in
    rw n at
    (set_of_bits (closed_at (job_of c.args.job.now).hints c.args.w.now.hints c.args.w.now.facts) c.hint_count.result _ c.set_of-met.ensures.below
    (λ i l. let e = c.set_of-met.ensures.bits i l in hint_closed _ _ _ _ c.constraint_count-from.ensures.count.0 (rw n at l) (search rules)))
