-- `key_of` extends the key of the slot that is expanded.
use Rattle.expansion.proofs.Making.{key_reached}
use Rattle.expansion.proofs.made.key_of.Goals as goal

pub returns : goal.returns
returns c =
    let x = c.args.x.now in
    key_reached c.args.job.now x.from x.action _ _ c.extended.ensures c.cost_of.ensures c.requires
