-- `action_of` reads an action's five numbers.
use Rattle.nodes.proofs.Fields.{action_read}
use Rattle.nodes.proofs.action_of.Goals as goal

pub returns : goal.returns
returns c =
    record {
      acts = action_read c.args.job.now c.from-k.ensures c.requires c.action_pre.ensures.set c.action_add.ensures.set c.action_del.ensures.set
          c.action_forbidden.ensures.set c.action_cost.ensures.cost.0;
      cheap = c.action_cost.ensures.cost.1;
    }
