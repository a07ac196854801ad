-- `cost_of` reads an action's last number.
use Rattle.job.proofs.Accepted.{field_read}
use Rattle.nodes.proofs.cost_of.Goals as goal

pub returns : goal.returns
returns c =
    record {
      costs = field_read c.args.job.now c.from.ensures c.requires (λ a. a.cost) c.action_cost.ensures.cost.0;
      cheap = c.action_cost.ensures.cost.1;
    }
