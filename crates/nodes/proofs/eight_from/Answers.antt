-- `eight_from` reads the actions one by one.
use Rattle.model.specs.job.Layout.{job_of}
use Rattle.nodes.proofs.ChoiceLaws.{eight}
use Rattle.nodes.proofs.eight_from.Goals as goal

pub returns : goal.returns
returns c =
    eight (job_of c.args.job.now) c.args.first c.action_or_none.ensures c.action_or_none-2.ensures
    c.action_or_none-3.ensures c.action_or_none-4.ensures c.action_or_none-5.ensures c.action_or_none-6.ensures
    c.action_or_none-7.ensures c.action_or_none-8.ensures
