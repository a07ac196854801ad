-- What the structs of the code stand for in the model.
use Rattle.task.specs.declared.Action as code
use Rattle.task.specs.declared.Key as order
use Rattle.model.specs.job.Job.{Action}
use Rattle.model.specs.exploration.Key.{Key}

abbrev pub action_is : code.Action → Action
action_is a = record { pre = a.pre; add = a.add; del = a.del; forbidden = a.forbidden; cost = a.cost }

abbrev pub key_is : order.Key → Key
key_is k = record { cost = k.cost; steps = k.steps }
