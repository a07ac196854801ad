-- Deleted facts go, then added ones come.
use Rattle.std.proofs.Common.{ℕ, ap, bit_or}
use Rattle.model.specs.task.State.{after}
use Rattle.task.proofs.State.after.Goals as goal

pub returns : goal.returns
unfolding after
returns c = ap (λ (kept : ℕ). bit_or kept c.args.a.add) c.without.ensures
