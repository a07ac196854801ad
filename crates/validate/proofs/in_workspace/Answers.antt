-- The words of a workspace with a memo are zeros.
use Rattle.std.proofs.Common.{refl, arith}
use Rattle.validate.proofs.in_workspace.Goals as goal

pub new-requires : goal.new-requires
new-requires c = (8224, omega arith, refl)
