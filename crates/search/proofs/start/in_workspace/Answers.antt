-- A workspace is lent as zeros.
use Rattle.std.proofs.Common.{refl, arith}
use Rattle.search.proofs.start.in_workspace.Goals as goal

pub new-requires : goal.new-requires
new-requires c = (8224, omega arith, refl)
