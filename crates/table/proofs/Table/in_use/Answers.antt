-- `in_use` lends bytes that have all the slots that there is room for.
use Rattle.std.proofs.Common.{arith}
use Rattle.table.proofs.TableLaws.{room_bytes}
use Rattle.table.proofs.Table.in_use.Goals as goal

pub new-requires : goal.new-requires
new-requires c = omega (arith, c.self.invariant.used, room_bytes c.self.invariant)
