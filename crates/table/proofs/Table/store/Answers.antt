-- `store` leaves the room.
use Rattle.table.proofs.TableLaws.{within_still}
use Rattle.table.proofs.Table.store.Goals as goal

pub invariant_of-self : goal.invariant_of-self
invariant_of-self c = within_still c.self.invariant c.store.auto.t
