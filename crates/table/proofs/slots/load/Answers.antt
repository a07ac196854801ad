-- `load` reads a slot: that of its row.
use Rattle.table.proofs.SlotLaws.{slot_read}
use Rattle.table.proofs.slots.load.Goals as goal

pub returns : goal.returns
returns c = slot_read _ _ _ _ c.unpack.ensures c.get_row.ensures c.requires
