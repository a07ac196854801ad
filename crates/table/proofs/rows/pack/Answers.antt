-- `pack` makes a row that gives the slot again.
use Rattle.table.proofs.RowLaws.{slot_again}
use Rattle.table.proofs.rows.pack.Goals as goal

pub returns : goal.returns
returns c =
    let e = c.line.ensures in
    slot_again c.args.s _ _ _ e.0 c.key_word-key.ensures c.flag_word-flags.ensures e.1 e.2 c.requires
