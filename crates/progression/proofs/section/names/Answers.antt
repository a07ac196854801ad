-- The numbers after the codes 03 and 04 in the section have all that the formula names.
use Rattle.progression.proofs.Lent.{lent_named}
use Rattle.progression.proofs.section.names.Goals as goal

pub returns : goal.returns
returns c =
    let s = c.section-s.ensures in
    lent_named _ s.accepted _ c.requires.0 c.requires.1 _ s.bytes _ _ c.after.ensures c.after-2.ensures
