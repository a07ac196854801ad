-- The section is lent on to the evaluator, for which it is the formula in it.
use Rattle.std.proofs.Common.{◌∙◌}
use Rattle.progression.proofs.Lent.{lent_ready, lent_formula}
use Rattle.progression.proofs.section.formula.Goals as goal

pub new-requires : goal.new-requires
new-requires c = let s = c.section.ensures in lent_ready _ s.accepted _ c.requires.0 c.requires.1 _ s.bytes

pub returns : goal.returns
returns c = let s = c.section.ensures in c.new.ensures ∙ lent_formula _ s.accepted _ c.requires.0 c.requires.1 _ s.bytes
