-- A settled residual is dead, or true of the closing world.
use Rattle.std.proofs.Common.{sym, ◌∙◌}
use Rattle.model.specs.logic.Progression.{dead}
use Rattle.progression.proofs.Lent.{settled_closed}
use Rattle.progression.proofs.section.closes.Goals as goal

pub returns-then-is_settled : goal.returns-then-is_settled
unfolding dead
returns-then-is_settled c =
    sym (settled_closed _ c.pair_count.ensures.accepted _ c.requires.0 c.requires.1 _ _ (sym c.is_settled.ensures ∙ c.if-is_settled.true))
