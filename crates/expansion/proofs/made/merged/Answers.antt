-- `merged` keeps the way whose path comes first, which `comes_first` tells.
use Rattle.expansion.proofs.Merging.{merged_new, merged_old}
use Rattle.expansion.proofs.made.merged.Goals as goal

pub returns-then-comes_first : goal.returns-then-comes_first
returns-then-comes_first c = (
  merged_new _ c.requires.0 c.requires.1 _ c.hints_of.ensures.0 c.met-hints.ensures
      (rw (c.in_use.ensures, c.from-ours.ensures, c.from-theirs.ensures) at c.comes_first.ensures) c.if-comes_first.true,
  c.hints_of.ensures.1,
)

pub returns-else-comes_first : goal.returns-else-comes_first
returns-else-comes_first c = (
  merged_old _ c.requires.0 c.requires.1 _ c.hints_of.ensures.0 c.met-hints.ensures
      (rw (c.in_use.ensures, c.from-ours.ensures, c.from-theirs.ensures) at c.comes_first.ensures) c.if-comes_first.false,
  c.hints_of.ensures.1,
)
