-- `next` hands a group's sections on, unless there are none.
use Rattle.std.proofs.Common.{refl, arith}
use Rattle.progression.proofs.Lent.{few_sections}
use Rattle.progression.proofs.Rows.{none_next}
use Rattle.progression.proofs.next.Goals as goal

pub returns-then-at-eq0 : goal.returns-then-at-eq0
returns-then-at-eq0 c = (none_next _ (rw c.job.ensures at c.sections_of-at.ensures) c.if-at-eq0.true _ _, refl)

pub next_in-requires : goal.next_in-requires
next_in-requires c =
    let s = rw c.job.ensures at c.sections_of-at.ensures in
    (s.starts, s.ends, omega (arith, s.ends, few_sections _ s.accepted), s.few, c.requires)
