-- An entry that is found says it; else it is worked out and written.
use Rattle.std.proofs.Common.{sym, arith}
use Rattle.progression.proofs.Lent.{few_sections}
use Rattle.progression.proofs.MemoLaws.{kept_by, found_closing, kept_closing}
use Rattle.progression.proofs.memo.Work.closing.Goals as goal

pub asked-q-requires : goal.asked-q-requires
asked-q-requires c = omega (arith, few_sections _ (kept_by c.self.view_is c.self.invariant).accepted)

pub returns-in-Some : goal.returns-in-Some
returns-in-Some c = (
  found_closing _ _ (kept_by c.self.view_is c.self.invariant) (omega arith) _ c.requires.0 c.requires.1 _ _ _ c.asked-q.ensures
      _ _ c.recall.ensures c.in-Some.is,
  c.self.view_is,
)

pub invariant_of-self-2 : goal.invariant_of-self-2
invariant_of-self-2 c =
    let t = rw (c.formula.ensures, c.job-2.ensures, c.self.view_is) at c.closing-b.ensures in
    kept_by (sym c.self.view_is)
    (kept_closing _ _ (kept_by c.self.view_is c.self.invariant) (omega arith) _ c.requires.0 c.requires.1 _ _ _ c.asked-q.ensures
    _ _ c.from.ensures t c.remember.ensures)
