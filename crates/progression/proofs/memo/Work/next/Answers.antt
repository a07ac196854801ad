-- A settled residual stays; an entry that is found says what is left; else it is worked out and written.
use Rattle.std.proofs.Common.{sym, ◌∙◌, arith}
use Rattle.progression.proofs.Lent.{settled_left, few_sections}
use Rattle.progression.proofs.MemoLaws.{kept_by, found_next, kept_next}
use Rattle.progression.proofs.memo.Work.next.Goals as goal

pub returns-then-is_settled : goal.returns-then-is_settled
returns-then-is_settled c =
    let k = kept_by c.self.view_is c.self.invariant in
    (sym (settled_left _ k.accepted _ c.requires.0 c.requires.1 _ _ (sym c.is_settled.ensures ∙ c.if-is_settled.true)), c.self.view_is)

pub named_action-made-requires : goal.named_action-made-requires
named_action-made-requires c = omega (arith, few_sections _ (kept_by c.self.view_is c.self.invariant).accepted)

pub asked-q-requires : goal.asked-q-requires
asked-q-requires c = omega (arith, few_sections _ (kept_by c.self.view_is c.self.invariant).accepted)

pub returns-in-Some : goal.returns-in-Some
returns-in-Some c = (
  found_next _ _ (kept_by c.self.view_is c.self.invariant) (omega arith) _ c.requires.0 c.requires.1 _ _ _ c.requires.2 _ c.named_action-made.ensures
      _ c.asked-q.ensures _ _ c.recall.ensures c.in-Some.is,
  c.self.view_is,
)

pub invariant_of-self-2 : goal.invariant_of-self-2
invariant_of-self-2 c =
    let t = rw (c.formula-2.ensures, c.job-2.ensures, c.self.view_is) at c.next-x.ensures in
    kept_by (sym c.self.view_is)
    (kept_next _ _ (kept_by c.self.view_is c.self.invariant) (omega arith) _ c.requires.0 c.requires.1 _ _ _ c.requires.2 _ c.named_action-made.ensures
    _ c.asked-q.ensures _ t c.remember.ensures)
