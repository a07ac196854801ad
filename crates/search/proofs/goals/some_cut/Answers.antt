-- `any` asks of each slot in use whether it is cut.
use Rattle.std.proofs.Common.{rules, refl, arith, ◌∙◌, length, zero-add}
use Rattle.std.proofs.lemmas.Iterator.{YieldsList-from_range}
use Rattle.std.proofs.lemmas.Iterator.Search.{any_from_yields_List}
use Rattle.table.specs.Slots.{slot_in}
use Rattle.search.specs.GoalSlots.{slot_cut}
use Rattle.search.proofs.GoalLaws.{any_numbered}
use Rattle.search.proofs.goals.some_cut.Goals as goal

pub returns : goal.returns
returns c =
    let ss = c.args.t.now.slots in
    any_from_yields_List (λ i. slot_cut c.args.job.now (slot_in ss i)) _ _ _ c.any.ensures.ran
    (YieldsList-from_range 0 c.len.result (length ss) refl (omega (arith, c.len.ensures))) (λ x b q k. search rules)
    ∙ any_numbered c.args.job.now (slot_in ss) ss 0 (λ k l. rw (zero-add k) refl)
