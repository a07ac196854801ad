-- `choose` takes the better of a slot and the best after it.
use Rattle.std.proofs.Common.{◌≡◌, sym, ap, ◌∙◌, false}
use Rattle.model.specs.exploration.Key.{less}
use Rattle.task.specs.Meaning.{key_is}
use Rattle.task.proofs.KeyLaws.{lt_is_less}
use Rattle.table.specs.declared.lookup.Candidate.{Candidate}
use Rattle.table.specs.Slots.{slot_in}
use Rattle.table.proofs.LookupLaws.{better_taken, better_first, better_behind, better_here}
use Rattle.table.proofs.lookup.InUse.choose.Goals as goal
use Rattle.table.proofs.lookup.InUse.choose.Goals.{After-rank-rank, After-lt}

is_open : (c : After-rank-rank) → false ≡ (slot_in c.args.self.now c.args.i).taken
is_open c = sym c.if-is_taken.false ∙ c.is_taken.ensures

is_less : (c : After-lt) → c.lt.result ≡ less (key_is c.in-Some.b.rank) (key_is c.rank-rank.result)
is_less c = lt_is_less _ _ c.lt.ensures ∙ ap (λ (b : Candidate). less (key_is b.rank) (key_is c.rank-rank.result)) c.in-Some.b-is

pub returns-then-is_taken : goal.returns-then-is_taken
returns-then-is_taken c = better_taken _ _ _ (sym c.if-is_taken.true ∙ c.is_taken.ensures)

pub returns-in-Some : goal.returns-in-Some
returns-in-Some c =
    let a = goal.at.returns-in-Some c in
    rw c.in-Some.is (better_behind _ _ (is_open a.After-rank-rank) _ c.rank-rank.ensures _ (sym c.if-lt.true ∙ is_less a.After-lt))

pub returns-in_default : goal.returns-in_default
returns-in_default c =
    let a = goal.at.returns-in_default c in
    rw c.in-Some.is (better_here _ _ (is_open a.After-rank-rank) _ c.rank-rank.ensures _ (sym c.if-lt.false ∙ is_less a.After-lt))

pub returns-in_default-2 : goal.returns-in_default-2
returns-in_default-2 c =
    rw c.in_default.is (better_first _ _ (is_open (goal.at.returns-in_default-2 c).After-rank-rank) _ c.rank-rank.ensures)
