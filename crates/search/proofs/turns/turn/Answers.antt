-- `turn` ends where no slot is open.
use Rattle.std.proofs.Common.{refl, ◌≡◌}
use Rattle.table.specs.Lookup.{least_in, slot_of_best}
use Rattle.table.proofs.LookupLaws.{least_inside}
use Rattle.held.proofs.Lookup.{least_at, least_nothing}
use Rattle.search.proofs.TurnLaws.{nothing_ends}
use Rattle.search.proofs.turns.turn.Goals as goal
use Rattle.search.proofs.turns.turn.Goals.{After-least}

-- what `least` answers of the table's slots
least_is : (c : After-least) → c.least.result ≡ slot_of_best (least_in c.args.t.now.slots 0)
least_is c = rw c.in_use.ensures at c.least.ensures

pub turn_at-requires : goal.turn_at-requires
turn_at-requires c = (
  c.requires,
  record {
    inside = least_inside _ _ _ c.in-Some.is (least_is (goal.at.turn_at-requires c).After-least);
    least = least_at c.args.work.now _ c.requires.1.sound (least_is (goal.at.turn_at-requires c).After-least) c.in-Some.is;
  },
)

pub returns-in-None : goal.returns-in-None
returns-in-None c = (
  nothing_ends c.args.work.now _ _
      (least_nothing c.args.work.now _ c.requires.1.sound (least_is (goal.at.returns-in-None c).After-least) c.in-None.is)
      (rw c.job.ensures at c.no_plan.ensures),
  refl,
)
