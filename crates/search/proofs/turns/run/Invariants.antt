-- What is still to come is what the whole search comes to.
use Rattle.std.proofs.Common.{suc, ◌-◌}
use Rattle.astar.specs.Search.{turns}
use Rattle.held.specs.Held.{sys, held_in}
use Rattle.search.proofs.TurnLaws.{Going}
use Rattle.search.proofs.turns.run.Given as goal

abbrev pub invariant-loop : goal.invariant-loop
invariant-loop l =
    Going l.work l.t (l.end - l.counter)
    (turns (sys l.initial.work) l.initial.t.room (suc l.initial.t.room) (held_in l.initial.work.bytes l.initial.t.slots))
