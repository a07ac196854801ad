-- The actions below a came to the table at hand.
use Rattle.std.proofs.Common.{◌≡◌}
use Rattle.expansion.proofs.Turns.{Going}
use Rattle.expansion.proofs.expand.Given as goal

abbrev pub invariant-loop-a : goal.invariant-loop-a
invariant-loop-a l =
    record {
      going : Going l.initial.work l.initial.t l.i l.from l.t l.a;
      same_work : l.work ≡ l.initial.work;
    }
