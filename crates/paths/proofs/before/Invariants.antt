-- The two slots at hand are to be compared in place of the two given, and have fewer steps each turn.
use Rattle.std.proofs.Common.{◌≡◌}
use Rattle.paths.specs.Chain.{parent_at, steps_at, order, Level}
use Rattle.paths.proofs.before.Given as goal

abbrev pub invariant-loop-p : goal.invariant-loop-p
invariant-loop-p l = record {
  same : order l.t l.x l.y ≡ order l.t l.i l.j;
  level : Level l.t l.i l.j;
  p_is : l.p ≡ parent_at l.t l.i;
  q_is : l.q ≡ parent_at l.t l.j;
}

abbrev pub decreases-loop-p : goal.decreases-loop-p
decreases-loop-p l = steps_at l.t l.i
