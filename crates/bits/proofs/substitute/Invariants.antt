-- The tables below i, put into what is left, make the substitution of all.
use Rattle.std.proofs.Common.{◌≡◌}
use Rattle.model.specs.logic.Parts.{most_parts}
use Rattle.bits.specs.Tables.{select_down, substituted}
use Rattle.bits.proofs.substitute.Given as goal

abbrev pub invariant-loop-i : goal.invariant-loop-i
invariant-loop-i l = select_down most_parts l.i l.t l.left ≡ substituted most_parts l.t l.r
