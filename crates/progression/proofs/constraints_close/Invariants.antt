-- The constraints that were passed are true of the closing world.
use Rattle.std.proofs.Common.{◌≡◌, true, take, None}
use Rattle.model.specs.job.Layout.{constraint_count}
use Rattle.model.specs.search.Node.{closing_all}
use Rattle.progression.specs.Padded.{formulas_from}
use Rattle.progression.proofs.constraints_close.Given as goal

abbrev pub invariant-loop-i : goal.invariant-loop-i
invariant-loop-i l = record {
  counted : l.i-end ≡ constraint_count l.initial.work.bytes;
  same : l.work ≡ l.initial.work;
  closed : closing_all (formulas_from l.initial.work.bytes 1 l.i) (take l.i l.rs) (record { state = l.state; made = None }) ≡ true;
}
