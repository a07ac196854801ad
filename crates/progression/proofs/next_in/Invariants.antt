-- The array is filled as far as the loop has come.
use Rattle.std.proofs.Common.{◌≡◌, take, Some}
use Rattle.model.specs.search.Node.{progressed_all}
use Rattle.progression.specs.Padded.{padded, formulas_from}
use Rattle.progression.proofs.next_in.Given as goal

abbrev pub invariant-loop-i : goal.invariant-loop-i
invariant-loop-i l = record {
  same : l.work ≡ l.initial.work;
  filled : l.left ≡ padded
      (progressed_all (formulas_from l.initial.work.bytes l.at.from l.i) (take l.i l.rs) (record { state = l.state; made = Some l.action }));
}
