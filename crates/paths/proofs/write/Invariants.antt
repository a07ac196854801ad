-- The actions still to write, and then the plan from there on, are what is wanted.
use Rattle.std.proofs.Common.{◌≡◌, ◌<◌, ◌≤◌, length, drop, ◌++◌}
use Rattle.paths.specs.Chain.{steps_at, slot_path}
use Rattle.paths.proofs.write.Given as goal

abbrev pub invariant-loop-k : goal.invariant-loop-k
invariant-loop-k l = record {
  rest : slot_path l.t l.k l.at ++ drop l.k l.plan ≡ slot_path l.t (steps_at l.t l.i) l.i ++ drop (steps_at l.t l.i) l.initial.plan;
  steps : steps_at l.t l.at ≡ l.k;
  inside : l.at < length l.t;
  fits : l.k ≤ length l.initial.plan;
}
