-- What the formulas before section i name is written down, and no entry is used.
use Rattle.std.proofs.Common.{◌≡◌, ℕ, ◌*◌, ◌-◌, ◌≤◌, ◌<◌, length, get_or}
use Rattle.model.specs.logic.Names.{Names}
use Rattle.model.specs.job.Layout.{formula_at}
use Rattle.progression.proofs.memo.prepare.Given as goal

abbrev pub invariant-loop-i : goal.invariant-loop-i
invariant-loop-i l = record {
  short : length l.words ≤ 65536;
  named : (j : ℕ) → 1 ≤ j → j < l.i → Names (get_or l.words (2 * j - 2) 0) (get_or l.words (2 * j - 1) 0) (formula_at l.job j);
  empty : (e : ℕ) → 32 ≤ e → get_or l.words e 0 ≡ 0;
}
