-- An entry that is found is that of the question.
use Rattle.std.proofs.Common.{rules, ◌+◌, arith}
use Rattle.progression.proofs.EntryLaws.{recalled_at}
use Rattle.progression.proofs.entries.recall.Goals as goal

pub returns-then-eq-2 : goal.returns-then-eq-2
returns-then-eq-2 c = let a = c.args in recalled_at a.words.now a.q _ (c.entry_of-e.result + 1) (omega arith) (omega arith) (search rules)
