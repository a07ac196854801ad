-- What was in the first entry goes to the second, and the answer to the first.
use Rattle.std.proofs.Common.{sym, ap, ◌∙◌, subst, List, ℕ, ◌+◌, ◌*◌}
use Rattle.progression.specs.Workspace.{written, Remembers}
use Rattle.progression.proofs.EntryLaws.{remembered}
use Rattle.progression.proofs.entries.remember.Goals as goal

pub returns : goal.returns
returns c =
    let a = c.args in
    let e = c.entry_of-e.result in
    subst (Remembers a.words.now a.q a.x)
    (sym (c.put-2.ensures ∙ ap (λ (v : List ℕ). written v (32 + 4 * e) a.q a.x) c.put.ensures))
    (remembered a.words.now e a.q c.question_at-old.result a.x c.question_at-old.ensures c.entry_of-e.ensures)
