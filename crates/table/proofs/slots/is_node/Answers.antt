-- `is_node` compares the words one by one.
use Rattle.std.proofs.Common.{rules, refl, arith, ◌∙◌, ◌+◌, ◌*◌, get_or, eqb}
use Rattle.std.proofs.lemmas.Iterator.{YieldsList-from_range}
use Rattle.std.proofs.lemmas.Iterator.Search.{all_from_yields_List}
use Rattle.table.specs.Cells.{word, row_words}
use Rattle.table.proofs.LookupLaws.{node_same}
use Rattle.table.proofs.slots.is_node.Goals as goal

pub returns : goal.returns
returns c =
    let a = c.args in
    all_from_yields_List (λ j. eqb (get_or a.node j 0) (word a.t.now (a.i * row_words + j))) _ _ _ c.all.ensures.ran (YieldsList-from_range 0 9 9 refl refl)
    (λ x b q k. search rules)
    ∙ node_same a.t.now a.node a.i c.requires (omega arith)
