-- `find` asks of each slot in use whether it is that of the node.
use Rattle.std.proofs.Common.{rules, arith}
use Rattle.std.proofs.lemmas.Iterator.{serves_from_Range, first_from_Range}
use Rattle.table.proofs.TableLaws.{length_is}
use Rattle.table.proofs.LookupLaws.{Here, Other, find_first}
use Rattle.table.proofs.lookup.InUse.find.Goals as goal

pub find-requires-clause-callable : goal.find-requires-clause-callable
find-requires-clause-callable c =
    serves_from_Range (λ x q k. search rules)
    (λ x l m i e _ _ _ _ _ _ _. omega (arith, e, m, length_is c.self.invariant c.self.view_is))

pub returns : goal.returns
returns c =
    let a = c.args in
    let ss = c.args.self.now in
    find_first a.node ss _ _ (length_is c.self.invariant c.self.view_is)
    (first_from_Range _ _ _ _ (Here a.node ss) (Other a.node ss) c.find.ensures.ran (λ x q k. search rules) (λ x q k. search rules))
