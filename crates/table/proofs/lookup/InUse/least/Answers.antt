-- `least` goes from the last slot to the first, and chooses between each slot and the best after it.
use Rattle.std.proofs.Common.{rules, arith, ◌≡◌, ◌∙◌, ap, refl, ◌-◌}
use Rattle.table.specs.Lookup.{slot_of_best}
use Rattle.table.proofs.TableLaws.{length_is}
use Rattle.table.proofs.LookupLaws.{least_none, least_more}
use Rattle.table.proofs.lookup.InUse.least.Goals as goal

pub loop-i-init : goal.loop-i-init
loop-i-init c = least_none c.args.self.now _ (omega (arith, length_is c.self.invariant c.self.view_is))

pub loop-i-preserved : goal.loop-i-preserved
loop-i-preserved c =
    let l = c.loop-i in
    least_more c.args.self.now (l.i - 1) l.i _ _ _ l.invariant c.choose-best.ensures (omega arith) refl
    (omega (arith, length_is c.self.invariant c.self.view_is))

pub returns : goal.returns
unfolding slot_of_best
returns c =
    let l = c.loop-i in
    let e : l.i ≡ 0 = omega arith in
    let h : c.map.result ≡ slot_of_best l.best = search rules in
    h ∙ ap slot_of_best (rw e at l.invariant)
