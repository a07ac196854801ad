-- Dead by the first test, true at every setting by the second.
use Rattle.std.proofs.Common.{sym, ap, ◌∙◌, Bool, ◌||◌, eqb, eq-eqb, ne_eqb}
use Rattle.model.specs.logic.Parts.{most_parts}
use Rattle.model.specs.logic.Progression.{dead, all_true, settled}
use Rattle.progression.proofs.section.is_settled.Goals as goal

pub returns-then-r-eq0 : goal.returns-then-r-eq0
unfolding settled dead
returns-then-r-eq0 c = let r = c.args.r in
    eq-eqb r 0 c.if-r-eq0.true ∙ sym (ap (λ (b : Bool). b || eqb r (all_true most_parts)) (eq-eqb r 0 c.if-r-eq0.true))

pub returns-else-r-eq0 : goal.returns-else-r-eq0
unfolding settled dead
returns-else-r-eq0 c = let r = c.args.r in sym (ap (λ (b : Bool). b || eqb r (all_true most_parts)) (ne_eqb r 0 c.if-r-eq0.false))
