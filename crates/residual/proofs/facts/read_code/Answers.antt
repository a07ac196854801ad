-- One code more is read as its code says.
use Rattle.std.proofs.Common.{sym, ◌∙◌}
use Rattle.model.specs.declared.Code.TheVariants.{Fact, Action}
use Rattle.model.specs.Bits.{bit, digit}
use Rattle.residual.proofs.Passing.{read_as, other_code}
use Rattle.residual.proofs.facts.read_code.Goals as goal

pub returns-in-Fact : goal.returns-in-Fact
unfolding bit digit
returns-in-Fact c = rw c.truth_at.ensures (read_as _ _ _ Fact c.in-Fact.ensures)

pub returns-in-Action : goal.returns-in-Action
returns-in-Action c = read_as _ _ _ Action c.in-Action.ensures

pub returns-in_default : goal.returns-in_default
returns-in_default c = sym (other_code _ _ _ _ c.in_default.not-Fact c.in_default.not-Action) ∙ read_as _ _ _ _ c.from.ensures
