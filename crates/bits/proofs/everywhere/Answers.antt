-- The two constant tables, which antt computes.
use Rattle.std.proofs.Common.{◌≡◌, refl, sym, ap, ◌∙◌, Bool, true, false, ℕ}
use Rattle.model.specs.logic.Parts.{most_parts}
use Rattle.bits.specs.Tables.{everywhere}
use Rattle.bits.proofs.everywhere.Goals as goal

same : (d : Bool) (r : ℕ) → r ≡ everywhere most_parts d → (b : Bool) → b ≡ d → r ≡ everywhere most_parts b
same d r t b e = t ∙ ap (everywhere most_parts) (sym e)

pub returns-then-b : goal.returns-then-b
unfolding everywhere
returns-then-b c = same true 0xffff_ffff_ffff_ffff refl c.args.b c.if-b.true

pub returns-else-b : goal.returns-else-b
unfolding everywhere
returns-else-b c = same false 0 refl c.args.b c.if-b.false
