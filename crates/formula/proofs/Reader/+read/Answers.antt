-- `read` answers by the code at its position.
use Rattle.std.proofs.Common.{◌≡◌, sym, ap, ◌∙◌, ℕ, ◌+◌, ◌<◌, arith, rules}
use Rattle.std.proofs.lemmas.Result.{err_from_is_err_and}
use Rattle.model.specs.declared.Code.{Code}
use Rattle.model.specs.declared.Code.TheVariants.{Leaf, Fact, Action, One, Two, Unknown}
use Rattle.model.specs.logic.Reading.{parsed}
use Rattle.model.proofs.logic.ReadingLaws.{at_the_end}
use Rattle.formula.specs.Extent.{is_next, wrong_at, extent}
use Rattle.formula.proofs.Reading.{reading, read_is, read_grows}
use Rattle.formula.proofs.Reader.+read.Goals as goal
use Rattle.formula.proofs.Reader.+read.Goals.{After-with_if-here}

-- the answer at the position, by its code
told : {t : ℕ} (c : After-with_if-here t) (k : Code) → c.from-code.result ≡ k
    → (let a = c.args in
    let r = a.self.now in
    reading k (λ u x m. extent u x m (parsed r.facts r.actions r.bytes.now m)) r.facts r.actions r.bytes.now c.with_if-here.result a.at
    ≡ extent a.under a.seen a.at (parsed r.facts r.actions r.bytes.now a.at))
told c k e =
    let a = c.args in
    let r = a.self.now in
    sym (rw (← e, c.with_if-here.ensures, c.is_part.ensures)
    (read_is r.facts r.actions r.bytes.now a.under a.seen a.at c.from-code.result c.in_ok-byte.ensures.there.0
    (rw c.in_ok-byte.ensures.there.1 at c.from-code.ensures)))

pub returns-in_err-byte : goal.returns-in_err-byte
unfolding extent
returns-in_err-byte t c =
    let a = c.args in
    let w = err_from_is_err_and c.from_residual.result c.from_residual.ensures.1 in
    let p = c.in_err-byte.ensures.past in
    let r = a.self.now in
    rw (w.1, w.2, at_the_end r.facts r.actions r.bytes.now a.at p.0) (ap wrong_at p.1)

-- the second operand stands further on, so fewer bytes are left
pub read-requires-in-Two-2 : goal.read-requires-in-Two-2
read-requires-in-Two-2 t c =
    let a = c.args in
    let r = a.self.now in
    let e = c.in_ok-first-in-Two in
    let g : a.at + 1 < e.first.next = read_grows r.facts r.actions r.bytes.now _ _ (a.at + 1) e.first e.ensures in
    (omega (arith, c.in_ok-byte.ensures.there.0), tt)

pub returns-in-Leaf : goal.returns-in-Leaf
unfolding reading
returns-in-Leaf t c = told (goal.at.returns-in-Leaf t c).After-with_if-here (Leaf c.in-Leaf.field-0) c.in-Leaf.is

pub returns-in-Fact : goal.returns-in-Fact
unfolding reading
returns-in-Fact t c = c.number.ensures ∙ told (goal.at.returns-in-Fact t c).After-with_if-here Fact c.in-Fact.is

pub returns-in-Action : goal.returns-in-Action
unfolding reading
returns-in-Action t c = c.number-in-Action.ensures ∙ told (goal.at.returns-in-Action t c).After-with_if-here Action c.in-Action.is

pub returns-in-One : goal.returns-in-One
unfolding reading
returns-in-One t c =
    let g : c.eq.result ≡ is_next c.in-One.o = search rules in
    rw (c.read.ensures, g) (told (goal.at.returns-in-One t c).After-with_if-here (One c.in-One.o) c.in-One.is)

pub returns-in_err-first-in-Two : goal.returns-in_err-first-in-Two
unfolding reading
returns-in_err-first-in-Two t c =
    let w = err_from_is_err_and c.from_residual-in_err-first-in-Two.result c.from_residual-in_err-first-in-Two.ensures.1 in
    let e = told (goal.at.returns-in_err-first-in-Two t c).After-with_if-here (Two c.in-Two.field-0) c.in-Two.is in
    rw (w.1, w.2) (rw (← c.in_err-first-in-Two.ensures) at e)

pub returns-in_ok-first-in-Two : goal.returns-in_ok-first-in-Two
unfolding reading
returns-in_ok-first-in-Two t c =
    let e = told (goal.at.returns-in_ok-first-in-Two t c).After-with_if-here (Two c.in-Two.field-0) c.in-Two.is in
    c.read-in-Two-2.ensures ∙ (rw (← c.in_ok-first-in-Two.ensures) at e)

pub returns-in-Unknown : goal.returns-in-Unknown
unfolding reading
returns-in-Unknown t c = told (goal.at.returns-in-Unknown t c).After-with_if-here Unknown c.in-Unknown.is
