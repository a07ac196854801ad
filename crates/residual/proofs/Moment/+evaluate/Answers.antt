-- `evaluate` answers by the code at its position.
use Rattle.std.proofs.Common.{◌≡◌, refl, sym, ◌∙◌, ℕ, ◌+◌, ◌<◌, ◌≤◌, Bool, false, List, arith, length, get_or}
use Rattle.model.specs.declared.Code.{Code}
use Rattle.model.specs.declared.Code.TheVariants.{Fact, Action}
use Rattle.model.specs.logic.Formula.{Formula, fact, action, code_of}
use Rattle.model.specs.logic.Parts.{most_bytes, most_parts, temporal1, temporal2}
use Rattle.model.specs.logic.Reading.{formula, numbered, operands, parsed}
use Rattle.model.proofs.logic.ReadingLaws.{by_code, parsed_grows}
use Rattle.formula.specs.Extent.{carries}
use Rattle.residual.specs.Node.{after}
use Rattle.residual.specs.Walk.{starts, Few}
use Rattle.residual.proofs.Nodes.{compared_next}
use Rattle.residual.proofs.Numbers.{few_inside, few_number, one_few, two_few, inner_le, first_le, part_below}
use Rattle.residual.proofs.Walks.{walk_grows, constant_answers, fact_answers, action_answers, one_answers, second_few, two_answers}
use Rattle.residual.proofs.Moment.+evaluate.Goals as goal

-- the code k was found where a formula stands that has few parts
record Found (s : List ℕ) (at : ℕ) (under : Bool) (n : ℕ) (k : Code) : Type 0 where
  inside : at < length s
  -- what stands there is what is read by the code, and has few parts
  is : parsed 64 64 s at ≡ operands 64 64 s k (parsed 64 64 s) at
  few : Few (operands 64 64 s k (parsed 64 64 s) at) under n
  -- the numbers inside are those of unknowns, and so is the first of them
  room : after (carries k) (starts under (carries k) n) ≤ most_parts
  first : n ≤ most_parts

found : {s : List ℕ} {at : ℕ} {under : Bool} {n : ℕ} {k : Code} → Few (parsed 64 64 s at) under n → k ≡ code_of (get_or s at 0)
    → Found s at under n k
found {s} {at} {under} {n} {k} h e =
    let l : at < length s = few_inside 64 64 s under n at h in
    let i : parsed 64 64 s at ≡ operands 64 64 s k (parsed 64 64 s) at = by_code 64 64 s at k l (sym e) in
    let f : Few (operands 64 64 s k (parsed 64 64 s) at) under n = rw i at h in
    let r : after (carries k) (starts under (carries k) n) ≤ most_parts =
    inner_le 64 64 s under n k (parsed 64 64 s) (parsed_grows 64 64 s) at f in
    record { inside = l; is = i; few = f; room = r; first = first_le under (carries k) n r }

-- the number after a fact's or an action's code is there, and ends within the most bytes, so that a fact's truth has a bit
record Number (s : List ℕ) (at : ℕ) (f : ℕ → Formula) : Type 0 where
  inside : at + 1 < length s
  low : at + 1 + 1 ≤ most_bytes
  is : parsed 64 64 s at ≡ formula (f (get_or s (at + 1) 0)) (at + 1 + 1)

number : (s : List ℕ) (at : ℕ) (under : Bool) (n : ℕ) (f : ℕ → Formula) → parsed 64 64 s at ≡ numbered 64 64 s f 64 (at + 1)
    → Few (numbered 64 64 s f 64 (at + 1)) under n → Number s at f
number s at under n f e h =
    let d = few_number 64 64 s under n f 64 (at + 1) h in
    record { inside = d.0; low = (rw d.2 at h).1; is = e ∙ d.2 }

fact_number : {s : List ℕ} {at : ℕ} {under : Bool} {n : ℕ} → Found s at under n Fact → Number s at fact
unfolding operands
fact_number {s} {at} {under} {n} d = number s at under n fact d.is d.few

action_number : {s : List ℕ} {at : ℕ} {under : Bool} {n : ℕ} → Found s at under n Action → Number s at action
unfolding operands
action_number {s} {at} {under} {n} d = number s at under n action d.is d.few

pub bounds-self-at : goal.bounds-self-at
bounds-self-at t c = (found c.requires refl).inside

pub overflow_add-b : goal.overflow_add-b
overflow_add-b t c = omega (arith, (found c.requires refl).inside)

-- ---- no operand

pub leaf-requires : goal.leaf-requires
leaf-requires t c = (found c.requires c.in-Leaf.ensures).room

pub overflow_cast-at : goal.overflow_cast-at
overflow_cast-at t c = omega (arith, (fact_number (found c.requires c.in-Fact.ensures)).low)

pub bit_at-truth-requires : goal.bit_at-truth-requires
bit_at-truth-requires t c = omega (arith, (fact_number (found c.requires c.in-Fact.ensures)).low)

pub overflow_add-b-in-Fact : goal.overflow_add-b-in-Fact
overflow_add-b-in-Fact t c = omega (arith, (fact_number (found c.requires c.in-Fact.ensures)).low)

pub leaf-requires-in-Fact : goal.leaf-requires-in-Fact
leaf-requires-in-Fact t c = (found c.requires c.in-Fact.ensures).room

pub bounds-self-b : goal.bounds-self-b
bounds-self-b t c = (action_number (found c.requires c.in-Action.ensures)).inside

pub overflow_add-b-in-Action : goal.overflow_add-b-in-Action
overflow_add-b-in-Action t c = omega (arith, (action_number (found c.requires c.in-Action.ensures)).low)

pub leaf-requires-in-Action : goal.leaf-requires-in-Action
leaf-requires-in-Action t c = (found c.requires c.in-Action.ensures).room

pub returns-in-Leaf : goal.returns-in-Leaf
unfolding operands
returns-in-Leaf t c =
    rw ((found c.requires c.in-Leaf.ensures).is, c.leaf.ensures.0, c.leaf.ensures.1, c.truth_of.ensures, c.is_closing-closing.ensures)
    (constant_answers _ _ _ _ _ _ _ _)

pub returns-in-Fact : goal.returns-in-Fact
returns-in-Fact t c =
    rw ((fact_number (found c.requires c.in-Fact.ensures)).is, c.leaf-in-Fact.ensures.0, c.leaf-in-Fact.ensures.1, c.bit_at-truth.ensures)
    (fact_answers _ _ _ _ _ _ _ _)

pub returns-in-Action : goal.returns-in-Action
returns-in-Action t c =
    rw (
      (action_number (found c.requires c.in-Action.ensures)).is,
      c.leaf-in-Action.ensures.0,
      c.leaf-in-Action.ensures.1,
      c.has_made-made.ensures,
    )
    (action_answers _ _ _ _ _ _ _ _)

-- ---- one operand

pub numbers_of-k-requires : goal.numbers_of-k-requires
numbers_of-k-requires t c = (found c.requires c.in-One.ensures).first

pub evaluate-p-requires : goal.evaluate-p-requires
unfolding operands
evaluate-p-requires t c =
    let d = found c.requires c.in-One.ensures in
    (omega (arith, d.inside), rw (c.eq.ensures, compared_next, c.numbers_of-k.ensures) (one_few _ _ c.in-One.o _ d.few))

pub keep-requires : goal.keep-requires
keep-requires t c = rw c.numbers_of-k.ensures (part_below c.args.under (temporal1 c.in-One.o) c.args.n (found c.requires c.in-One.ensures).room)

pub returns-in-One : goal.returns-in-One
unfolding operands
returns-in-One t c =
    let a = c.args in
    let d = found c.requires c.in-One.ensures in
    rw (
      d.is,
      c.keep.ensures.0,
      c.keep.ensures.1,
      c.with_one.ensures,
      c.is_closing-closing.ensures,
      c.evaluate-p.ensures.0,
      c.evaluate-p.ensures.1,
      c.eq.ensures,
      compared_next,
      c.numbers_of-k.ensures,
    )
    (one_answers _ _ a.at a.under a.n _ c.in-One.o _ d.few)

-- ---- two operands

pub numbers_of-k-requires-in-Two : goal.numbers_of-k-requires-in-Two
numbers_of-k-requires-in-Two t c = (found c.requires c.in-Two.ensures).first

pub evaluate-p-requires-in-Two : goal.evaluate-p-requires-in-Two
unfolding operands
evaluate-p-requires-in-Two t c =
    let d = found c.requires c.in-Two.ensures in
    (omega (arith, d.inside), rw c.numbers_of-k-in-Two.ensures (two_few _ _ c.in-Two.o _ (parsed_grows 64 64 _) _ d.few))

-- the second operand stands further on, so fewer bytes are left
pub evaluate-q-requires : goal.evaluate-q-requires
unfolding operands
evaluate-q-requires t c =
    let a = c.args in
    let d = found c.requires c.in-Two.ensures in
    let far : a.at + 1 < c.evaluate-p-in-Two.result.next =
    rw (c.evaluate-p-in-Two.ensures.0, c.numbers_of-k-in-Two.ensures)
    (walk_grows _ _ 64 64 a.self.now.bytes.now (a.at + 1) false _ (two_few _ _ c.in-Two.o _ (parsed_grows 64 64 _) _ d.few)) in (
      omega (arith, d.inside),
      rw (c.evaluate-p-in-Two.ensures.0, c.numbers_of-k-in-Two.ensures)
          (second_few _ _ a.at a.under a.n a.tables.now c.in-Two.o 64 64 a.self.now.bytes.now _ d.few),
    )

pub keep-requires-in-Two : goal.keep-requires-in-Two
keep-requires-in-Two t c = rw c.numbers_of-k-in-Two.ensures (part_below c.args.under (temporal2 c.in-Two.o) c.args.n (found c.requires c.in-Two.ensures).room)

pub returns-in-Two : goal.returns-in-Two
unfolding operands
returns-in-Two t c =
    let a = c.args in
    let d = found c.requires c.in-Two.ensures in
    rw (
      d.is,
      c.keep-in-Two.ensures.0,
      c.keep-in-Two.ensures.1,
      c.with_two.ensures,
      c.is_closing-closing.ensures,
      c.evaluate-q.ensures.0,
      c.evaluate-q.ensures.1,
      c.evaluate-p-in-Two.ensures.0,
      c.evaluate-p-in-Two.ensures.1,
      c.numbers_of-k-in-Two.ensures,
    )
    (two_answers _ _ a.at a.under a.n _ c.in-Two.o 64 64 a.self.now.bytes.now d.few)

-- ---- no code

pub returns-in-Unknown : goal.returns-in-Unknown
unfolding operands
returns-in-Unknown t c = absurd (found c.requires c.in-Unknown.ensures).few
