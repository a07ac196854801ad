-- `measure` goes past a formula: each arm hands what the calls gave to the laws of storing, of which it takes where the node ends. The bytes left become
-- fewer with each call.
use Rattle.std.proofs.Common.{refl, ℕ, ◌-◌, ◌<◌, arith, length}
use Rattle.normal.proofs.Nodes.{inside, met, head_fits}
use Rattle.normal.proofs.Storing.{leaf_stored, number_stored, one_stored, two_grows, two_stored}
use Rattle.normal.proofs.Measuring.{Passed, passed, one_asks, two_asks, two_asks'}
use Rattle.normal.proofs.+measure.Goals as goal
use Rattle.normal.proofs.+measure.Goals.{After-pass_head-k}

pub pass_head-k-requires : goal.pass_head-k-requires
pass_head-k-requires t c = rw c.byte_at.ensures (head_fits (met c.requires c.from-code.ensures))

-- the heading is passed
gone : {t : ℕ} (c : After-pass_head-k t) → Passed c.args.s.now c.args.at c.args.plain c.args.to c.from-code.result c.pass_head-k.result
gone c = passed c.requires c.from-code.ensures c.byte_at.ensures c.pass_head-k.ensures

-- fewer bytes are left further on
fewer : {t : ℕ} (c : After-pass_head-k t) (m : ℕ) → c.args.at < m → length c.args.s.now - m < t
fewer c m h = let l : c.args.at < length c.args.s.now = inside c.args.s.now c.args.at c.requires.0 in omega arith

pub measure-requires : goal.measure-requires
measure-requires t c =
    let p = (goal.at.measure-requires t c).After-pass_head-k in
    (fewer p _ (omega arith), one_asks (gone p) c.in-One.o c.in-One.is c.sign_of.result c.sign_of.ensures)

pub measure-p-requires : goal.measure-p-requires
measure-p-requires t c =
    let p = (goal.at.measure-p-requires t c).After-pass_head-k in
    (fewer p _ (omega arith), two_asks (gone p) c.in-Two.field-0 c.in-Two.is)

pub measure-requires-in-Two : goal.measure-requires-in-Two
measure-requires-in-Two t c =
    let p = (goal.at.measure-requires-in-Two t c).After-pass_head-k in
    let r = c.measure-p in (
      fewer p r.result.next (omega (arith, two_grows (gone p) c.in-Two.field-0 c.in-Two.is r.result _ (r.ensures, refl))),
      two_asks' (gone p) c.in-Two.field-0 c.in-Two.is r.result r.ensures,
    )

pub returns-in-Leaf : goal.returns-in-Leaf
returns-in-Leaf t c = (leaf_stored (gone (goal.at.returns-in-Leaf t c).After-pass_head-k) c.in-Leaf.is).0

pub returns-in-Fact : goal.returns-in-Fact
returns-in-Fact t c = (number_stored (gone (goal.at.returns-in-Fact t c).After-pass_head-k) c.in-Fact.is).0

pub returns-in-One : goal.returns-in-One
returns-in-One t c =
    (one_stored (gone (goal.at.returns-in-One t c).After-pass_head-k) c.in-One.o c.in-One.is c.sign_of.result c.sign_of.ensures
    c.measure.result _ (c.measure.ensures, refl)).0

pub returns-in-Two : goal.returns-in-Two
returns-in-Two t c =
    (two_stored (gone (goal.at.returns-in-Two t c).After-pass_head-k) c.in-Two.field-0 c.in-Two.is c.measure-p.result _ (c.measure-p.ensures, refl)
    c.measure-in-Two.result _ (c.measure-in-Two.ensures, refl)).0
