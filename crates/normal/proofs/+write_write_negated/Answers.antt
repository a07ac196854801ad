-- `write` and `write_negated` write a formula's normal form and that of its negation: each arm hands what the calls gave to the laws of storing,
-- which hold for both signs. The bytes left become fewer with each call.
use Rattle.std.proofs.Common.{sym, ◌∙◌, true, false, ℕ, ◌-◌, ◌<◌, arith, length}
use Rattle.normal.proofs.Nodes.{inside, met, head_fits}
use Rattle.normal.proofs.Storing.{Begun, begun, leaf_stored, number_stored, one_wants, one_stored, two_wants, two_grows, two_wants', two_stored}
use Rattle.normal.proofs.+write_write_negated.Goals as goal
use Rattle.normal.proofs.+write_write_negated.Goals.{write-After-put_head-k, write_negated-After-put_head-k}

-- ---- `write`
pub write-put_head-k-requires : goal.write-put_head-k-requires
write-put_head-k-requires t c = rw c.byte_at.ensures (head_fits (met c.requires c.from-code.ensures))

-- the node is begun
plain : {t : ℕ} (c : write-After-put_head-k t)
    → Begun c.args.s.now c.args.at true c.args.to c.args.out.now c.from-code.result c.put_head-k.result c.put_head-k.new.out
plain c = begun c.requires c.from-code.ensures c.byte_at.ensures c.put_head-k.ensures

-- fewer bytes are left further on
fewer_plain : {t : ℕ} (c : write-After-put_head-k t) (m : ℕ) → c.args.at < m → length c.args.s.now - m < t
fewer_plain c m h = let l : c.args.at < length c.args.s.now = inside c.args.s.now c.args.at c.requires.0 in omega arith

pub write-write-requires : goal.write-write-requires
write-write-requires t c =
    let p = (goal.at.write-write-requires t c).After-put_head-k in
    (fewer_plain p _ (omega arith), one_wants (plain p) c.in-One.o c.in-One.is true (sym c.if-sign_of.true ∙ c.sign_of.ensures))

pub write-write_negated-requires : goal.write-write_negated-requires
write-write_negated-requires t c =
    let p = (goal.at.write-write_negated-requires t c).After-put_head-k in
    (fewer_plain p _ (omega arith), one_wants (plain p) c.in-One.o c.in-One.is false (sym c.if-sign_of.false ∙ c.sign_of.ensures))

pub write-write-p-requires : goal.write-write-p-requires
write-write-p-requires t c =
    let p = (goal.at.write-write-p-requires t c).After-put_head-k in
    (fewer_plain p _ (omega arith), two_wants (plain p) c.in-Two.field-0 c.in-Two.is)

pub write-write-requires-in-Two : goal.write-write-requires-in-Two
write-write-requires-in-Two t c =
    let p = (goal.at.write-write-requires-in-Two t c).After-put_head-k in
    let r = c.write-p in (
      fewer_plain p r.result.next (omega (arith, two_grows (plain p) c.in-Two.field-0 c.in-Two.is r.result r.new.out r.ensures)),
      two_wants' (plain p) c.in-Two.field-0 c.in-Two.is r.result r.new.out r.ensures,
    )

pub write-returns-in-Leaf : goal.write-returns-in-Leaf
write-returns-in-Leaf t c = leaf_stored (plain (goal.at.write-returns-in-Leaf t c).After-put_head-k) c.in-Leaf.is

pub write-returns-in-Fact : goal.write-returns-in-Fact
write-returns-in-Fact t c = number_stored (plain (goal.at.write-returns-in-Fact t c).After-put_head-k) c.in-Fact.is

pub write-returns-then-sign_of : goal.write-returns-then-sign_of
write-returns-then-sign_of t c =
    let r = c.write in
    one_stored (plain (goal.at.write-returns-then-sign_of t c).After-put_head-k) c.in-One.o c.in-One.is true
    (sym c.if-sign_of.true ∙ c.sign_of.ensures) r.result r.new.out r.ensures

pub write-returns-else-sign_of : goal.write-returns-else-sign_of
write-returns-else-sign_of t c =
    let r = c.write_negated in
    one_stored (plain (goal.at.write-returns-else-sign_of t c).After-put_head-k) c.in-One.o c.in-One.is false
    (sym c.if-sign_of.false ∙ c.sign_of.ensures) r.result r.new.out r.ensures

pub write-returns-in-Two : goal.write-returns-in-Two
write-returns-in-Two t c =
    let r = c.write-p in
    let q = c.write-in-Two in
    two_stored (plain (goal.at.write-returns-in-Two t c).After-put_head-k) c.in-Two.field-0 c.in-Two.is
    r.result r.new.out r.ensures q.result q.new.out q.ensures

-- ---- `write_negated`
pub write_negated-put_head-k-requires : goal.write_negated-put_head-k-requires
write_negated-put_head-k-requires t c = rw c.byte_at.ensures (head_fits (met c.requires c.from-code.ensures))

-- the node is begun
negated : {t : ℕ} (c : write_negated-After-put_head-k t)
    → Begun c.args.s.now c.args.at false c.args.to c.args.out.now c.from-code.result c.put_head-k.result c.put_head-k.new.out
negated c = begun c.requires c.from-code.ensures c.byte_at.ensures c.put_head-k.ensures

-- fewer bytes are left further on
fewer_negated : {t : ℕ} (c : write_negated-After-put_head-k t) (m : ℕ) → c.args.at < m → length c.args.s.now - m < t
fewer_negated c m h = let l : c.args.at < length c.args.s.now = inside c.args.s.now c.args.at c.requires.0 in omega arith

pub write_negated-write-requires : goal.write_negated-write-requires
write_negated-write-requires t c =
    let p = (goal.at.write_negated-write-requires t c).After-put_head-k in
    (fewer_negated p _ (omega arith), one_wants (negated p) c.in-One.o c.in-One.is true (sym c.if-sign_of.true ∙ c.sign_of.ensures))

pub write_negated-write_negated-requires : goal.write_negated-write_negated-requires
write_negated-write_negated-requires t c =
    let p = (goal.at.write_negated-write_negated-requires t c).After-put_head-k in
    (fewer_negated p _ (omega arith), one_wants (negated p) c.in-One.o c.in-One.is false (sym c.if-sign_of.false ∙ c.sign_of.ensures))

pub write_negated-write_negated-p-requires : goal.write_negated-write_negated-p-requires
write_negated-write_negated-p-requires t c =
    let p = (goal.at.write_negated-write_negated-p-requires t c).After-put_head-k in
    (fewer_negated p _ (omega arith), two_wants (negated p) c.in-Two.field-0 c.in-Two.is)

pub write_negated-write_negated-requires-in-Two : goal.write_negated-write_negated-requires-in-Two
write_negated-write_negated-requires-in-Two t c =
    let p = (goal.at.write_negated-write_negated-requires-in-Two t c).After-put_head-k in
    let r = c.write_negated-p in (
      fewer_negated p r.result.next (omega (arith, two_grows (negated p) c.in-Two.field-0 c.in-Two.is r.result r.new.out r.ensures)),
      two_wants' (negated p) c.in-Two.field-0 c.in-Two.is r.result r.new.out r.ensures,
    )

pub write_negated-returns-in-Leaf : goal.write_negated-returns-in-Leaf
write_negated-returns-in-Leaf t c = leaf_stored (negated (goal.at.write_negated-returns-in-Leaf t c).After-put_head-k) c.in-Leaf.is

pub write_negated-returns-in-Fact : goal.write_negated-returns-in-Fact
write_negated-returns-in-Fact t c = number_stored (negated (goal.at.write_negated-returns-in-Fact t c).After-put_head-k) c.in-Fact.is

pub write_negated-returns-then-sign_of : goal.write_negated-returns-then-sign_of
write_negated-returns-then-sign_of t c =
    let r = c.write in
    one_stored (negated (goal.at.write_negated-returns-then-sign_of t c).After-put_head-k) c.in-One.o c.in-One.is true
    (sym c.if-sign_of.true ∙ c.sign_of.ensures) r.result r.new.out r.ensures

pub write_negated-returns-else-sign_of : goal.write_negated-returns-else-sign_of
write_negated-returns-else-sign_of t c =
    let r = c.write_negated in
    one_stored (negated (goal.at.write_negated-returns-else-sign_of t c).After-put_head-k) c.in-One.o c.in-One.is false
    (sym c.if-sign_of.false ∙ c.sign_of.ensures) r.result r.new.out r.ensures

pub write_negated-returns-in-Two : goal.write_negated-returns-in-Two
write_negated-returns-in-Two t c =
    let r = c.write_negated-p in
    let q = c.write_negated-in-Two in
    two_stored (negated (goal.at.write_negated-returns-in-Two t c).After-put_head-k) c.in-Two.field-0 c.in-Two.is
    r.result r.new.out r.ensures q.result q.new.out q.ensures
