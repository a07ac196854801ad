-- A pair more puts one number into the set at most.
use Rattle.std.proofs.Common.{sym, rules, arith}
use Rattle.std.proofs.lemmas.Iterator.{window_more}
use Rattle.progression.proofs.NumbersLaws.{one_more, none_more}
use Rattle.progression.proofs.numbers.after.Goals as goal

pub loop-pair-preserved-then-eq : goal.loop-pair-preserved-then-eq
loop-pair-preserved-then-eq c =
    let v = c.loop-pair.invariant in
    let h =
    window_more c.args.s.now c.loop-pair.pair-iterator c.next.new.self _ _ c.in-Some.is c.next.ensures.steps (search rules) (search rules) (search rules) in
    (search rules, omega (arith, h.0, v.1), h.1, one_more _ _ _ _ _ v.3 (omega (arith, h.0, h.2, v.1)) (h.3 1 0 (omega (arith, v.0))))

pub loop-pair-preserved : goal.loop-pair-preserved
loop-pair-preserved c =
    let v = c.loop-pair.invariant in
    let h =
    window_more c.args.s.now c.loop-pair.pair-iterator c.next.new.self _ _ c.in-Some.is c.next.ensures.steps (search rules) (search rules) (search rules) in (
      search rules,
      omega (arith, h.0, v.1),
      h.1,
      none_more _ _ _ _ _ v.3 (omega (arith, h.0, h.2, v.1)) (h.3 0 0 (omega (arith, v.0))) c.from.ensures (sym c.if-eq.ensures),
    )
