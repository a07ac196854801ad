-- `constraints_close` passes constraints that are true of the closing world, and the first that is not decides.
use Rattle.std.proofs.Common.{◌≡◌, refl, sym, ◌∙◌, arith}
use Rattle.model.specs.job.Layout.{constraint_count, pair_count}
use Rattle.progression.proofs.Rows.{constraints_from, nothing_closes, close_on, close_not}
use Rattle.progression.proofs.constraints_close.Goals as goal

pub loop-i-init : goal.loop-i-init
loop-i-init c = record {
  counted = rw c.job.ensures at c.constraint_count-i-end.ensures.count.0;
  same = refl;
  closed = nothing_closes _ _ _;
}

pub closing-requires : goal.closing-requires
unfolding pair_count
closing-requires c = rw c.loop-i.invariant.same (omega arith)

pub returns-then-not-closing : goal.returns-then-not-closing
returns-then-not-closing c =
    let l = c.loop-i in
    let f = rw l.invariant.same at (sym c.closing.ensures.0 ∙ c.if-not-closing.true) in (
      rw constraints_from (sym (close_not c.args.work.now.bytes 1 _ c.args.rs _ l.i (omega arith) (omega arith) f)),
      c.closing.ensures.1 ∙ l.invariant.same,
    )

pub loop-i-preserved : goal.loop-i-preserved
loop-i-preserved c =
    let l = c.loop-i in
    let t = rw l.invariant.same at (sym c.closing.ensures.0 ∙ c.if-not-closing.false) in
    record {
      counted = l.invariant.counted;
      same = c.closing.ensures.1 ∙ l.invariant.same;
      closed = close_on c.args.work.now.bytes 1 _ c.args.rs l.i (omega arith) l.invariant.closed t;
    }

pub returns : goal.returns
returns c =
    let l = c.loop-i in
    let e : l.i ≡ constraint_count c.args.work.now.bytes = omega arith in
    (rw (constraints_from, ← e) (sym l.invariant.closed), l.invariant.same)
