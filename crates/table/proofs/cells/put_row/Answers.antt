-- `put_row` writes a word a turn.
use Rattle.std.proofs.Common.{arith, ◌≡◌, refl, ◌*◌, ◌^◌, ◌<◌, get_or}
use Rattle.table.specs.Cells.{with_words, row_words}
use Rattle.table.proofs.CellLaws.{words_more, below_more, row_set}
use Rattle.table.proofs.cells.put_row.Goals as goal

pub loop-j-init : goal.loop-j-init
unfolding with_words
loop-j-init c = record { written = refl; fit = λ k h. absurd (omega arith) }

pub loop-j-preserved : goal.loop-j-preserved
loop-j-preserved c =
    let l = c.loop-j in
    record {
      written = words_more _ l.t _ c.args.a (c.args.i * row_words) l.j _ l.invariant.written c.put.ensures.1 refl;
      fit = below_more (λ k. get_or c.args.a k 0 < 2 ^ 64) l.j l.invariant.fit c.put.ensures.0;
    }

pub returns : goal.returns
returns c =
    let l = c.loop-j in
    let e : l.j ≡ row_words = omega arith in
    row_set c.args.t.now l.t c.args.a c.args.i (rw e at l.invariant.written) (omega arith) (rw e at l.invariant.fit) (omega arith)
