-- `write` goes from the last action to the first.
use Rattle.std.proofs.Common.{◌≡◌, sym, ap, ◌∙◌, suc, ◌-◌, arith}
use Rattle.paths.specs.Chain.{steps_at}
use Rattle.paths.proofs.ChainLaws.{write_on, write_end}
use Rattle.paths.proofs.write.Goals as goal

pub loop-k-preserved : goal.loop-k-preserved
loop-k-preserved c =
    let s = c.args.t.now in
    let l = c.loop-k in
    let e : l.k ≡ suc (l.k - 1) = omega arith in
    let u = c.requires.0.inside l.at (l.k - 1) (l.invariant.steps ∙ e) l.invariant.inside in
    record {
      rest = sym (write_on s l.plan l.at l.k (l.k - 1) _ _ _ e (omega arith) c.action.ensures c.parent-at.ensures (omega arith)) ∙ l.invariant.rest;
      steps = ap (steps_at s) c.parent-at.ensures ∙ u.1;
      inside = omega (arith, c.parent-at.ensures, u.0);
      fits = omega arith;
    }

pub returns : goal.returns
returns c =
    let l = c.loop-k in
    sym (write_end c.args.t.now l.plan l.at l.k (omega arith)) ∙ l.invariant.rest
