-- `arrive` goes by whether the node is held, and where it is new by whether it has an estimate and a slot is left.
use Rattle.std.proofs.Common.{refl, arith}
use Rattle.held.specs.Held.{HasEstimate}
use Rattle.expansion.proofs.Arrival.{small, extends_free}
use Rattle.expansion.proofs.Estimating.{cost_estimated, nothing_estimated}
use Rattle.expansion.proofs.Growing.{found_inside, grew_relaxed, grew_hopeless, grew_new, grew_full}
use Rattle.expansion.proofs.arrive.Goals as goal
use Rattle.expansion.proofs.arrive.Goals.{In-Some-estimate_of}

pub relax-requires : goal.relax-requires
relax-requires c = (c.requires.0, found_inside c.requires.0 c.requires.1 (rw c.in_use.ensures at c.find.ensures) c.in-Some.is)

pub returns-in-Some : goal.returns-in-Some
returns-in-Some c = (grew_relaxed c.requires.0 c.requires.1 (rw c.in_use.ensures at c.find.ensures) c.in-Some.is c.relax.ensures.0, c.relax.ensures.1)

pub returns-in_default-estimate_of : goal.returns-in_default-estimate_of
returns-in_default-estimate_of c = (
  grew_hopeless c.requires.0 c.requires.1
      (nothing_estimated c.args.work.now c.args.x.now.node (rw c.query.ensures at c.estimate_of.ensures) c.in_default-estimate_of.is),
  refl,
)

-- A new node that has an estimate has the one that was worked out.
has_estimate : (c : In-Some-estimate_of) → HasEstimate c.args.work.now c.args.x.now.node c.in-Some-estimate_of.left
has_estimate c = cost_estimated c.args.work.now c.args.x.now.node (rw c.query.ensures at c.estimate_of.ensures) c.in-Some-estimate_of.is

pub returns-then-len-room : goal.returns-then-len-room
returns-then-len-room c = (
  grew_full c.requires.0 c.requires.1 (rw c.in_use.ensures at c.find.ensures) c.in_default.is
      (has_estimate (goal.at.returns-then-len-room c).In-Some-estimate_of)
      (omega arith) refl,
  refl,
)

pub fresh-s-requires : goal.fresh-s-requires
fresh-s-requires c = (
  extends_free c.requires.0 (omega arith),
  small c.requires.0,
  c.requires.1.clean,
  omega (arith, (has_estimate (goal.at.fresh-s-requires c).In-Some-estimate_of).fits),
)

pub returns : goal.returns
returns c = (
  grew_new c.requires.0 c.requires.1 (rw c.in_use.ensures at c.find.ensures) c.in_default.is
      (has_estimate (goal.at.returns c).In-Some-estimate_of) c.push.ensures
      c.fresh-s.ensures.0 (omega arith),
  c.fresh-s.ensures.1,
)
