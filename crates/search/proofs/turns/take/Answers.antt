-- `take` marks the slot, which is the turn if it is cut; else its expansion is.
use Rattle.std.proofs.Common.{refl}
use Rattle.search.specs.Outcome.{Took}
use Rattle.search.proofs.TurnLaws.{passed, cut_goes_on, uncut_busy, grown_goes_on, full_ends}
use Rattle.search.proofs.turns.take.Goals as goal

pub expand-requires : goal.expand-requires
expand-requires c = rw c.mark.ensures (uncut_busy c.requires (rw c.job.ensures at c.if-not-cut.ensures))

pub returns-in_err-expand : goal.returns-in_err-expand
returns-in_err-expand c = (
  passed (Took c.args.work.now c.args.t.now c.expand.new.t) _ c.from_residual.ensures.1
      (full_ends c.requires (rw c.job.ensures at c.if-not-cut.ensures) _ (rw c.mark.ensures at c.in_err-expand.ensures.0)),
  c.in_err-expand.ensures.1,
)

pub returns-in_ok-expand : goal.returns-in_ok-expand
returns-in_ok-expand c = (
  grown_goes_on c.requires (rw c.job.ensures at c.if-not-cut.ensures) _ (rw c.mark.ensures at c.in_ok-expand.ensures.0),
  c.in_ok-expand.ensures.1,
)

pub returns-else-not-cut : goal.returns-else-not-cut
returns-else-not-cut c = rw c.mark.ensures (cut_goes_on c.requires (rw c.job.ensures at c.if-not-cut.ensures), refl)
