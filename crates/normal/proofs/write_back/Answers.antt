-- `write_back` hands the verdict and the length to the laws of writing back.
use Rattle.std.proofs.Common.{◌≡◌, true, length}
use Rattle.std.proofs.lemmas.Result.{err_from_is_err_and}
use Rattle.model.specs.logic.Reading.{parsed}
use Rattle.normal.specs.Writing.{bytes_of}
use Rattle.normal.proofs.WritingBack.{fits, has_room, ends_at, refused, too_short, room, done}
use Rattle.normal.proofs.write_back.Goals as goal
use Rattle.normal.proofs.write_back.Goals.{After-measure-needed}

pub returns-in_err-check_rule : goal.returns-in_err-check_rule
returns-in_err-check_rule c =
    let p = err_from_is_err_and c.from_residual.result c.from_residual.ensures.1 in
    rw (p.1, p.2) (refused _ _ _ c.args.out.now _ c.in_err-check_rule.ensures)

pub measure-needed-requires : goal.measure-needed-requires
measure-needed-requires c = has_room _ _ _ c.in_ok-check_rule.ensures

-- what is needed is the normal form's length
needed : (c : After-measure-needed) → c.measure-needed.result.to ≡ length (bytes_of (parsed 64 64 c.args.rule.now 0) true)
needed c = ends_at _ c.measure-needed.ensures

pub returns-in_err-unless : goal.returns-in_err-unless
returns-in_err-unless c =
    let p = err_from_is_err_and c.from_residual-in_err-unless.result c.from_residual-in_err-unless.ensures.1 in
    rw (p.1, p.2)
    (too_short _ _ _ c.args.out.now c.in_ok-check_rule.ensures (needed (goal.at.returns-in_err-unless c).After-measure-needed) c.in_err-unless.ensures)

pub write-requires : goal.write-requires
write-requires c =
    room _ _ _ c.args.out.now c.in_ok-check_rule.ensures (needed (goal.at.write-requires c).After-measure-needed) (fits c.in_ok-unless.ensures)

pub returns : goal.returns
returns c =
    done _ _ _ c.args.out.now c.in_ok-check_rule.ensures (needed (goal.at.returns c).After-measure-needed) (fits c.in_ok-unless.ensures) c.write.ensures.1
