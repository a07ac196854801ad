-- A fact of xs is one of ys, or one of those that are not of ys.
use Rattle.std.proofs.Common.{◌-◌, ◌^◌, arith}
use Rattle.std.proofs.lemmas.Nat.{and-not, and_comm}
use Rattle.task.proofs.without.Goals as goal

pub returns : goal.returns
returns c =
    let xs = c.args.xs in
    let ys = c.args.ys in
    omega (arith, and-not 64 ys xs c.ranges.ys.fits c.ranges.xs.fits, and_comm ys xs, and_comm (2 ^ 64 - 1 - ys) xs)
