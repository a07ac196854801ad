-- `comes_first`: from one slot the actions decide, from two what `before` says of them.
use Rattle.std.proofs.Common.{◌∙◌}
use Rattle.paths.proofs.ChainLaws.{order_same, order_other}
use Rattle.paths.proofs.comes_first.Goals as goal

pub returns-then-i-j : goal.returns-then-i-j
returns-then-i-j c = order_same c.args.t.now c.args.i c.args.j c.args.a c.args.b c.if-i-j.true

pub returns : goal.returns
returns c =
    c.before-2.ensures
    ∙ order_other _ c.requires.0 c.args.i c.args.j
    (record { first = c.requires.1; second = c.requires.2; differ = c.if-i-j.false; level = c.requires.3 }) c.args.a c.args.b
