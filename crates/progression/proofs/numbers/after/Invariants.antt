-- The numbers after the bytes passed are in the set.
use Rattle.std.proofs.Common.{◌≡◌, ◌+◌, ◌-◌, ◌≤◌, length, drop}
use Rattle.std.specs.Slice.Iter.{windows_size, windows_rest}
use Rattle.progression.specs.Numbers.{AfterIn}
use Rattle.progression.proofs.numbers.after.Given as goal

abbrev pub invariant-loop-pair : goal.invariant-loop-pair
invariant-loop-pair l =
    let rest = windows_rest l.pair-iterator in
    let i = length l.s - length rest in
    (windows_size l.pair-iterator ≡ 2) × (length rest ≤ length l.s) × (rest ≡ drop i l.s) × AfterIn (i + 1) l.code l.s l.found
