-- `from` answers the code of a byte: each arm knows its byte, and the last one knows that it is none of them.
use mathlib.Core.Path.{◌≡◌, refl, sym, ap, ◌∙◌}
use Prim.Native.Nat.{ℕ}
use Rattle.model.specs.logic.Formula.{code_of}
use Rattle.model.specs.declared.Code.{Code}
use borrow.Author.Tests.{ne_eqb}
use native.Mathlib.Omega.{arith}
use Rattle.model.proofs.CodeFromU8.from.Goals as goal

-- the code of a byte that is known
code_at : (n : ℕ) {k : Code} → k ≡ code_of n → {b : ℕ} → b ≡ n → k ≡ code_of b
code_at n i e = i ∙ ap code_of (sym e)

pub returns-in-0 : goal.returns-in-0
returns-in-0 c = unfold code_of in code_at 0x00 refl c.in-0.is

pub returns-in-1 : goal.returns-in-1
returns-in-1 c = unfold code_of in code_at 0x01 refl c.in-1.is

pub returns-in-2 : goal.returns-in-2
returns-in-2 c = unfold code_of in code_at 0x02 refl c.in-2.is

pub returns-in-3 : goal.returns-in-3
returns-in-3 c = unfold code_of in code_at 0x03 refl c.in-3.is

pub returns-in-4 : goal.returns-in-4
returns-in-4 c = unfold code_of in code_at 0x04 refl c.in-4.is

pub returns-in-16 : goal.returns-in-16
returns-in-16 c = unfold code_of in code_at 0x10 refl c.in-16.is

pub returns-in-17 : goal.returns-in-17
returns-in-17 c = unfold code_of in code_at 0x11 refl c.in-17.is

pub returns-in-18 : goal.returns-in-18
returns-in-18 c = unfold code_of in code_at 0x12 refl c.in-18.is

pub returns-in-32 : goal.returns-in-32
returns-in-32 c = unfold code_of in code_at 0x20 refl c.in-32.is

pub returns-in-33 : goal.returns-in-33
returns-in-33 c = unfold code_of in code_at 0x21 refl c.in-33.is

pub returns-in-34 : goal.returns-in-34
returns-in-34 c = unfold code_of in code_at 0x22 refl c.in-34.is

pub returns-in-35 : goal.returns-in-35
returns-in-35 c = unfold code_of in code_at 0x23 refl c.in-35.is

pub returns-in-36 : goal.returns-in-36
returns-in-36 c = unfold code_of in code_at 0x24 refl c.in-36.is

-- a byte that is none of the codes is unknown
pub returns-in_default : goal.returns-in_default
unfolding code_of
returns-in_default c =
    let b = c.args.byte in
    sym (simp (
      ne_eqb b 0x00 (omega arith),
      ne_eqb b 0x01 (omega arith),
      ne_eqb b 0x02 (omega arith),
      ne_eqb b 0x03 (omega arith),
      ne_eqb b 0x04 (omega arith),
      ne_eqb b 0x10 (omega arith),
      ne_eqb b 0x11 (omega arith),
      ne_eqb b 0x12 (omega arith),
      ne_eqb b 0x20 (omega arith),
      ne_eqb b 0x21 (omega arith),
      ne_eqb b 0x22 (omega arith),
      ne_eqb b 0x23 (omega arith),
      ne_eqb b 0x24 (omega arith),
    ))
