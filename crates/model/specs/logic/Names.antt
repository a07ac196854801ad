-- The facts and the actions that a formula names. Sets are numbers: i is in the set if bit i is set.
use Rattle.std.specs.Prelude.{◌≡◌, ℕ, true}
use Rattle.model.specs.Bits.{bit}
use Rattle.model.specs.logic.Formula.{Formula, constant, fact, action, unary, binary}
use Rattle.model.specs.logic.Truth.{World, is_made}

-- all facts that the formula names are in the set f, and all its actions in the set a
abbrev pub Names : ℕ → ℕ → Formula → Type 0
Names f a (constant c) = Unit {0}
Names f a (fact i) = bit f i ≡ true
Names f a (action i) = bit a i ≡ true
Names f a (unary o φ) = Names f a φ
Names f a (binary o φ ψ) = Names f a φ × Names f a ψ

-- two worlds give the facts in f and the actions in a the same truth
pub record Alike (f a : ℕ) (w v : World) : Type 0 where
  pub facts : (i : ℕ) → bit f i ≡ true → bit w.state i ≡ bit v.state i
  pub actions : (i : ℕ) → bit a i ≡ true → is_made w.made i ≡ is_made v.made i
