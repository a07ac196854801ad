-- The numbers that stand after codes in the bytes of a formula.
use Rattle.std.specs.Prelude.{◌≡◌, ℕ, ◌+◌, ◌%◌, ◌<◌, true, List, length, get_or}
use Rattle.model.specs.declared.Code.{Code}
use Rattle.model.specs.Bits.{bit}
use Rattle.model.specs.logic.Formula.{code_of}

-- of the first n bytes, the set x has each that stands right after one of this code
abbrev pub AfterIn : ℕ → Code → List ℕ → ℕ → Type 0
AfterIn n code s x = (p : ℕ) → p + 1 < n → code_of (get_or s p 0) ≡ code → bit x (get_or s (p + 1) 0 % 64) ≡ true

-- the same of all bytes
abbrev pub After : Code → List ℕ → ℕ → Type 0
After code s x = AfterIn (length s) code s x
