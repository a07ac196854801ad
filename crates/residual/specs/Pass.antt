-- The pass over a formula's bytes that reads its facts. It goes from code to code, and past their numbers.
use Rattle.std.specs.Prelude.{ℕ, ◌+◌, ◌*◌, ◌^◌, ◌<◌, ◌≤◌, List, length, get_or}
use Rattle.std.specs.Int.Bits.{bit_or}
use Rattle.model.specs.declared.Code.{Code}
use Rattle.model.specs.declared.Code.TheVariants.{Leaf, Fact, Action, One, Two, Unknown}
use Rattle.model.specs.Bits.{bit, digit}
use Rattle.model.specs.logic.Formula.{code_of}
use Rattle.model.specs.logic.Parts.{most_bytes}
use Rattle.residual.specs.declared.facts.Reading.{Reading}
use Rattle.residual.specs.Facts.{truth_bit}

-- the number of a fact code stands after it
abbrev pub HasNumber : Code → List ℕ → ℕ → Type 0
HasNumber (Leaf c) s at = Unit {0}
HasNumber Fact s at = (at + 1 < length s) × (get_or s (at + 1) 0 < 64)
HasNumber Action s at = Unit {0}
HasNumber (One o) s at = Unit {0}
HasNumber (Two o) s at = Unit {0}
HasNumber Unknown s at = Unit {0}

-- the code at a position can be read
abbrev pub Legible : List ℕ → ℕ → Type 0
Legible s at = (at < length s) × (length s ≤ most_bytes) × HasNumber (code_of (get_or s at 0)) s at

-- what the pass has read after a code: after a fact code the fact's truth, too
abbrev pub read_by : Code → List ℕ → ℕ → Reading → Reading
read_by (Leaf c) s state r = record { truths = r.truths; at = r.at + 1 }
read_by Fact s state r =
    record { truths = bit_or r.truths (digit (bit state (get_or s (r.at + 1) 0)) * 2 ^ truth_bit r.at); at = r.at + 1 + 1 }
read_by Action s state r = record { truths = r.truths; at = r.at + 1 + 1 }
read_by (One o) s state r = record { truths = r.truths; at = r.at + 1 }
read_by (Two o) s state r = record { truths = r.truths; at = r.at + 1 }
read_by Unknown s state r = record { truths = r.truths; at = r.at + 1 }

-- the same of the code where the pass is
unfoldable pub read_code : List ℕ → ℕ → Reading → Reading
unfolding code_of bit digit
read_code s state r = read_by (code_of (get_or s r.at 0)) s state r
