-- Tables that ask only about the parts that a formula has.
use Rattle.std.specs.Prelude.{◌≡◌, ℕ, ◌^◌, ◌<◌}
use Rattle.model.specs.Bits.{bit}

-- A table of n parts depends on the first c only: settings that agree on these give it the same truth.
abbrev pub OwnParts : ℕ → ℕ → ℕ → Type 0
OwnParts n c r = (k l : ℕ) → k < 2 ^ n → l < 2 ^ n → ((i : ℕ) → i < c → bit k i ≡ bit l i) → bit r k ≡ bit r l
