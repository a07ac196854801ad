-- Refusals as the documents tell of them.
use Rattle.std.specs.Prelude.{ℕ}

-- a refusal: its number in document 01's table, and its one place
pub record Refusal : Type 0 where
  pub number : ℕ
  pub place : ℕ

-- a refusal, of its parts
abbrev pub refusal : ℕ → ℕ → Refusal
refusal n p = record { number = n; place = p }
