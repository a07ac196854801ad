-- What the calls give: a result, or a refusal.
use Rattle.std.specs.Prelude.{ℕ, Result}
use Rattle.model.specs.Refusal.{Refusal}
use Rattle.model.specs.declared.Planned.{Planned}
use Rattle.model.specs.declared.Passed.{Passed}

-- a plan's cost and number of steps, of its parts
abbrev pub planned : ℕ → ℕ → Planned
planned c n = record { cost = c; steps = n }

-- a passed list's cost and hint bits, of its parts
abbrev pub passed : ℕ → ℕ → Passed
passed c b = record { cost = c; hints = b }

-- a search
abbrev pub Searched : Type 0
Searched = Result Planned Refusal

-- a read-through
abbrev pub Validated : Type 0
Validated = Result Passed Refusal

-- a rule written back: the number of bytes written
abbrev pub Rewritten : Type 0
Rewritten = Result ℕ Refusal
