-- Checks made one after the other: the first that refuses decides.
use Rattle.std.specs.Prelude.{ℕ, zero, suc, Bool, true, false, Result, Ok, Err}
use Rattle.model.specs.Refusal.{Refusal, refusal}

-- what one check of the table of refusals says
abbrev pub Verdict : Type 0
Verdict = Result Unit Refusal

-- the check that refuses nothing
abbrev pub no_refusal : Verdict
no_refusal = Ok tt

-- refused with a number and a place unless a test is true
unfoldable pub unless : Bool → ℕ → ℕ → Verdict
unless true n p = no_refusal
unless false n p = Err (refusal n p)

unfoldable pub or_else : Verdict → Verdict → Verdict
or_else (Ok _) v = v
or_else (Err r) v = Err r

-- the checks 0 to n - 1 in turn
unfoldable pub in_turn : ℕ → (ℕ → Verdict) → Verdict
unfolding or_else
in_turn zero f = no_refusal
in_turn (suc n) f = or_else (in_turn n f) (f n)
