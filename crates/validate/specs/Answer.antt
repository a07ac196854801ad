-- What a read-through answers by a check.
use Rattle.std.specs.Prelude.{Ok, Err}
use Rattle.model.specs.Verdict.{Verdict}
use Rattle.model.specs.Results.{Validated}

-- the refusal, or what comes after the check
abbrev pub answer : Verdict → Validated → Validated
answer (Err r) x = Err r
answer (Ok _) x = x
