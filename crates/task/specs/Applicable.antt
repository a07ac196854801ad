-- Which actions of a list are applicable in a state.
use Rattle.std.specs.Prelude.{ℕ, List}
use Rattle.model.specs.Bits.{bits_of}
use Rattle.model.specs.job.Job.{Action}
use Rattle.model.specs.task.State.{applicable}

-- the set of those that are, as a number: bit i is action i
abbrev pub applicable_set : List Action → ℕ → ℕ
applicable_set steps s = bits_of (λ a. applicable a s) steps
