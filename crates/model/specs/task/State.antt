-- States as numbers, bit i being fact i.
use Rattle.std.specs.Prelude.{ℕ, ◌-◌, Bool, ◌&&◌, eqb}
use Rattle.std.specs.Int.Bits.{bit_and, bit_or}
use Rattle.model.specs.job.Job.{Action}

-- every fact of xs is one of ys
unfoldable pub within : ℕ → ℕ → Bool
within xs ys = eqb (bit_and xs ys) xs

-- no fact of xs is one of ys
unfoldable pub apart : ℕ → ℕ → Bool
apart xs ys = eqb (bit_and xs ys) 0

-- "A step is applicable if all needed facts are true", and card 1: "It is applicable only if no forbidden fact is true."
unfoldable pub applicable : Action → ℕ → Bool
unfolding within apart
applicable a s = within a.pre s && apart a.forbidden s

-- "afterwards deleted facts go, then added ones come"
unfoldable pub after : Action → ℕ → ℕ
after a s = bit_or (s - bit_and s a.del) a.add
