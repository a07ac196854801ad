-- What the functions of one turn promise beside what they compute: no end and no gain is above a bound which they do not raise.
use Rattle.std.specs.Prelude.{◌≡◌, ℕ, ◌+◌, ◌≤◌, ◌<◌, Option, None, get_or, IfSome}
use Rattle.model.specs.job.Job.{Job}
use Rattle.model.specs.search.Estimate.{Ends, Gain, end_of, readied, soonest}
use Rattle.estimate.specs.Meaning.{dearest}

-- An end, if there is one, is at most so much.
abbrev pub Low : ℕ → Option ℕ → Type 0
Low top end = IfSome end (λ e. e ≤ top)

-- Each end is low.
abbrev pub AllLow : ℕ → Ends → Type 0
AllLow top ends = (k : ℕ) → Low top (get_or ends k None)

-- A gain, if there is one, is at no level above so much.
abbrev pub LowGain : ℕ → Option Gain → Type 0
LowGain top gain = IfSome gain (λ g. g.level ≤ top)

-- An end that was low is low at this level, too, where one cost more than the level is not above the bound.
abbrev pub StaysLow : ℕ → Option ℕ → Option ℕ → Type 0
StaysLow level before after = (top : ℕ) → level + dearest ≤ top → Low top before → Low top after

-- Of the actions below n the ends are those at a level, the other ends stay, and r is the soonest gain.
pub record Passed (j : Job) (built level : ℕ) (before after : Ends) (n : ℕ) (r : Option Gain) : Type 0 where
  pub ends : (k : ℕ) → k < n → get_or after k None ≡ end_of j built level (get_or before k None) k
  pub rest : (k : ℕ) → n ≤ k → get_or after k None ≡ get_or before k None
  pub gain : r ≡ soonest j built (readied j built level before) n
  pub low : (top : ℕ) → level + dearest ≤ top → AllLow top before → AllLow top after × LowGain top r
