-- The walk along a step list, and the checks after its last step by what constraints and hints have left.
use Rattle.std.specs.Prelude.{Ok, None, Some, ℕ, zero, suc, ◌+◌, ◌*◌, Bool, List, [], ◌∷◌, length, take, get_or}
use Rattle.model.specs.declared.Constant.TheVariants.{True}
use Rattle.model.specs.Results.{Validated, passed}
use Rattle.model.specs.Verdict.{Verdict, unless, or_else, in_turn}
use Rattle.model.specs.Bits.{digit}
use Rattle.model.specs.logic.Formula.{Formula, constant}
use Rattle.model.specs.logic.Parts.{parts_of}
use Rattle.model.specs.logic.Truth.{World}
use Rattle.model.specs.logic.Progression.{closing}
use Rattle.model.specs.job.Job.{Job, action_of}
use Rattle.model.specs.task.State.{within, after}
use Rattle.model.specs.search.Node.{residuals, progressed_all}
use Rattle.progression.specs.Padded.{padded}
use Rattle.validate.specs.declared.walk.Walk.{Walk}
use Rattle.validate.specs.Answer.{answer}

-- the world of a state in which no action was made
abbrev pub still : ℕ → World
still s = record { state = s; made = None }

-- what formulas have left in an array, one world on
unfoldable pub carried : List Formula → List ℕ → World → List ℕ
unfolding padded progressed_all
carried φs rs w = padded (progressed_all φs (take (length φs) rs) w)

module _ (j : Job) where
  -- no step is made
  unfoldable pub started : Walk
  unfolding padded residuals
  started = record {
    facts = j.start;
    cost = 0;
    constraints = padded (residuals j.constraints (still j.start));
    hints = padded (residuals j.hints (still j.start));
  }

  -- the world that a step leads to
  unfoldable pub reached : ℕ → ℕ → World
  unfolding after action_of
  reached s a = record { state = after (action_of j a) s; made = Some a }

  unfoldable pub stepped : Walk → ℕ → Walk
  unfolding reached carried action_of
  stepped w a = record {
    facts = (reached w.facts a).state;
    cost = w.cost + (action_of j a).cost;
    constraints = carried j.constraints w.constraints (reached w.facts a);
    hints = carried j.hints w.hints (reached w.facts a);
  }

  unfoldable pub walk_from : Walk → List ℕ → Walk
  unfolding stepped
  walk_from w [] = w
  walk_from w (a ∷ p) = walk_from (stepped w a) p

  unfoldable pub walk_of : List ℕ → Walk
  unfolding started walk_from
  walk_of p = walk_from started p

-- whether what formula i has left is true of the closing world with the facts s
unfoldable pub closed_at : List Formula → List ℕ → ℕ → ℕ → Bool
unfolding closing parts_of
closed_at φs rs s i = closing (parts_of (get_or φs i (constant True))) (get_or rs i 0) (still s)

-- the number whose bits are n values of f from i on
unfoldable pub bits_from : (ℕ → Bool) → ℕ → ℕ → ℕ
unfolding digit
bits_from f i zero = 0
bits_from f i (suc n) = digit (f i) + 2 * bits_from f (suc i) n

module _ (j : Job) where
  unfoldable pub end_verdict : List ℕ → ℕ → Verdict
  unfolding or_else unless in_turn within closed_at
  end_verdict rs s =
      or_else (unless (within j.goal s) 8 0) (in_turn (length j.constraints) (λ i. unless (closed_at j.constraints rs s i) 9 i))

  unfoldable pub judged : Walk → Validated
  unfolding end_verdict bits_from closed_at
  judged w =
      answer (end_verdict w.constraints w.facts)
      (Ok (passed w.cost (bits_from (closed_at j.hints w.hints w.facts) 0 (length j.hints))))
