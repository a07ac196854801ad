-- The read-through on job bytes and step bytes. Nothing lent to it is written.
use Rattle.std.specs.Prelude.{Ok, Err, ℕ, List, length, take, get_or, ltb, leb}
use Rattle.model.specs.Results.{passed, Validated}
use Rattle.model.specs.Verdict.{Verdict, unless, or_else, in_turn}
use Rattle.model.specs.Bits.{bit, bits_of}
use Rattle.model.specs.logic.Formula.{Formula, constant}
use Rattle.model.specs.declared.Constant.TheVariants.{True}
use Rattle.model.specs.logic.Truth.{holds}
use Rattle.model.specs.job.Job.{Job, action_of}
use Rattle.model.specs.job.Layout.{job_of}
use Rattle.model.specs.job.Rights.{usable_bits}
use Rattle.model.specs.task.State.{within, applicable}
use Rattle.model.specs.task.Plan.{state_after, worlds, cost_of}
use Rattle.model.specs.calls.Call.{Call, call_verdict, usable_in}

module _ (j : Job) (steps : List ℕ) where
  -- read-through, length: "over 65,535 steps"
  unfoldable pub length_verdict : Verdict
  unfolding unless
  length_verdict = unless (leb (length steps) 65_535) 6 65_535

  -- read-through, each step: "number A or above"; "a step without its rights is 15, between 6 and 7", u having the bits of those that the caller may use;
  -- same step: "not applicable"; all refused at its position
  unfoldable pub step_verdict : ℕ → ℕ → Verdict
  unfolding or_else unless bit applicable action_of state_after
  step_verdict u i =
      or_else (unless (ltb (get_or steps i 0) (length j.actions)) 6 i)
      (or_else (unless (bit u (get_or steps i 0)) 15 i)
      (unless (applicable (action_of j (get_or steps i 0)) (state_after j j.start (take i steps))) 7 i))

  -- read-through, end: "a goal fact missing"
  unfoldable pub goal_verdict : Verdict
  unfolding unless within state_after
  goal_verdict = unless (within j.goal (state_after j j.start steps)) 8 0

  -- after 8: "a rule not met", refused at the "lowest such rule"
  unfoldable pub constraint_verdict : ℕ → Verdict
  unfolding unless holds worlds
  constraint_verdict i = unless (holds (get_or j.constraints i (constant True)) (worlds j steps)) 9 i

  unfoldable pub steps_verdict : ℕ → Verdict
  unfolding or_else in_turn length_verdict step_verdict goal_verdict constraint_verdict
  steps_verdict u =
      or_else length_verdict
      (or_else (in_turn (length steps) (step_verdict u)) (or_else goal_verdict (in_turn (length j.constraints) constraint_verdict)))

  -- "bit i set exactly if the job has a hint i and the worlds meet it"
  unfoldable pub hint_bits : ℕ
  unfolding bits_of holds worlds
  hint_bits = bits_of (λ (φ : Formula). holds φ (worlds j steps)) j.hints

-- "A read-through gives the cost and 8 bits"
unfoldable pub validated : Call → List ℕ → Validated
unfolding or_else call_verdict steps_verdict hint_bits cost_of job_of usable_bits
validated c steps = elim (or_else (call_verdict c) (steps_verdict (job_of c.bytes) steps (usable_in c))) [
  | Err r ↦ Err r
  | Ok _ ↦ Ok (passed (cost_of (job_of c.bytes) steps) (hint_bits (job_of c.bytes) steps))
]
