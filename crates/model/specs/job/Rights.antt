-- Who may use which step (card 4): the steps whose needed rights a caller holds, and the job that is left with these alone.
use Rattle.std.specs.Prelude.{◌≡◌, ℕ, ◌^◌, true, List, length}
use Rattle.model.specs.Bits.{bit, bits_of}
use Rattle.model.specs.logic.Formula.{choose}
use Rattle.model.specs.job.Job.{Action, Job, action_of, list_of}
use Rattle.model.specs.task.State.{within}

-- "steps whose needed bits are all held": bit i is set if the caller, who holds these rights, may use step i
unfoldable pub usable_bits : List ℕ → ℕ → ℕ
unfolding bits_of within
usable_bits needs rights = bits_of (λ (n : ℕ). within n rights) needs

-- fact 64, which no job has
abbrev pub no_fact : ℕ
no_fact = 2 ^ 64

-- What stands for a step that may not be used. It needs a fact and forbids it, so it is never applicable; and no estimate counts it, since no step adds
-- that fact.
unfoldable pub barred : Action
barred = record { pre = no_fact; add = 0; del = 0; forbidden = no_fact; cost = 0 }

-- A job with the steps alone whose bits are set in u. Steps keep their numbers, so rules that name another step keep their meaning: it "is then never
-- made".
unfoldable pub restricted : ℕ → Job → Job
unfolding bit barred action_of list_of
restricted u j =
    record {
      start = j.start;
      goal = j.goal;
      actions = list_of (λ i. choose (bit u i) (action_of j i) barred) (length j.actions);
      constraints = j.constraints;
      hints = j.hints;
    }

-- Two jobs "that differ only in the sets and costs of steps the caller may not use", which are those whose bits are not set in u.
pub record Alike (u : ℕ) (j k : Job) : Type 0 where
  pub starts : j.start ≡ k.start
  pub goals : j.goal ≡ k.goal
  pub constraints : j.constraints ≡ k.constraints
  pub hints : j.hints ≡ k.hints
  pub count : length j.actions ≡ length k.actions
  pub usable : (i : ℕ) → bit u i ≡ true → action_of j i ≡ action_of k i
