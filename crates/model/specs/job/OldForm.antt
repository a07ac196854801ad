-- A task in document 01's form, before actions had forbidden facts: card 1, "the old length still reads, with nothing forbidden".
use Rattle.std.specs.Prelude.{◌≡◌, ℕ, ◌+◌, ◌*◌, true, List}
use Rattle.model.specs.Verdict.{Verdict, or_else, in_turn}
use Rattle.model.specs.Bits.{number_at}
use Rattle.model.specs.job.Job.{Action, list_of}
use Rattle.model.specs.job.Layout.{action_count, pair_offset, pair_length, job_of}
use Rattle.model.specs.job.Decoding.{right_length, set_verdict, task_verdict}
use Rattle.model.specs.task.State.{within, applicable}

module _ (bytes : List ℕ) where
  -- "Task section, exactly 16 + 26 × A bytes: start (64 bits ..), goal, then per step: needed, added, deleted (64 bits each), cost (16 bits)."
  unfoldable pub old_offset : ℕ → ℕ
  unfolding pair_offset
  old_offset i = pair_offset bytes 0 + 16 + 26 * i

  unfoldable pub old_action : ℕ → Action
  unfolding old_offset number_at
  old_action i =
      record {
        pre = number_at 8 bytes (old_offset i);
        add = number_at 8 bytes (old_offset i + 8);
        del = number_at 8 bytes (old_offset i + 16);
        forbidden = 0;
        cost = number_at 2 bytes (old_offset i + 24);
      }

  -- the three sets in turn
  unfoldable pub old_verdict : ℕ → Verdict
  unfolding in_turn set_verdict old_offset
  old_verdict i = in_turn 3 (λ k. set_verdict bytes (old_offset i + 8 * k))

  -- the task has document 01's length
  abbrev pub OldLength : Type 0
  OldLength = pair_length bytes 0 ≡ 16 + 26 * action_count bytes

  -- What is claimed of a task of that length: it means what it meant before.
  pub record OldForm : Type 0 where
    -- its length is right
    pub right : right_length bytes 0 (pair_length bytes 0) ≡ true
    -- what is refused, and where
    pub checked : task_verdict bytes
        ≡ or_else (set_verdict bytes (pair_offset bytes 0)) (or_else (set_verdict bytes (pair_offset bytes 0 + 8)) (in_turn (action_count bytes) old_verdict))
    -- which actions the job has
    pub actions : (job_of bytes).actions ≡ list_of old_action (action_count bytes)
    -- "A step is applicable if all needed facts are true"
    pub applies : (i s : ℕ) → applicable (old_action i) s ≡ within (old_action i).pre s
