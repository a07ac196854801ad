-- Card 4, who may sand: what is claimed of a caller's rights, of every call.
use Rattle.std.specs.Prelude.{Ok, Err, ◌≡◌, Bool, true, false, ◌↔◌, ◌⊎◌, ℕ, ◌≤◌, ◌<◌, length, get_or, replicate, None}
use Rattle.model.specs.Results.{Searched, planned}
use mathlib.Core.List.{List, [], Memᴰ}
use Rattle.model.specs.Bits.{bit}
use Rattle.model.specs.Refusal.{refusal}
use Rattle.model.specs.job.Job.{Job, action_of}
use Rattle.model.specs.job.Layout.{action_count, job_of}
use Rattle.model.specs.job.Rights.{usable_bits, Alike}
use Rattle.model.specs.task.State.{within}
use Rattle.model.specs.task.Plan.{cost_of}
use Rattle.model.specs.search.Node.{Node}
use Rattle.model.specs.search.MaxEstimate.{Costs, Ready}
use Rattle.model.specs.search.JobSystem.{next_node}
use Rattle.model.specs.calls.Call.{Call, call, usable_in, caller_job}
use Rattle.model.specs.calls.Search.{SearchEnd, SearchEnds}
use Rattle.model.specs.calls.Numbers.{SearchAnswers, PartGiven}
use Rattle.demands.specs.Demand1.{Accepted}
use Rattle.demands.specs.Demand2.{AllowedPlan}
use Rattle.demands.specs.Demand3.{Other, IsPlan}

-- The caller may use step i: every bit that its byte of the list has is one of the caller's rights.
abbrev pub MayUse : Call → ℕ → Type 0
MayUse by i = (k : ℕ) → bit (get_or by.needs i 0) k ≡ true → bit by.rights k ≡ true

pub record RightsOf (by : Call) : Type 0 where
  -- The bits by which the definitions go tell which steps the caller may use.
  pub usable : (i : ℕ) → i < length by.needs → (bit (usable_in by) i ≡ true) ↔ MayUse by i
  -- "An allowed plan has only steps whose needed bits are all held", is allowed by the job itself, and costs the same.
  pub allowed : (p : List ℕ) → AllowedPlan (caller_job by) p
      ↔ (AllowedPlan (job_of by.bytes) p × ((i : ℕ) → Memᴰ i p → bit (usable_in by) i ≡ true))
  pub costs : (p : List ℕ) → AllowedPlan (caller_job by) p → cost_of (caller_job by) p ≡ cost_of (job_of by.bytes) p
  -- "no other step leads to a pair", and those lead where they lead in the job
  pub no_pair : (n : Node) (i : ℕ) → i < length (job_of by.bytes).actions → bit (usable_in by) i ≡ false → next_node (caller_job by) n i ≡ None
  pub own_pair : (n : Node) (i : ℕ) → bit (usable_in by) i ≡ true → next_node (caller_job by) n i ≡ next_node (job_of by.bytes) n i
  -- "and the estimate counts only those": step i adds fact f at a cost of at most t, as the estimate's equations ask, exactly if the caller may use it and it
  -- does so in the job
  pub counts : (v : Costs) (f t i : ℕ) → let j = job_of by.bytes in
      ((i < length (caller_job by).actions) × (bit (action_of (caller_job by) i).add f ≡ true) × Ready (caller_job by) v i t)
      ↔ ((i < length j.actions) × (bit (usable_in by) i ≡ true) × (bit (action_of j i).add f ≡ true) × Ready j v i t)
  -- "The program lends zeros, one a step, so it may use every step": the job is to it what it is.
  pub zeros : by.needs ≡ replicate (action_count by.bytes) 0 → caller_job by ≡ job_of by.bytes

-- "Two accepted jobs with equal lists and lent buffers that differ only in the sets and costs of steps the caller may not use give that caller the same
-- search answer and buffers; this covers rules that name such a step". The jobs are a and b; `full` tells where a search runs out of slots.
pub record NotNoticed (full : Job → ℕ → Bool) (a b needs : List ℕ) (rights : ℕ) : Type 0 where
  -- of `search::search`
  pub ends : {table buffer : List ℕ} {e f : SearchEnd} → SearchEnds full (call a needs rights) table buffer e
      → SearchEnds full (call b needs rights) table buffer f → e ≡ f
  -- of `dagzhimo_search`: the numbers, the table and the plan buffer
  pub answers : {table buffer table_a buffer_a numbers_a table_b buffer_b numbers_b : List ℕ}
      → SearchAnswers full (call a needs rights) table buffer table_a buffer_a numbers_a
      → SearchAnswers full (call b needs rights) table buffer table_b buffer_b numbers_b
      → (numbers_a ≡ numbers_b) × (table_a ≡ table_b) × (buffer_a ≡ buffer_b)
  -- of `search::planned`: the result, the table and the part of the plan buffer that holds the steps
  pub parts : {table buffer table_a part_a table_b part_b : List ℕ} {result_a result_b : Searched}
      → PartGiven full (call a needs rights) table buffer table_a part_a result_a
      → PartGiven full (call b needs rights) table buffer table_b part_b result_b
      → (result_a ≡ result_b) × (table_a ≡ table_b) × (part_a ≡ part_b)

abbrev pub Private : Type 0
Private = (full : Job → ℕ → Bool) (a b needs : List ℕ) (rights : ℕ) → Accepted a → Accepted b → Alike (usable_bits needs rights) (job_of a) (job_of b)
    → NotNoticed full a b needs rights

-- "Without hints, and where neither table is too small, further rights never make a caller's plan dearer": with rights r the plan is no cheaper than with
-- rights s, which has them all.
pub record NeverDearer (full : Job → ℕ → Bool) (job needs : List ℕ) (r s : ℕ) : Type 0 where
  pub plans : {c : ℕ} {p : List ℕ} → IsPlan (call job needs r) c p → (d : ℕ) × (q : List ℕ) × IsPlan (call job needs s) d q × (d ≤ c)
  -- of `search::search`, in any tables and buffers: a plan that is as cheap or cheaper is handed over, or it is longer than the buffer
  pub answers : {table buffer table' buffer' : List ℕ} {e f : SearchEnd} → SearchEnds full (call job needs r) table buffer e
      → SearchEnds full (call job needs s) table' buffer' f → Other f → {c n : ℕ} → e.result ≡ Ok (planned c n)
      → ((d : ℕ) × (m : ℕ) × (f.result ≡ Ok (planned d m)) × (d ≤ c)) ⊎ ((m : ℕ) × (f.result ≡ Err (refusal 13 m)) × (length buffer' < m))

abbrev pub FurtherRights : Type 0
FurtherRights = (full : Job → ℕ → Bool) (job needs : List ℕ) (r s : ℕ) → (job_of job).hints ≡ [] → within r s ≡ true → NeverDearer full job needs r s
