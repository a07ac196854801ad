-- Demand 2: every reading of a rule is that of linear temporal logic on finite traces; read-through, writing back and hints as document 01 says.
use Rattle.std.specs.Prelude.{Ok, Err, ◌≡◌, true, false, ◌↔◌, ℕ, ◌+◌, ◌*◌, ◌^◌, ◌≤◌, ◌<◌, length, get_or, take, drop}
use Rattle.model.specs.Results.{passed}
use mathlib.Core.List.{List, [], ◌∷◌, ◌++◌, map, Memᴰ}
use Rattle.model.specs.declared.Constant.TheVariants.{False}
use Rattle.model.specs.Bits.{bit}
use Rattle.model.specs.Refusal.{refusal}
use Rattle.model.specs.logic.Formula.{Formula, constant, encode}
use Rattle.model.specs.logic.Reading.{formula, section}
use Rattle.model.specs.logic.Parts.{most_parts, parts_of}
use Rattle.model.specs.logic.Truth.{World}
use Rattle.model.specs.logic.Sat.{Sat}
use Rattle.model.specs.logic.Progression.{residual, progressed_by, dead, closing}
use Rattle.model.specs.logic.NormalForm.{positive}
use Rattle.model.specs.job.Job.{Job}
use Rattle.model.specs.job.Layout.{constraint_count, hint_count, section_bytes, formula_at, job_of}
use Rattle.model.specs.task.State.{within}
use Rattle.model.specs.task.Plan.{state_after, worlds, executable, allowed, cost_of}
use Rattle.model.specs.exploration.Equations.{unbounded, Answer, Entries, Explores, Answers}
use Rattle.model.specs.exploration.Explore.{Entry, Of, reached}
use Rattle.model.specs.search.Node.{Node}
use Rattle.model.specs.search.JobSystem.{system_of, solve_job, reached_count}
use Rattle.model.specs.calls.Call.{Call, caller_job}
use Rattle.model.specs.calls.Validate.{validated}
use Rattle.model.specs.calls.WriteBack.{WriteEnd, written_back}
use Rattle.demands.specs.Demand1.{Taken}

-- ---- a rule through the worlds

-- what a rule leaves after the worlds w and ws, none of them the closing one
abbrev pub remainder : Formula → World → List World → ℕ
remainder φ w ws = progressed_by most_parts (parts_of φ) (residual most_parts φ w) ws

pub record ReadsRule (φ : Formula) : Type 0 where
  -- A rule is satisfied by worlds exactly if what the others leave of it is true of the closing world alone.
  pub right : (w : World) (ws : List World) (c : World) → Sat (w ∷ ws ++ (c ∷ [])) 0 φ ↔ (closing (parts_of φ) (remainder φ w ws) c ≡ true)
  -- "Two remainders are the same if every setting of these parts gives them the same truth": the rule's own parts, however few they are.
  pub same : (w v : World) (ws vs : List World)
      → (remainder φ w ws ≡ remainder φ v vs) ↔ ((s : ℕ) → s < 2 ^ length (parts_of φ) → bit (remainder φ w ws) s ≡ bit (remainder φ v vs) s)
  -- "a remainder is dead if all give false"
  pub dead_if : (w : World) (ws : List World)
      → (dead (remainder φ w ws) ≡ true) ↔ ((s : ℕ) → s < 2 ^ length (parts_of φ) → bit (remainder φ w ws) s ≡ false)
  -- No worlds that go on from a dead remainder satisfy the rule.
  pub dead_stays : (w : World) (ws vs : List World) (c : World) → dead (remainder φ w ws) ≡ true → Sat (w ∷ (ws ++ vs) ++ (c ∷ [])) 0 φ → ⊥

-- ---- the read-through

-- "An allowed plan is a list of applicable steps that ends with all goal facts true and whose worlds meet every rule", with truth by definition 1
-- of document 003.
pub record AllowedPlan (j : Job) (p : List ℕ) : Type 0 where
  pub applicable : executable j j.start p ≡ true
  pub goal : within j.goal (state_after j j.start p) ≡ true
  pub rules : (φ : Formula) → Memᴰ φ j.constraints → Sat (worlds j p) 0 φ

-- every number of the list is a byte, as those of a slice of bytes are
abbrev pub Bytes : List ℕ → Type 0
Bytes xs = (b : ℕ) → Memᴰ b xs → b < 256

pub record ReadsThrough (call : Call) (p : List ℕ) : Type 0 where
  -- A list of at most 65,535 steps passes in a call that is taken, with any cost and bits, exactly when it is an allowed plan of the job as it is to the
  -- caller.
  pub passes : Taken call → length p ≤ 65_535 → ((c : ℕ) × (b : ℕ) × (validated call p ≡ Ok (passed c b))) ↔ AllowedPlan (caller_job call) p
  pub only : {c b : ℕ} → validated call p ≡ Ok (passed c b) → Taken call × (length p ≤ 65_535)
  -- The cost is the list's own, and "a cost sum is at most 65,535 × 65,535".
  pub cost : {c b : ℕ} → validated call p ≡ Ok (passed c b) → c ≡ cost_of (job_of call.bytes) p
  pub cost_most : Bytes call.bytes → {c b : ℕ} → validated call p ≡ Ok (passed c b) → c ≤ 65_535 * 65_535
  -- "8 bits, bit i set exactly if the job has a hint i and the worlds meet it"
  pub bits : {c b : ℕ} → validated call p ≡ Ok (passed c b) → (i : ℕ) → let j = job_of call.bytes in
      (bit b i ≡ true) ↔ ((i < length j.hints) × Sat (worlds j p) 0 (get_or j.hints i (constant False)))
  pub eight : {c b : ℕ} → validated call p ≡ Ok (passed c b) → b < 2 ^ 8

-- ---- writing back

-- The bytes of a rule were rewritten: both are read as formulas, the new one is positive, and the same worlds satisfy both at every position.
pub record Rewrites (v a : ℕ) (rule bytes : List ℕ) : Type 0 where
  pub given : Formula
  pub new : Formula
  pub reads : section v a rule ≡ formula given (length rule)
  pub reads_back : section v a bytes ≡ formula new (length bytes)
  pub is_positive : positive new ≡ true
  pub satisfied : (ws : List World) (i : ℕ) → i < length ws → Sat ws i given ↔ Sat ws i new
  -- "no other change is made"
  pub unchanged : positive given ≡ true → bytes ≡ rule

pub record WritesBack (v a : ℕ) (rule buffer : List ℕ) (e : WriteEnd) : Type 0 where
  pub written : {n : ℕ} → e.result ≡ Ok n → Rewrites v a rule (take n e.buffer)
  pub size : {n : ℕ} → e.result ≡ Ok n → length (take n e.buffer) ≡ n
  -- "bytes behind the written rule keep their values"
  pub rest : {n : ℕ} → e.result ≡ Ok n → drop n e.buffer ≡ drop n buffer
  -- 13 comes where the buffer is shorter than the written rule, and its place is the length that a buffer needs.
  pub needed : {n : ℕ} → e.result ≡ Err (refusal 13 n)
      → (length buffer < n) × ((long : List ℕ) → n ≤ length long → (written_back v a rule long).result ≡ Ok n)

-- ---- an accepted job

-- Its sections are read as the formulas that they encode, and its rules and hints by what they mean.
pub record ReadsJob (job : List ℕ) : Type 0 where
  -- The bytes of each rule's and hint's section are the encoding of its formula.
  pub encoded : (i : ℕ) → i < constraint_count job + hint_count job → section_bytes job (1 + i) ≡ encode (formula_at job (1 + i))
  pub rules_read : (φ : Formula) → Memᴰ φ (job_of job).constraints → ReadsRule φ
  pub hints_read : (φ : Formula) → Memᴰ φ (job_of job).hints → ReadsRule φ
  -- A list is allowed, as the definitions of search and read-through test it, exactly if it is an allowed plan.
  pub allowed_is : (p : List ℕ) → (allowed (job_of job) p ≡ true) ↔ AllowedPlan (job_of job) p

-- the nodes of the entries that the exploration lists
abbrev pub nodes_of : Job → List Node
nodes_of j = map (λ (e : Entry (system_of j)). e.node) (reached (system_of j))

-- No two places of a list hold the same.
abbrev pub Different : List Node → Type 0
Different [] = Unit {0}
Different (n ∷ ns) = (Memᴰ n ns → ⊥) × Different ns

-- "Hints cut as document 01 says": its nodes are those of "Pairs and hints" to which steps lead that the caller may use (card 4) and that have an estimate
-- (card 2), and so is its answer.
pub record Explored (call : Call) : Type 1 where
  -- The nodes reached, with keys and hint remainders, solve the equations of "Pairs and hints".
  pub solves : let S = system_of (caller_job call) in Explores S unbounded (Of S (reached S))
  -- They are different nodes, so `reached_count` counts them.
  pub different : Different (nodes_of (caller_job call))
  pub counted : reached_count (caller_job call) ≡ length (nodes_of (caller_job call))
  -- The job's plan is the answer of these equations, and of any solution of them.
  pub answer : let S = system_of (caller_job call) in Answers S (Of S (reached S)) (solve_job (caller_job call))
  pub only : (L : Entries (system_of (caller_job call))) → Explores (system_of (caller_job call)) unbounded L
      → {a : Answer} → Answers (system_of (caller_job call)) L a → solve_job (caller_job call) ≡ a
