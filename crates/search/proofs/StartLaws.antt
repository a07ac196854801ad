-- The start of a search: the start node in slot 0, and what the whole search comes to.
use Rattle.std.proofs.Common.{◌≡◌, refl, sym, ap, ◌∙◌, subst, Bool, false, Option, None, Some, Ok, Err, List, [], ◌∷◌, ◌++◌, ℕ, suc, ◌<◌}
use Rattle.std.proofs.Common.{IsErrAnd, length, arith, lt-ltb, le-ltb}
use Rattle.std.specs.Option.{ok_or}
use Rattle.model.specs.declared.Reason.{Reason}
use Rattle.model.specs.declared.Reason.TheVariants.{NoPlan}
use Rattle.model.specs.exploration.System.{System}
use Rattle.model.specs.exploration.Key.{zero_key}
use Rattle.model.specs.exploration.Equations.{no_plan}
use Rattle.model.specs.job.Layout.{constraint_count, hint_count, job_of}
use Rattle.model.specs.search.JobSystem.{is_goal, start_hints}
use Rattle.model.specs.search.Query.{Query, job_for}
use Rattle.model.proofs.rights.Steps.{hints_same}
use Rattle.astar.specs.Records.{Held}
use Rattle.astar.specs.Search.{Result, answered, too_small, turns, start_table, search_in}
use Rattle.astar.proofs.Turning.{Ready, start_ready}
use Rattle.astar.proofs.Right.{by_start}
use Rattle.table.specs.declared.Slot.{Slot}
use Rattle.table.specs.Tables.{Table, table, pushed}
use Rattle.nodes.specs.Meaning.{Clean, Carries}
use Rattle.held.specs.Held.{sys, node_for, held_is, held_in, FitsSlot}
use Rattle.held.specs.Running.{Idle}
use Rattle.held.proofs.JobLaws.{sys_laws}
use Rattle.expansion.proofs.Making.{made_sound}
use Rattle.search.specs.Outcome.{Ended, EndsFor, EndsAs, Starts, Begun}
use Rattle.search.proofs.TurnLaws.{passed}

-- ---- whether the start is reached

-- What a value became that was there, and what it was refused with where none was.
pub there : {A : Type 0} (o : Option A) (r : Reason) {x : A} → Ok x ≡ ok_or o r → o ≡ Some x
there None r e = absurd cc
there (Some y) r e = cc

pub missing : {A : Type 0} (o : Option A) {r e : Reason} → Err e ≡ ok_or o r → (o ≡ None) × (e ≡ r)
missing None e = (refl, cc)
missing (Some y) e = absurd cc

-- Where the start is not reached, the search ends with 12.
pub not_reached : (t : Table) (x : Ended) (r : Reason) {res : Result} → IsErrAnd x (λ y. y ≡ r) → r ≡ NoPlan → res ≡ answered (no_plan 12) → EndsAs t x res
not_reached t x r {res} p e h = passed (λ (y : Ended). EndsAs t y res) x p (subst (λ (z : Reason). EndsFor z res) (sym e) h)

-- ---- the start node in slot 0

-- the slot of a start node
abbrev pub start_slot : List ℕ → List ℕ → ℕ → Bool → Slot
start_slot node hints estimate goal =
    record { node = node; hints = hints; key = record { cost = 0; steps = 0 }; estimate = estimate; parent = 0; action = 0; taken = false; goal = goal }

-- It stands for the start node's record, is well formed, and fits.
pub begun : (job node hints : List ℕ) {t u : Table} {estimate : ℕ} {goal : Bool} → Clean (constraint_count job) node → FitsSlot estimate
    → Carries (hint_count job) (start_hints (job_of job)) hints → goal ≡ is_goal (job_of job) (node_for job node)
    → u ≡ pushed t (start_slot node hints estimate goal) → Begun job node estimate t u
unfolding held_is zero_key
begun job node hints {estimate = estimate} {goal = goal} clean fits carried marked e = record {
  slot = start_slot node hints estimate goal;
  makes = record {
    stands = λ z. record { node = node_for job node; key = zero_key; hints = carried.carries z; parent = 0; action = 0; taken = false };
    formed = record { clean = clean; clean_hints = carried.clean; marked = marked; summed = omega arith };
    estimated = refl;
    narrow = record { cost = omega arith; steps = omega arith; estimate = fits; parent = omega arith; action = omega arith };
  };
  stored = e;
}

-- ---- the whole search, by what the start is

module _ (S : System) (places : ℕ) where
  -- Where the start is not reached, the answer is 12.
  pub search_none : S.start ≡ None → search_in S places ≡ answered (no_plan 12)
  search_none e = by_start S places e

  -- Where there is no slot for the start, the table is too small.
  pub search_small : {m : S.Node} → S.start ≡ Some m → places ≡ 0 → search_in S places ≡ too_small
  search_small e z = by_start S places e ∙ rw (le-ltb 0 places (omega arith)) refl

  -- Where there is a slot for the start, the turns begin.
  search_turns : {m : S.Node} → S.start ≡ Some m → 0 < places → search_in S places ≡ turns S places (suc places) (start_table S m)
  search_turns e l = by_start S places e ∙ rw (lt-ltb 0 places l) refl

-- ---- the start node was stored in an empty table

module _ {job : Query} {node : List ℕ} {estimate : ℕ} {t u : Table} (x : Starts job node estimate t) (b : Begun job.bytes node estimate t u) where
  -- It is the one slot.
  one : u ≡ table t.room (b.slot ∷ [])
  one = b.stored ∙ ap (λ (ss : List Slot). table t.room (ss ++ (b.slot ∷ []))) x.empty

  -- It is the start table.
  begins : held_in job.bytes (b.slot ∷ []) ≡ start_table (sys job) (node_for job.bytes node)
  unfolding start_table held_in
  begins =
      ap (λ (r : Held (sys job)). r ∷ []) (b.makes.stands
      ∙ (λ z. record { node = node_for job.bytes node; key = zero_key; hints = sym hints z; parent = 0; action = 0; taken = false }))
    where
      hints : start_hints (job_for job) ≡ start_hints (job_of job.bytes)
      hints = hints_same job.usable (job_of job.bytes)

  -- The search begins with a table between two turns.
  pub begun_idle : Idle job u × (length u.slots ≡ 1)
  begun_idle = rw one (
    (
      node_for job.bytes node,
      record {
        accepted = x.accepted;
        starts = x.starts;
        most = x.most;
        used = omega (arith, x.some_room);
        sound = (made_sound job b.makes refl x.estimated, tt);
      },
      subst (Ready (sys job) t.room (node_for job.bytes node)) (sym begins)
          (start_ready (sys job) t.room (sys_laws job) (node_for job.bytes node) x.some_room),
    ),
    refl,
  )

  -- What the turns end as, the search does.
  pub begun_ends : (v : Table) (r : Ended) → EndsAs v r (turns (sys job) u.room (suc u.room) (held_in job.bytes u.slots))
      → EndsAs v r (search_in (sys job) t.room)
  begun_ends v r h =
      subst (EndsAs v r)
      (ap (λ (w : Table). turns (sys job) w.room (suc w.room) (held_in job.bytes w.slots)) one
      ∙ ap (turns (sys job) t.room (suc t.room)) begins ∙ sym (search_turns (sys job) t.room x.starts x.some_room)) h
