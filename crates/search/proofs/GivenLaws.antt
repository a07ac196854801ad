-- What is given back is what the model says that a search gives.
use Rattle.std.proofs.Common.{◌≡◌, refl, sym, ap, ◌∙◌, subst, Bool, true, false, ◌⊎◌, inl, inr, Ok, Err, List, ◌++◌, ℕ, ◌≤◌, ◌<◌, length, drop, replicate}
use Rattle.std.proofs.Common.{arith, leb, le-leb}
use Rattle.std.specs.Result.{is_ok}
use Rattle.model.specs.declared.Reason.{Reason}
use Rattle.model.specs.declared.Reason.TheVariants.{TableTooSmall, NoPlanCut, NoPlan}
use Rattle.model.specs.Reason.{number_of}
use Rattle.model.specs.Refusal.{Refusal, refusal}
use Rattle.model.specs.Verdict.{no_refusal, unless}
use Rattle.model.specs.Results.{Searched, planned}
use Rattle.model.specs.calls.Search as calls
use Rattle.model.specs.calls.Call.{Call, call_verdict, asked, caller_job}
use Rattle.model.specs.calls.Search.{search_end, slots_in, cleared, written_over, ruled, too_small_end, decided, SearchEnds}
use Rattle.model.specs.exploration.System.{System}
use Rattle.model.specs.exploration.Explore.{reached, solve}
use Rattle.model.specs.job.Decoding.{job_verdict}
use Rattle.model.specs.search.Query.{Query}
use Rattle.model.specs.search.JobSystem.{solve_job, reached_count}
use Rattle.model.proofs.calls.CallLaws.{call_job}
use Rattle.astar.specs.Search.{Result, answered, too_small, search_in}
use Rattle.astar.proofs.Right.{search_right}
use Rattle.task.specs.declared.Key as code
use Rattle.table.specs.declared.Slot.{Slot}
use Rattle.table.specs.Slots.{slot_in}
use Rattle.table.specs.Tables.{Table}
use Rattle.paths.specs.Chain.{steps_at, slot_path}
use Rattle.paths.proofs.ChainLaws.{length-path}
use Rattle.held.specs.Held.{sys}
use Rattle.held.proofs.JobLaws.{sys_laws, sys_finite}
use Rattle.search.specs.Outcome.{Ended, EndsFor, EndsAs}
use Rattle.search.specs.Given.{end_of, runs_out, HandsOver}

-- ---- a path handed over

-- A check that refuses with 13 says so, and its test is false.
told : (b : Bool) (n : ℕ) {r : Refusal} → Err r ≡ unless b 13 n → (b ≡ false) × (r ≡ refusal 13 n)
unfolding unless
told true n e = absurd cc
told false n e = (refl, cc)

module _ (ss : List Slot) (g : ℕ) (buffer : List ℕ) {key : code.Key} (is : key ≡ (slot_in ss g).key) where
  abbrev path : List ℕ
  path = slot_path ss (steps_at ss g) g

  size : length path ≡ key.steps
  size = length-path ss (steps_at ss g) g ∙ sym (ap (λ (k : code.Key). k.steps) is)

  -- The buffer is shorter than the plan: 13, with the plan's length.
  pub too_short : {r : Refusal} → Err r ≡ unless (leb key.steps (length buffer)) 13 key.steps → HandsOver (slot_in ss g).key.cost path buffer (Err r) buffer
  unfolding calls.answered
  too_short h table =
      let t = told _ _ h in
      let e : leb (length path) (length buffer) ≡ false = rw size t.0 in rw (t.1, e, calls.answered, size)

  -- Otherwise the plan is written from the buffer's start.
  pub written : (after : List ℕ) → after ≡ path ++ drop (steps_at ss g) buffer → key.steps ≤ length buffer
      → HandsOver (slot_in ss g).key.cost path buffer (Ok (planned key.cost key.steps)) after
  unfolding calls.answered written_over
  written after h l table =
      let e : leb (length path) (length buffer) ≡ true = le-leb (length path) (length buffer) (omega (arith, size)) in
      let n : length path ≡ steps_at ss g = length-path ss (steps_at ss g) g in
      let c : key.cost ≡ (slot_in ss g).key.cost = ap (λ (k : code.Key). k.cost) is in
      rw (e, calls.answered, n, h, ← size, n, c)

-- ---- the end of the search

module _ (table buffer : List ℕ) (res : Result) where
  -- There is no plan, or the table is too small.
  pub refused_end : (r : Reason) → EndsFor r res → search_end (Err (refusal (number_of r) 0)) (cleared table) buffer ≡ end_of res table buffer
  unfolding calls.answered too_small_end
  refused_end TableTooSmall e = rw e
  refused_end NoPlanCut e = rw e
  refused_end NoPlan e = rw e
  refused_end _ e = absurd e

  -- So it is where the search ended for a reason, which is handed back with the place 0.
  pub ended_for : (t : Table) (e : Ended) {u : Searched} → EndsAs t e res → is_ok e ≡ false → ((r : Reason) → e ≡ Err r → u ≡ Err (refusal (number_of r) 0))
      → search_end u (cleared table) buffer ≡ end_of res table buffer
  ended_for t (Ok g) h o f = absurd cc
  ended_for t (Err r) h o f = rw (f r refl) (refused_end r h)

module _ (c : Call) (table buffer : List ℕ) where
  -- What is refused before the search leaves everything as it is.
  pub bad_ends : {r : Refusal} {u : Searched} → u ≡ Err r → call_verdict c ≡ Err r → SearchEnds runs_out c table buffer (search_end u table buffer)
  unfolding ruled decided
  bad_ends d e = rw d (record { gives = inl (rw (e, ruled)); determined = rw (e, decided) })

  module _ (fine : call_verdict c ≡ no_refusal) where
    -- the system that is searched
    abbrev S : System
    S = sys (asked c)

    -- Of an accepted call it is the answer that decides, and whether the slots run out.
    ruled_is : ruled c table buffer ≡ calls.answered (solve_job (caller_job c)) table buffer
    unfolding ruled
    ruled_is = rw (fine, ruled)

    decided_is : (b : Bool) → runs_out (caller_job c) (slots_in table) ≡ b
        → decided runs_out c table buffer ≡ elim b [ true ↦ too_small_end table buffer | false ↦ calls.answered (solve_job (caller_job c)) table buffer ]
    unfolding decided
    decided_is b e = rw (fine, decided, e)

    -- What the search in the table comes to is what a search gives.
    ends_right : SearchEnds runs_out c table buffer (end_of (search_in S (slots_in table)) table buffer)
    unfolding solve_job reached_count runs_out
    ends_right = go (search_right S (sys_laws (asked c)) (sys_finite (asked c) accepted) (slots_in table))
      where
        accepted : job_verdict c.bytes ≡ no_refusal
        accepted = call_job c fine

        go : (search_in S (slots_in table) ≡ answered (solve S)) ⊎ ((slots_in table < length (reached S)) × (search_in S (slots_in table) ≡ too_small))
            → SearchEnds runs_out c table buffer (end_of (search_in S (slots_in table)) table buffer)
        go (inl e) = record { gives = inl (rw e (sym ruled_is)); determined = rw e (sym (decided_is false (rw e refl))) }
        go (inr e) = record { gives = inr ((fine, e.0), rw e.1 refl); determined = rw e.1 (sym (decided_is true (rw e.1 refl))) }

    -- The table is cleared last.
    pub fine_ends : {q : Query} {r : Searched} {after last : List ℕ} (used : List ℕ) → q ≡ asked c
        → search_end r (cleared table) after ≡ end_of (search_in (sys q) (slots_in table)) table buffer
        → last ≡ replicate (length used) 0 → length used ≡ length table → SearchEnds runs_out c table buffer (search_end r last after)
    unfolding cleared
    fine_ends {r = r} {after = after} {last = last} used a e h l =
        let d : last ≡ cleared table = h ∙ ap (λ (n : ℕ). replicate n 0) l in
        subst (SearchEnds runs_out c table buffer) (sym (ap (λ (z : List ℕ). search_end r z after) d ∙ (rw a at e))) ends_right
