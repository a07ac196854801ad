-- The ways out of a search, one by one.
use Rattle.std.proofs.Common.{Ok, Err}
use Rattle.model.specs.Results.{planned}
use mathlib.Core.Path.{◌≡◌, refl, sym, subst}
use mathlib.Core.Bool.{Bool, true, false}
use mathlib.Core.Logic.{inl, inr}
use mathlib.Core.List.{List}
use Prim.Native.Nat.{ℕ, ◌≤◌, ◌<◌}
use native.Mathlib.Omega.{arith}
use lib.Dec.{leb}
use lib.ListN.{length, length-append}
use borrow.Author.Tests.{leb-true, leb-false}
use Rattle.model.specs.Refusal.{Refusal, refusal}
use Rattle.model.specs.Verdict.{no_refusal, Verdict}
use Rattle.model.specs.calls.Search as calls
use Rattle.model.specs.calls.Search.{SearchEnd, search_end, slots_in, cleared, written_over, ruled, too_small_end, SearchGives, steps_in}
use Rattle.model.specs.exploration.Equations.{Answer, plan, no_plan}
use Rattle.model.specs.search.JobSystem.{solve_job, reached_count}
use Rattle.model.specs.calls.Call.{Call, call_verdict, caller_job}

module _ (call : Call) (table buffer : List ℕ) where
  pub data Way : SearchEnd → Type 0 where
    -- the bytes are no job, or the list of rights has another length: 1 to 5, or 14
    not_taken : {r : Refusal} → call_verdict call ≡ Err r → Way (search_end (Err r) table buffer)
    -- the job has no plan: 11 or 12
    none : call_verdict call ≡ no_refusal → {k : ℕ} → solve_job (caller_job call) ≡ no_plan k → Way (search_end (Err (refusal k 0)) (cleared table) buffer)
    -- the job has a plan, which the buffer holds
    whole : call_verdict call ≡ no_refusal → {c : ℕ} {p : List ℕ} → solve_job (caller_job call) ≡ plan c p → length p ≤ length buffer
        → Way (search_end (Ok (planned c (length p))) (cleared table) (written_over p buffer))
    -- the job has a plan, for which the buffer is too short: 13
    short : call_verdict call ≡ no_refusal → {c : ℕ} {p : List ℕ} → solve_job (caller_job call) ≡ plan c p → length buffer < length p
        → Way (search_end (Err (refusal 13 (length p))) (cleared table) buffer)
    -- the table is too small: 10
    small : call_verdict call ≡ no_refusal → slots_in table < reached_count (caller_job call) → Way (search_end (Err (refusal 10 0)) (cleared table) buffer)

  answered_way : call_verdict call ≡ no_refusal → (a : Answer) → solve_job (caller_job call) ≡ a → Way (calls.answered a table buffer)
  unfolding calls.answered
  answered_way fine (no_plan k) e = none fine e
  answered_way fine (plan c p) e = go (leb (length p) (length buffer)) refl
    where
      go : (b : Bool) → leb (length p) (length buffer) ≡ b → Way (calls.answered (plan c p) table buffer)
      go true l = rw (l, calls.answered) (whole fine e (leb-true (length p) (length buffer) l))
      go false l = rw (l, calls.answered) (short fine e (leb-false (length p) (length buffer) l))

  ruled_way : (v : Verdict) → call_verdict call ≡ v → Way (ruled call table buffer)
  unfolding ruled
  ruled_way (Ok _) e = rw (e, ruled) (answered_way e (solve_job (caller_job call)) refl)
  ruled_way (Err r) e = rw (e, ruled) (not_taken e)

  -- What a search gives is one of these.
  pub way : {e : SearchEnd} → SearchGives call table buffer e → Way e
  unfolding too_small_end
  way (inl h) = subst Way (sym h) (ruled_way (call_verdict call) refl)
  way (inr h) = subst Way (sym h.1) (small h.0.0 h.0.1)

  -- On each, as many steps as are given back are in the buffer.
  pub steps_fit : {e : SearchEnd} → Way e → steps_in e.result ≤ length e.plan
  unfolding steps_in written_over
  steps_fit (not_taken e) = omega arith
  steps_fit (none f e) = omega arith
  steps_fit (whole f e l) = simp length-append (omega arith)
  steps_fit (short f e l) = omega arith
  steps_fit (small f l) = omega arith
