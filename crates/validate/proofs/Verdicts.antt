-- The checks of a read-through as the code makes them are those of the definition.
use Rattle.std.proofs.Common.{◌≡◌, refl, sym, ap, ap₂, ◌∙◌, ℕ, ◌/◌, ◌%◌, ◌^◌, ◌<◌, zero-add, Bool, List, length, take, get_or, eqb, ltb, leb, ltb-true, Ok, Err}
use Rattle.std.proofs.Common.{IsErrAnd}
use Rattle.model.specs.Results.{Validated, passed}
use Rattle.model.specs.declared.Constant.TheVariants.{True}
use Rattle.model.specs.Refusal.{Refusal}
use Rattle.model.specs.Verdict.{no_refusal, Verdict, unless, or_else, in_turn}
use Rattle.model.specs.Bits.{bit}
use Rattle.model.specs.logic.Formula.{Formula, constant}
use Rattle.model.specs.logic.Truth.{holds}
use Rattle.model.specs.job.Job.{Action, Job, action_of}
use Rattle.model.specs.job.Layout.{job_of}
use Rattle.model.specs.task.State.{within, applicable}
use Rattle.model.specs.task.Plan.{state_after, worlds, cost_of}
use Rattle.model.specs.search.Query.{Query}
use Rattle.model.specs.calls.Call.{Call, call_verdict, usable_in}
use Rattle.model.specs.calls.Validate.{length_verdict, step_verdict, goal_verdict, constraint_verdict, steps_verdict, hint_bits, validated}
use Rattle.model.proofs.job.VerdictLaws.{or_else_fine, unless_fine, in_turn_cong}
use Rattle.model.proofs.job.Accepted.{ProperJob, accepted_proper}
use Rattle.job.proofs.TurnLaws.{passed_on}
use Rattle.rights.specs.Acceptance.{accepted}
use Rattle.rights.proofs.AcceptedCalls.{when_usable, when_refused}
use Rattle.validate.specs.declared.walk.Walk.{Walk}
use Rattle.validate.specs.Answer.{answer}
use Rattle.validate.specs.Walk.{walk_of, closed_at, bits_from, end_verdict, judged}
use Rattle.validate.proofs.HintBits.{bits_of_lem}
use Rattle.validate.proofs.Walks.{walk_facts, walk_cost, walk_constraints, walk_hints}
use Rattle.validate.proofs.Tracks.{left_right}

-- ---- answers by checks

answer_or_else : (u v : Verdict) (x : Validated) → answer (or_else u v) x ≡ answer u (answer v x)
unfolding or_else
answer_or_else (Ok _) v x = refl
answer_or_else (Err r) v x = refl

-- A check that refuses decides the answer u; after one that is fine, what comes after it does.
pub answer_refused : (u : Validated) (v : Verdict) (x : Validated) {r : Refusal} → IsErrAnd u (λ y. y ≡ r) → Err r ≡ v → u ≡ answer v x
answer_refused u v x h e = rw (passed_on u h, ← e)

pub answer_fine : (u : Validated) (v : Verdict) (x : Validated) → no_refusal ≡ v → u ≡ x → u ≡ answer v x
answer_fine u v x e h = rw (← e, h)

-- ---- a step

-- the checks of step a at position i, where u has the steps that may be used and s the facts
abbrev pub checks : Job → ℕ → ℕ → ℕ → ℕ → Verdict
checks j u a s i =
    or_else (unless (ltb a (length j.actions)) 6 i) (or_else (unless (bit u a) 15 i) (unless (applicable (action_of j a) s) 7 i))

-- The checks of a step by the facts that a walk has come to are those of the definition.
pub step_checked : (j : Job) (p : List ℕ) (u i : ℕ) (w : Walk) {v : Verdict} → w ≡ walk_of j (take i p) → v ≡ checks j u (get_or p i 0) w.facts i
    → v ≡ step_verdict j p u i
unfolding step_verdict
step_checked j p u i w e q =
    let f : w.facts ≡ state_after j j.start (take i p) = ap (λ (x : Walk). x.facts) e ∙ walk_facts j (take i p) in
    rw f at q

-- The check of a step's applicability by the test of the action that was read.
pub applicable_checked : {x y : Action} (s i : ℕ) {b : Bool} {v : Verdict} → b ≡ applicable x s → x ≡ y → v ≡ unless b 7 i
    → v ≡ unless (applicable y s) 7 i
applicable_checked s i t e h = rw (t, e) at h

-- A step whose check is fine is one of the job's actions.
pub step_known : (a n i : ℕ) (v : Verdict) → no_refusal ≡ or_else (unless (ltb a n) 6 i) v → a < n
step_known a n i v e = ltb-true a n ((unless_fine (ltb a n) 6 i).0 ((or_else_fine (unless (ltb a n) 6 i) v).0 (sym e)).0)

-- ---- the end

module _ (j : Job) (proper : ProperJob j) (p : List ℕ) where
  constraints_right : (i : ℕ) → i < length j.constraints
      → closed_at j.constraints (walk_of j p).constraints (walk_of j p).facts i ≡ holds (get_or j.constraints i (constant True)) (worlds j p)
  constraints_right i l =
      rw (walk_constraints, walk_facts) (left_right j j.constraints proper.constraint_parts proper.few_constraints i l p)

  hints_right : (i : ℕ) → i < length j.hints
      → closed_at j.hints (walk_of j p).hints (walk_of j p).facts i ≡ holds (get_or j.hints i (constant True)) (worlds j p)
  hints_right i l = rw (walk_hints, walk_facts) (left_right j j.hints proper.hint_parts proper.few_hints i l p)

  end_right : end_verdict j (walk_of j p).constraints (walk_of j p).facts
      ≡ or_else (goal_verdict j p) (in_turn (length j.constraints) (constraint_verdict j p))
  unfolding end_verdict goal_verdict constraint_verdict
  end_right =
      ap₂ or_else (ap (λ (s : ℕ). unless (within j.goal s) 8 0) (walk_facts j p))
      (in_turn_cong (length j.constraints) _ _ (λ i l. ap (λ (b : Bool). unless b 9 i) (constraints_right i l)))

  bits_right : bits_from (closed_at j.hints (walk_of j p).hints (walk_of j p).facts) 0 (length j.hints) ≡ hint_bits j p
  unfolding hint_bits
  bits_right =
      bits_of_lem (closed_at j.hints (walk_of j p).hints (walk_of j p).facts) (λ (φ : Formula). holds φ (worlds j p)) (constant True) j.hints 0
      (λ i l. rw zero-add (hints_right i l))

  -- The judgement of the whole walk is that of the definition.
  judged_right : judged j (walk_of j p)
      ≡ answer (or_else (goal_verdict j p) (in_turn (length j.constraints) (constraint_verdict j p))) (Ok (passed (cost_of j p) (hint_bits j p)))
  unfolding judged
  judged_right = ap₂ answer end_right (ap Ok (ap₂ passed (walk_cost j p) bits_right))

  -- The length, the steps in turn, and then the end.
  through_right : (u : ℕ) → answer (length_verdict j p) (answer (in_turn (length p) (step_verdict j p u)) (judged j (walk_of j p)))
      ≡ answer (steps_verdict j p u) (Ok (passed (cost_of j p) (hint_bits j p)))
  unfolding steps_verdict
  through_right u = rw (judged_right, answer_or_else (length_verdict j p), answer_or_else (in_turn (length p) (step_verdict j p u)))

-- ---- the call

module _ (c : Call) (p : List ℕ) where
  abbrev steps : Verdict
  steps = steps_verdict (job_of c.bytes) p (usable_in c)

  abbrev met : Validated
  met = Ok (passed (cost_of (job_of c.bytes) p) (hint_bits (job_of c.bytes) p))

  -- The answer is the call's refusal, or that of the steps, or that they pass.
  answered : answer (call_verdict c) (answer steps met) ≡ validated c p
  unfolding validated
  answered = sym (answer_or_else (call_verdict c) steps met) ∙ go (or_else (call_verdict c) steps) refl
    where
      go : (v : Verdict) → or_else (call_verdict c) steps ≡ v → answer (or_else (call_verdict c) steps) met ≡ validated c p
      go (Ok _) e = rw (e, validated)
      go (Err r) e = rw (e, validated)

  -- the answer for what is asked, by the length, the steps in turn and the end
  abbrev read : Query → Validated
  read q =
      answer (length_verdict (job_of q.bytes) p)
      (answer (in_turn (length p) (step_verdict (job_of q.bytes) p q.usable)) (judged (job_of q.bytes) (walk_of (job_of q.bytes) p)))

  module _ {u : Validated} where
    -- The call is refused.
    pub call_refused : {r : Refusal} → IsErrAnd u (λ y. y ≡ r) → Err r ≡ accepted c → u ≡ validated c p
    call_refused h e = answer_refused u (call_verdict c) (answer steps met) h (sym (when_refused c e)) ∙ answered

    -- It is accepted, and q is what is asked.
    module _ {q : Query} (e : Ok q ≡ accepted c) where
      call_read : u ≡ read q → u ≡ validated c p
      call_read h =
          let k = when_usable c e in
          let r = through_right (job_of c.bytes) (accepted_proper c.bytes k.job_fine) p (usable_in c) in
          answer_fine u (call_verdict c) (answer steps met) (sym k.fine) (h ∙ ap read k.asks ∙ r) ∙ answered

      -- The step list is too long.
      pub too_long : {r : Refusal} → IsErrAnd u (λ y. y ≡ r) → Err r ≡ unless (leb (length p) 65_535) 6 65_535 → u ≡ validated c p
      unfolding length_verdict
      too_long h l = call_read (answer_refused u _ _ h l)

      -- It is not, and u is the answer by the steps and the end.
      pub read_through : no_refusal ≡ unless (leb (length p) 65_535) 6 65_535
          → u ≡ answer (in_turn (length p) (step_verdict (job_of q.bytes) p q.usable)) (judged (job_of q.bytes) (walk_of (job_of q.bytes) p))
          → u ≡ validated c p
      unfolding length_verdict
      read_through l h = call_read (answer_fine u _ _ l h)
