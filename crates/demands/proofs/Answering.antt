-- Demand 3 holds.
use Rattle.std.proofs.Common.{Ok, Err}
use Rattle.model.specs.Results.{planned, Searched}
use mathlib.Core.Path.{◌≡◌, refl, sym, ap, ◌∙◌, subst}
use mathlib.Core.Bool.{Bool, true, false}
use mathlib.Core.Logic.{◌⊎◌, inl, inr}
use mathlib.Core.List.{List, [], ◌++◌}
use Prim.Native.Nat.{ℕ, ◌*◌, ◌/◌, ◌≤◌, ◌<◌}
use native.Mathlib.Omega.{arith}
use native.Mathlib.Decide.{dec_lt}
use lib.Dec.{leb}
use lib.ListN.{length, take, drop}
use lib.Seq.{take_at, drop_at}
use borrow.Author.Tests.{leb-true}
use Rattle.model.specs.Refusal.{Refusal, refusal}
use Rattle.model.specs.job.Job.{Job}
use Rattle.model.specs.job.Layout.{job_of}
use Rattle.model.specs.job.Rights.{restricted}
use Rattle.model.specs.task.Plan.{MeetsHints}
use Rattle.model.specs.exploration.Equations.{plan, no_plan}
use Rattle.model.specs.search.JobSystem.{solve_job, reached_count}
use Rattle.model.specs.calls.Call.{Call, call_verdict, usable_in, caller_job}
use Rattle.model.specs.calls.Search.{SearchEnd, slot_bytes, slots_in, written_over, Outnumbered, SearchGives, steps_in, part_of}
use Rattle.model.specs.calls.Numbers.{PartGiven}
use Rattle.model.proofs.job.VerdictLaws.{bad_not_fine}
use Rattle.model.proofs.job.AcceptedPlans.{AnsweredRight}
use Rattle.model.proofs.job.BestPlan.{no_hints}
use Rattle.model.proofs.rights.Plans.{cost_restricted, allowed_restricted}
use Rattle.model.proofs.calls.CallLaws.{call_proper, call_right}
use Rattle.model.proofs.calls.Ways.{Way, not_taken, none, whole, short, small, way}
use Rattle.demands.specs.Demand1.{Taken, Between}
use Rattle.demands.specs.Demand2.{AllowedPlan, Bytes}
use Rattle.demands.specs.Demand3.{NoPlan, Other, IsPlan, Handed, Told, Result, plan_handed, table_small, some_cut, none_cut, plan_longer, AnswersJob, PartIs}
use Rattle.demands.proofs.Results.{same_planned, plan_not_none, ok_not_err, err_not_ok, same_err}
use Rattle.demands.proofs.Numbered.{call_numbered}
use Rattle.demands.proofs.CostSums.{cost_at_most}
use Rattle.demands.proofs.ReadingThrough.{allowed_is_plan}
use Rattle.demands.proofs.Lengths.{plan_short}
use Rattle.demands.proofs.Uncut.{twelve_none}

module _ (call : Call) (table buffer : List ℕ) where
  abbrev j : Job
  j = caller_job call

  right : Taken call → AnsweredRight j
  right fine = call_right call fine

  -- ---- results that are the same

  same_number : {k x p q : ℕ} → ◌≡◌ {A = Searched} (Err (refusal k p)) (Err (refusal x q)) → k ≡ x
  same_number {k} {x} {p} {q} e = ap (λ (r : Refusal). r.number) (same_err {r = refusal k p} {q = refusal x q} e)

  same_place : {k x p q : ℕ} → ◌≡◌ {A = Searched} (Err (refusal k p)) (Err (refusal x q)) → p ≡ q
  same_place {k} {x} {p} {q} e = ap (λ (r : Refusal). r.place) (same_err {r = refusal k p} {q = refusal x q} e)

  same_answer : {c d : ℕ} {p q : List ℕ} → solve_job j ≡ plan c p → solve_job j ≡ plan d q → (c ≡ d) × (p ≡ q)
  same_answer {c} {d} {p} {q} e f = let a : c ≡ d = cc in let b : p ≡ q = cc in (a, b)

  not_both : {A : Type 0} {c k : ℕ} {p : List ℕ} → solve_job j ≡ plan c p → solve_job j ≡ no_plan k → A
  not_both e f = plan_not_none (sym e ∙ f)

  -- A refusal of a call that is not taken has none of the numbers 10 to 13.
  too_early : {A : Type 0} {q : Refusal} {k p : ℕ} → call_verdict call ≡ Err q → ◌≡◌ {A = Searched} (Err q) (Err (refusal k p)) → Between 10 13 k → A
  too_early {q = q} {k} {p} b h l =
      absurd (other (call_numbered NotLate (λ n m. inl m.1) (inr refl) call q b))
    where
      NotLate : ℕ → Type 0
      NotLate n = (n ≤ 5) ⊎ (n ≡ 14)

      same : q.number ≡ k
      same = ap (λ (r : Refusal). r.number) (same_err {q = refusal k p} h)

      other : NotLate q.number → ⊥
      other (inl m) = omega (arith, same, l.0)
      other (inr m) = omega (arith, same, l.1)

  no_plan_late : {k : ℕ} → NoPlan k → Between 10 13 k
  no_plan_late (inl e) = (omega arith, omega arith)
  no_plan_late (inr e) = (omega arith, omega arith)

  -- The number of a job without a plan is 11 or 12, so it is no other.
  other_number : {A : Type 0} → Taken call → {k x p q : ℕ} → solve_job j ≡ no_plan k → ◌≡◌ {A = Searched} (Err (refusal k p)) (Err (refusal x q))
      → (NoPlan x → ⊥) → A
  other_number fine {k} {x} s h n = absurd (n (subst NoPlan (same_number h) ((right fine).numbers s)))

  -- ---- the job's plan

  pub is_plan : Taken call → {c : ℕ} {p : List ℕ} → solve_job j ≡ plan c p → IsPlan call c p
  is_plan fine {c} {p} s =
      let a = (right fine).is_allowed s in
      record {
        taken = fine;
        is_plan = s;
        is_allowed = (allowed_is_plan j p).0 a.0;
        summed = a.1;
        few_steps = plan_short j (call_proper call fine) s;
        cost_most = λ bs. subst (λ (n : ℕ). n ≤ 65_535 * length p)
            (sym (cost_restricted (usable_in call) (job_of call.bytes) p ((allowed_restricted (usable_in call) (job_of call.bytes) p).0 a.0).1) ∙ a.1)
            (cost_at_most call.bytes bs p);
        best = λ m. (right fine).is_best m s;
      }

  -- ---- what each answer says, way by way

  results : {e : SearchEnd} → Way call table buffer e → Taken call → Result e.result
  results (not_taken b) fine = absurd (bad_not_fine (sym b ∙ fine))
  results (none f {k} s) fine = go ((right f).numbers s)
    where
      go : NoPlan k → Result (Err (refusal k 0))
      go (inl e) = subst (λ (n : ℕ). Result (Err (refusal n 0))) (sym e) some_cut
      go (inr e) = subst (λ (n : ℕ). Result (Err (refusal n 0))) (sym e) none_cut
  results (whole f {c} {p} s l) fine = plan_handed c (length p)
  results (short f {c} {p} s l) fine = plan_longer (length p)
  results (small f l) fine = table_small

  handed : {e : SearchEnd} → Way call table buffer e → {c n : ℕ} → e.result ≡ Ok (planned c n) → Handed call buffer e c n
  unfolding written_over
  handed (whole fine {c} {p} s l) {c = d} {n} h =
      let f = same_planned h in
      let en : length p ≡ n = f.1 in
      let front = take_at p (drop (length p) buffer) n en in
      record {
        plan_is = is_plan fine (s ∙ (λ z. plan (f.0 z) (sym front z)));
        size = ap length front ∙ en;
        rest = drop_at p (drop (length p) buffer) n en ∙ ap (λ (k : ℕ). drop k buffer) en;
      }
  handed (not_taken b) h = err_not_ok h
  handed (none fine s) h = err_not_ok h
  handed (short fine s l) h = err_not_ok h
  handed (small fine l) h = err_not_ok h

  slots_most : slots_in table ≤ 65_536
  unfolding slots_in
  slots_most = go (leb (length table / slot_bytes) 65_536) refl
    where
      go : (b : Bool) → leb (length table / slot_bytes) 65_536 ≡ b → slots_in table ≤ 65_536
      go true e = rw (e, slots_in) (leb-true (length table / slot_bytes) 65_536 e)
      go false e = rw (e, slots_in) (omega arith)

  -- A table that is large enough has a slot for each node that is reached.
  enough : Taken call → (Outnumbered call table → ⊥) → reached_count j ≤ slots_in table
  enough fine o = go (dec_lt (slots_in table) (reached_count j))
    where
      go : Dec (slots_in table < reached_count j) → reached_count j ≤ slots_in table
      go (yes l) = absurd (o (fine, l))
      go (no l) = omega arith

  few_steps : {e : SearchEnd} → Way call table buffer e → (Outnumbered call table → ⊥) → {c n : ℕ} → e.result ≡ Ok (planned c n)
      → (n ≤ 65_535) × (Bytes call.bytes → c ≤ 65_535 * 65_535)
  few_steps w o {c} {n} h =
      let p = handed w h in
      let l : n ≤ 65_535 = omega (arith, p.size, p.plan_is.few_steps, enough p.plan_is.taken o, slots_most) in
      (l, λ bs. omega (arith, p.size, p.plan_is.cost_most bs))

  none_there : {e : SearchEnd} → Way call table buffer e → {k p : ℕ} → NoPlan k → e.result ≡ Err (refusal k p) → Taken call × (solve_job j ≡ no_plan k)
  none_there (not_taken b) n h = too_early b h (no_plan_late n)
  none_there (none f s) n h = (f, s ∙ ap no_plan (same_number h))
  none_there (whole f s l) n h = ok_not_err h
  none_there (short f s l) (inl d) h = absurd (omega (arith, same_number h))
  none_there (short f s l) (inr d) h = absurd (omega (arith, same_number h))
  none_there (small f l) (inl d) h = absurd (omega (arith, same_number h))
  none_there (small f l) (inr d) h = absurd (omega (arith, same_number h))

  twelve : {e : SearchEnd} → Way call table buffer e → {p : ℕ} → e.result ≡ Err (refusal 12 p) → (q : List ℕ) → AllowedPlan j q → ⊥
  twelve w h q a = let s = none_there w (inr refl) h in twelve_none j (call_proper call s.0) s.1 q ((allowed_is_plan j q).1 a)

  not_thirteen : NoPlan 13 → ⊥
  not_thirteen (inl e) = omega arith
  not_thirteen (inr e) = omega arith

  not_ten : NoPlan 10 → ⊥
  not_ten (inl e) = omega arith
  not_ten (inr e) = omega arith

  told : {e : SearchEnd} → Way call table buffer e → {n : ℕ} → e.result ≡ Err (refusal 13 n) → Told call buffer n
  told (not_taken b) h = too_early b h (omega arith, omega arith)
  told (none f s) h = other_number f s h not_thirteen
  told (whole f s l) h = ok_not_err h
  told (short f {c} {p} s l) h = record { cost = c; steps = p; plan_is = is_plan f s; size = same_place h; longer = omega (arith, same_place h) }
  told (small f l) h = absurd (omega (arith, same_number h))

  crowded : {e : SearchEnd} → Way call table buffer e → {p : ℕ} → e.result ≡ Err (refusal 10 p) → Taken call × (slots_in table < reached_count j)
  crowded (not_taken b) h = too_early b h (omega arith, omega arith)
  crowded (none f s) h = other_number f s h not_ten
  crowded (whole f s l) h = ok_not_err h
  crowded (short f s l) h = absurd (omega (arith, same_number h))
  crowded (small f l) h = (f, l)

  -- ---- when each answer comes

  plan_comes : {e : SearchEnd} → Way call table buffer e → Taken call → Other e → {c : ℕ} {p : List ℕ} → solve_job j ≡ plan c p → length p ≤ length buffer
      → (e.result ≡ Ok (planned c (length p))) × (take (length p) e.plan ≡ p)
  unfolding written_over
  plan_comes (not_taken b) fine o t l = absurd (bad_not_fine (sym b ∙ fine))
  plan_comes (none f s) fine o t l = not_both t s
  plan_comes (whole f {c = d} {p = q} s m) fine o {c} {p} t l =
      let a = same_answer s t in (
        (λ z. Ok (planned (a.0 z) (length (a.1 z)))),
        ap (λ (y : List ℕ). take (length y) (q ++ drop (length q) buffer)) (sym a.1) ∙ take_at q (drop (length q) buffer) (length q) refl ∙ a.1,
      )
  plan_comes (short f s m) fine o t l = absurd (omega (arith, ap length (same_answer s t).1))
  plan_comes (small f m) fine o t l = absurd (o 0 refl)

  thirteen_comes : {e : SearchEnd} → Way call table buffer e → Taken call → Other e → {c : ℕ} {p : List ℕ} → solve_job j ≡ plan c p
      → length buffer < length p → e.result ≡ Err (refusal 13 (length p))
  thirteen_comes (not_taken b) fine o t l = absurd (bad_not_fine (sym b ∙ fine))
  thirteen_comes (none f s) fine o t l = not_both t s
  thirteen_comes (whole f s m) fine o t l = absurd (omega (arith, ap length (same_answer s t).1))
  thirteen_comes (short f s m) fine o t l = ap (λ (y : List ℕ). Err (refusal 13 (length y))) (same_answer s t).1
  thirteen_comes (small f m) fine o t l = absurd (o 0 refl)

  none_comes : {e : SearchEnd} → Way call table buffer e → Taken call → Other e → {k : ℕ} → solve_job j ≡ no_plan k → e.result ≡ Err (refusal k 0)
  none_comes (not_taken b) fine o t = absurd (bad_not_fine (sym b ∙ fine))
  none_comes (none f {k = x} s) fine o {k} t = let d : x ≡ k = cc in ap (λ (y : ℕ). Err (refusal y 0)) d
  none_comes (whole f s l) fine o t = not_both s t
  none_comes (short f s l) fine o t = not_both s t
  none_comes (small f l) fine o t = absurd (o 0 refl)

  none_allowed : {e : SearchEnd} → Way call table buffer e → MeetsHints j → {k p : ℕ} → NoPlan k → e.result ≡ Err (refusal k p)
      → (q : List ℕ) → AllowedPlan j q → ⊥
  none_allowed w m n h q a =
      let s = none_there w n h in
      ((right s.0).none_exactly m).0 (_, s.1) q ((allowed_is_plan j q).1 a)

  none_allowed_comes : {e : SearchEnd} → Way call table buffer e → Taken call → Other e → MeetsHints j → ((q : List ℕ) → AllowedPlan j q → ⊥)
      → (k : ℕ) × NoPlan k × (e.result ≡ Err (refusal k 0))
  none_allowed_comes w fine o m nothing =
      let s = ((right fine).none_exactly m).1 (λ q a. nothing q ((allowed_is_plan j q).0 a)) in
      (s.0, (right fine).numbers s.1, none_comes w fine o s.1)

  -- ---- demand 3

  same_hints : (job_of call.bytes).hints ≡ [] → j.hints ≡ []
  unfolding restricted
  same_hints e = e

  pub answers_job : (e : SearchEnd) → SearchGives call table buffer e → AnswersJob call table buffer e
  answers_job e g =
      let w = way call table buffer g in
      record {
        results = results w;
        plans = handed w;
        steps_most = few_steps w;
        has_none = none_there w;
        twelve_none = twelve w;
        only_length = told w;
        too_small = crowded w;
        large_enough = λ o p h. o (crowded w h);
        plan_comes = plan_comes w;
        thirteen_comes = thirteen_comes w;
        none_comes = λ fine o s. ((right fine).numbers s, none_comes w fine o s);
        without_hints = λ e. no_hints j (same_hints e);
        without_hints_12 = λ e n h. let s = none_there w n h in (right s.0).without_hints_12 (same_hints e) s.1;
        best_comes = λ fine o m p b l. plan_comes w fine o ((right fine).is_found m p b) l;
        none_allowed = none_allowed w;
        none_allowed_comes = none_allowed_comes w;
      }

  -- The part that is handed back, with its numbers, is that of such an end.
  pub part_is : {full : Job → ℕ → Bool} {table' part : List ℕ} {result : Searched} (g : PartGiven full call table buffer table' part result)
      → PartIs call buffer g.end part
  unfolding part_of steps_in
  part_is g = record {
    plan_part = λ h.
        ((answers_job g.end g.ends.gives).plans h, g.part_is ∙ ap (λ (r : Searched). take (steps_in r) g.end.plan) h);
    empty_part = λ h. g.part_is ∙ ap (λ (r : Searched). take (steps_in r) g.end.plan) h;
  }
