-- Card 4 holds: a plan has only steps that the caller may use, others are not noticed, and further rights never make a plan dearer.
use Rattle.std.proofs.Common.{Ok, Err}
use Rattle.model.specs.Results.{planned}
use mathlib.Core.Path.{◌≡◌, sym, ap, ◌∙◌, subst}
use mathlib.Core.Bool.{true}
use mathlib.Core.Logic.{◌↔◌, ◌⊎◌, inl, inr}
use mathlib.Core.List.{List, [], Memᴰ}
use Prim.Native.Nat.{ℕ, ◌≤◌, ◌<◌}
use native.Mathlib.Omega.{arith}
use native.Mathlib.Decide.{dec_lt}
use lib.ListN.{length, get_or, replicate}
use Rattle.model.specs.Bits.{bit}
use Rattle.model.specs.Refusal.{refusal}
use Rattle.model.specs.job.Job.{Job}
use Rattle.model.specs.job.Layout.{action_count, job_of}
use Rattle.model.specs.job.Rights.{usable_bits}
use Rattle.model.specs.task.State.{within}
use Rattle.model.specs.task.Plan.{cost_of}
use Rattle.model.specs.calls.Call.{Call, call, usable_in, caller_job}
use Rattle.model.specs.calls.Search.{SearchEnd, SearchEnds, part_of}
use Rattle.model.specs.calls.Numbers.{search_numbers}
use Rattle.model.proofs.exploration.Each.{all_at, all_mem}
use Rattle.model.proofs.task.StateLaws.{within_facts}
use Rattle.model.proofs.job.Accepted.{length-actions}
use Rattle.model.proofs.rights.Steps.{barred_nowhere, next_usable}
use Rattle.model.proofs.rights.Plans.{cost_restricted, allowed_restricted}
use Rattle.model.proofs.rights.Lists.{usable_bit, zeros_usable, all_usable}
use Rattle.model.proofs.rights.Alike.{same_end}
use Rattle.model.proofs.rights.Counted.{counts_usable}
use Rattle.model.proofs.rights.Further.{further_rights}
use Rattle.model.proofs.calls.CallLaws.{call_fine, call_job}
use Rattle.demands.specs.Demand1.{Taken}
use Rattle.demands.specs.Demand2.{AllowedPlan}
use Rattle.demands.specs.Demand3.{Other, IsPlan, AnswersJob}
use Rattle.demands.specs.Rights.{MayUse, RightsOf, Private, FurtherRights}
use Rattle.demands.proofs.ReadingThrough.{allowed_is_plan}
use Rattle.demands.proofs.Answering.{is_plan, answers_job}

-- ---- which steps, and what follows of plans, nodes and the estimate

module _ (by : Call) where
  abbrev j : Job
  j = job_of by.bytes

  abbrev u : ℕ
  u = usable_in by

  bit_tells : (i : ℕ) → i < length by.needs → (bit u i ≡ true) ↔ MayUse by i
  bit_tells i l =
      let e = usable_bit by.needs by.rights i l in
      let f = within_facts (get_or by.needs i 0) by.rights in
      (λ h. f.0 (sym e ∙ h), λ h. e ∙ f.1 h)

  only_usable : (p : List ℕ) → AllowedPlan (caller_job by) p ↔ (AllowedPlan j p × ((i : ℕ) → Memᴰ i p → bit u i ≡ true))
  only_usable p =
      let r = allowed_restricted u j p in (
        λ a. let x = r.0 ((allowed_is_plan (caller_job by) p).1 a) in ((allowed_is_plan j p).0 x.0, λ i m. all_at (λ i. bit u i ≡ true) p m x.1),
        λ x. (allowed_is_plan (caller_job by) p).0 (r.1 ((allowed_is_plan j p).1 x.0, all_mem (λ i. bit u i ≡ true) p x.1)),
      )

  same_cost : (p : List ℕ) → AllowedPlan (caller_job by) p → cost_of (caller_job by) p ≡ cost_of j p
  same_cost p a = cost_restricted u j p ((allowed_restricted u j p).0 ((allowed_is_plan (caller_job by) p).1 a)).1

  unbarred : by.needs ≡ replicate (action_count by.bytes) 0 → caller_job by ≡ j
  unbarred e = all_usable u j (λ i l.
      subst (λ (needs : List ℕ). bit (usable_bits needs by.rights) i ≡ true) (sym e)
      (zeros_usable (action_count by.bytes) by.rights i (omega (arith, length-actions by.bytes))))

  pub rights_of : RightsOf by
  rights_of = record {
    usable = bit_tells;
    allowed = only_usable;
    costs = same_cost;
    no_pair = barred_nowhere u j;
    own_pair = next_usable u j;
    counts = counts_usable u j;
    zeros = unbarred;
  }

-- ---- not noticed

pub not_noticed : Private
not_noticed full a b needs rights fine_a fine_b alike = record {
  ends = same;
  answers = λ x y.
      let d = same x.ends y.ends in
      (x.said ∙ ap (λ (e : SearchEnd). search_numbers e.result) d ∙ sym y.said, ap (λ (e : SearchEnd). e.table) d, ap (λ (e : SearchEnd). e.plan) d);
  parts = λ x y.
      let d = same x.ends y.ends in (
        x.said ∙ ap (λ (e : SearchEnd). e.result) d ∙ sym y.said,
        x.table_is ∙ ap (λ (e : SearchEnd). e.table) d ∙ sym y.table_is,
        x.part_is ∙ ap part_of d ∙ sym y.part_is,
      );
}
  where
    same : {table buffer : List ℕ} {e f : SearchEnd} → SearchEnds full (call a needs rights) table buffer e
        → SearchEnds full (call b needs rights) table buffer f → e ≡ f
    same {table} {buffer} x y = x.determined ∙ same_end a b needs rights fine_a fine_b alike full table buffer ∙ sym y.determined

-- ---- further rights

module _ (job needs : List ℕ) (r s : ℕ) (unhinted : (job_of job).hints ≡ []) (more : within r s ≡ true) where
  -- The list is as long for the one as for the other.
  also_taken : Taken (call job needs r) → Taken (call job needs s)
  also_taken t = (call_fine (call job needs s)).1 ((call_fine (call job needs r)).0 t)

  no_dearer : {c : ℕ} {p : List ℕ} → IsPlan (call job needs r) c p → (d : ℕ) × (q : List ℕ) × IsPlan (call job needs s) d q × (d ≤ c)
  no_dearer x =
      let f = further_rights job needs r s (call_job (call job needs r) x.taken) unhinted more x.is_plan in
      (f.0, f.1, is_plan (call job needs s) [] [] (also_taken x.taken) f.2, f.3)

  -- a plan that costs at most c is handed over, or it is longer than the buffer
  abbrev AtMost : List ℕ → SearchEnd → ℕ → Type 0
  AtMost buffer f c =
      ((d : ℕ) × (m : ℕ) × (f.result ≡ Ok (planned d m)) × (d ≤ c)) ⊎ ((m : ℕ) × (f.result ≡ Err (refusal 13 m)) × (length buffer < m))

  handed : {table buffer : List ℕ} {f : SearchEnd} → AnswersJob (call job needs s) table buffer f → Other f → {d c : ℕ} {q : List ℕ}
      → IsPlan (call job needs s) d q → d ≤ c → AtMost buffer f c
  handed {buffer = buffer} {f = f} a o {d} {c} {q} x l = go (dec_lt (length buffer) (length q))
    where
      go : Dec (length buffer < length q) → AtMost buffer f c
      go (yes short) = inr (length q, a.thirteen_comes x.taken o x.is_plan short, short)
      go (no fits) = inl (d, length q, (a.plan_comes x.taken o x.is_plan (omega arith)).0, l)

pub further : FurtherRights
further full job needs r s unhinted more = record {
  plans = no_dearer job needs r s unhinted more;
  answers = λ {table} {buffer} {table'} {buffer'} {e} {f} x y o h.
      let p = (answers_job (call job needs r) table buffer e x.gives).plans h in
      let q = no_dearer job needs r s unhinted more p.plan_is in
      handed job needs r s unhinted more (answers_job (call job needs s) table' buffer' f y.gives) o q.2 q.3;
}
