-- Two jobs that differ in barred steps alone are one job to the caller, so nothing that is given back tells them apart.
use Rattle.std.proofs.Common.{Ok, Err}
use mathlib.Core.Path.{◌≡◌, refl, sym, ap, ap₂, ◌∙◌}
use Prim.Native.Nat.{ℕ}
use mathlib.Core.Bool.{Bool, true, false}
use mathlib.Core.List.{List}
use lib.Dec.{eqb}
use lib.ListN.{length}
use Rattle.model.specs.Verdict.{no_refusal, Verdict, unless}
use Rattle.model.specs.Bits.{bit}
use Rattle.model.specs.logic.Formula.{choose}
use Rattle.model.specs.job.Job.{Job, Action, action_of, list_of}
use Rattle.model.specs.job.Layout.{job_of}
use Rattle.model.specs.job.Decoding.{job_verdict}
use Rattle.model.specs.job.Rights.{usable_bits, barred, restricted, Alike}
use Rattle.model.specs.search.JobSystem.{solve_job}
use Rattle.model.specs.calls.Call.{Call, call, needs_verdict, call_verdict, caller_job}
use Rattle.model.specs.calls.Search.{SearchEnd, slots_in, answered, too_small_end, decided}
use Rattle.model.proofs.job.VerdictLaws.{list_of_cong}
use Rattle.model.proofs.job.Accepted.{length-actions}

pub same_restricted : (u : ℕ) (j k : Job) → Alike u j k → restricted u j ≡ restricted u k
unfolding restricted
same_restricted u j k a = λ t. record {
  start = a.starts t;
  goal = a.goals t;
  actions = steps t;
  constraints = a.constraints t;
  hints = a.hints t;
}
  where
    left : Job → ℕ → Action
    left x i = choose (bit u i) (action_of x i) barred

    each : (i : ℕ) (b : Bool) → bit u i ≡ b → left j i ≡ left k i
    each i true e = ap (λ (b : Bool). choose b (action_of j i) barred) e ∙ a.usable i e ∙ sym (ap (λ (b : Bool). choose b (action_of k i) barred) e)
    each i false e = ap (λ (b : Bool). choose b (action_of j i) barred) e ∙ sym (ap (λ (b : Bool). choose b (action_of k i) barred) e)

    steps : list_of (left j) (length j.actions) ≡ list_of (left k) (length k.actions)
    steps = list_of_cong (left j) (left k) (length j.actions) (λ i l. each i (bit u i) refl) ∙ ap (list_of (left k)) a.count

-- ---- calls

-- Of an accepted job only the number of steps decides whether a list is refused.
list_verdict : (c : Call) → job_verdict c.bytes ≡ no_refusal
    → call_verdict c ≡ unless (eqb (length c.needs) (length (job_of c.bytes).actions)) 14 (length c.needs)
unfolding call_verdict needs_verdict
list_verdict c fine =
    rw fine (ap (λ (n : ℕ). unless (eqb (length c.needs) n) 14 (length c.needs)) (sym (length-actions c.bytes)))

module _ (a b needs : List ℕ) (rights : ℕ) (fine_a : job_verdict a ≡ no_refusal) (fine_b : job_verdict b ≡ no_refusal)
    (alike : Alike (usable_bits needs rights) (job_of a) (job_of b)) where
  pub same_verdict : call_verdict (call a needs rights) ≡ call_verdict (call b needs rights)
  same_verdict =
      list_verdict (call a needs rights) fine_a ∙ ap (λ (n : ℕ). unless (eqb (length needs) n) 14 (length needs)) alike.count
      ∙ sym (list_verdict (call b needs rights) fine_b)

  pub same_job : caller_job (call a needs rights) ≡ caller_job (call b needs rights)
  same_job = same_restricted (usable_bits needs rights) (job_of a) (job_of b) alike

  -- A search comes to the same end, wherever it runs out of slots.
  pub same_end : (full : Job → ℕ → Bool) (table buffer : List ℕ)
      → decided full (call a needs rights) table buffer ≡ decided full (call b needs rights) table buffer
  unfolding decided
  same_end full table buffer = ap₂ ended same_verdict same_job
    where
      ended : Verdict → Job → SearchEnd
      ended v j = elim v [
        | Err r ↦ record { result = Err r; table = table; plan = buffer }
        | Ok _ ↦ elim (full j (slots_in table)) [ true ↦ too_small_end table buffer | false ↦ answered (solve_job j) table buffer ]
      ]
