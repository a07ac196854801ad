-- One pass over the actions of a restricted job: one that may be used ends and gains as in the job; the end of another stays, and it gains nothing.
use Rattle.std.proofs.Common.{◌≡◌, refl, sym, ap, ap₂, ◌∙◌, ℕ, ◌+◌, ◌^◌, ◌≤◌, ◌<◌, arith, add-one, Bool, true, false, Option, None, Some, List}
use Rattle.std.proofs.Common.{length, length-set, get_or, set, get_or-set_same, get_or-set_other, ltb, bit_and, ne_eqb}
use Rattle.std.proofs.lemmas.List.{set-get_or}
use Rattle.std.proofs.lemmas.Nat.{and_le_r}
use Rattle.std.proofs.Math.Decide.{ℕ_discrete}
use Rattle.model.specs.Bits.{bit}
use Rattle.model.specs.job.Job.{Job, Action, action_of}
use Rattle.model.specs.job.Rights.{no_fact, barred, restricted}
use Rattle.model.specs.job.Layout.{action_count, job_of}
use Rattle.model.specs.task.State.{within}
use Rattle.model.specs.search.Estimate.{Ends, Gain, sooner, end_of, readied, gain_of, soonest}
use Rattle.model.proofs.job.Accepted.{length-actions}
use Rattle.model.proofs.job.VerdictLaws.{get_or-list_of}
use Rattle.model.proofs.rights.Steps.{length-restricted, action_usable, action_barred}
use Rattle.estimate.specs.Meaning.{dearest}
use Rattle.estimate.specs.Turns.{Low, LowGain, AllLow, StaysLow, Passed}

-- ---- ends

-- Written again, an end that is known changes nothing.
pub same_end : (ends : Ends) (i : ℕ) {e : Option ℕ} → get_or ends i None ≡ e → ends ≡ set ends i e
same_end ends i f = rw (← f) (sym (set-get_or ends i None))

-- ---- gains

-- What is so of two gains is so of the sooner.
sooner_so : (P : Option Gain → Type 0) (x y : Option Gain) → P x → P y → P (sooner x y)
unfolding sooner
sooner_so P None y p q = q
sooner_so P (Some x) None p q = p
sooner_so P (Some x) (Some y) p q = by (ltb y.level x.level)
  where
    by : (b : Bool) → P (elim b [ true ↦ Some y | false ↦ Some x ])
    by true = q
    by false = p

sooner_none : (x : Option Gain) → sooner x None ≡ x
unfolding sooner
sooner_none None = refl
sooner_none (Some x) = refl

-- ---- the end and the gain of an action

end_by : ℕ → ℕ → Option ℕ → Action → Option ℕ
end_by built level end a = elim end [
  | Some e ↦ Some e
  | None ↦ elim (within a.pre built) [ true ↦ Some (level + a.cost) | false ↦ None ]
]

gain_by : ℕ → Option ℕ → Action → Option Gain
gain_by built end a = elim end [
  | None ↦ None
  | Some e ↦ elim (within a.add built) [ true ↦ None | false ↦ Some (record { level = e; adds = a.add }) ]
]

gain_low : (built top : ℕ) (end : Option ℕ) (a : Action) → Low top end → LowGain top (gain_by built end a)
unfolding gain_by
gain_low built top None a l = tt
gain_low built top (Some e) a l = by (within a.add built)
  where
    by : (b : Bool) → LowGain top (elim b [ true ↦ None | false ↦ Some (record { level = e; adds = a.add }) ])
    by true = tt
    by false = l

-- The fact that a barred action needs is no fact of a state, so it is not built.
unbuilt : (built : ℕ) → built < 2 ^ 64 → within no_fact built ≡ false
unfolding within
unbuilt built b = ne_eqb (bit_and no_fact built) no_fact (λ e. omega (arith, and_le_r no_fact built))

end_barred : (built level : ℕ) (end : Option ℕ) → built < 2 ^ 64 → end_by built level end barred ≡ end
unfolding end_by barred
end_barred built level None b = rw (unbuilt built b, end_by)
end_barred built level (Some e) b = refl

-- It adds no fact.
gain_barred : (built : ℕ) (end : Option ℕ) → gain_by built end barred ≡ None
unfolding gain_by barred within
gain_barred built None = refl
gain_barred built (Some e) = refl

-- ---- one action more

module _ (j : Job) (built level : ℕ) where
  -- Before the first action nothing is gained.
  pub passed_none : (ends : Ends) → Passed j built level ends ends 0 None
  unfolding soonest
  passed_none ends = record { ends = λ k l. absurd (omega arith); rest = λ k l. refl; gain = refl; low = λ top l h. (h, tt) }

  -- the end of action k at the level
  pub readied_at : (ends : Ends) (k : ℕ) → k < length j.actions
      → get_or (readied j built level ends) k None ≡ end_of j built level (get_or ends k None) k
  unfolding readied
  readied_at ends k l = get_or-list_of (λ i. end_of j built level (get_or ends i None) i) (length j.actions) k None l

  module _ {before after xs : Ends} {i : ℕ} {best r : Option Gain} {e : Option ℕ} {a : Action} (p : Passed j built level before after i best)
      (l : i < length j.actions) (m : i < length xs) (f : xs ≡ set after i e) (is : action_of j i ≡ a)
      (n : e ≡ end_by built level (get_or after i None) a) (low : StaysLow level (get_or after i None) e) (s : r ≡ sooner best (gain_by built e a)) where
    own : get_or xs i None ≡ e
    own = rw f (get_or-set_same after i e None (omega (arith, ap length f, length-set {A = Option ℕ})))

    other : (k : ℕ) → (k ≡ i → ⊥) → get_or xs k None ≡ get_or after k None
    other k d = rw f (get_or-set_other after i k e None d)

    same : e ≡ end_of j built level (get_or before i None) i
    unfolding end_of end_by
    same = n ∙ sym (ap (end_by built level (get_or after i None)) is) ∙ ap (λ o. end_of j built level o i) (p.rest i (omega arith))

    ends : (k : ℕ) → k < i + 1 → Dec (k ≡ i) → get_or xs k None ≡ end_of j built level (get_or before k None) k
    ends k q (yes d) = rw d (own ∙ same)
    ends k q (no d) = other k d ∙ p.ends k (omega arith)

    end_low : (top : ℕ) → level + dearest ≤ top → AllLow top before → (k : ℕ) → Dec (k ≡ i) → Low top (get_or xs k None)
    end_low top q h k (yes d) = rw (d, own) (low top q ((p.low top q h).0 i))
    end_low top q h k (no d) = rw (other k d) ((p.low top q h).0 k)

    passed_more : Passed j built level before xs (i + 1) r
    unfolding soonest gain_of gain_by
    passed_more = record {
      ends = λ k q. ends k q (ℕ_discrete k i);
      rest = λ k q. other k (omega arith) ∙ p.rest k (omega arith);
      gain = s ∙ ap (λ x. sooner best (gain_by built e x)) (sym is)
          ∙ ap₂ (λ g x. sooner g (gain_of j built x i)) p.gain (same ∙ sym (readied_at before i l))
          ∙ ap (soonest j built (readied j built level before)) (sym (add-one i));
      low = λ top q h. (
        λ k. end_low top q h k (ℕ_discrete k i),
        rw s (sooner_so (LowGain top) best _ (p.low top q h).1 (gain_low built top e a (low top q ((p.low top q h).0 i)))),
      );
    }

-- ---- one action more of a restricted job

module _ (u : ℕ) (bytes : List ℕ) where
  -- It has as many actions as its bytes say.
  pub counted : length (restricted u (job_of bytes)).actions ≡ action_count bytes
  counted = length-restricted u (job_of bytes) ∙ length-actions bytes

  module _ {built level i : ℕ} {before after xs : Ends} {best g : Option Gain} (p : Passed (restricted u (job_of bytes)) built level before after i best)
      (l : i < action_count bytes) (m : i < length xs) where
    pub passed_usable : {e : Option ℕ} {r : Option Gain} → bit u i ≡ true → xs ≡ set after i e
        → e ≡ end_of (job_of bytes) built level (get_or after i None) i → StaysLow level (get_or after i None) e
        → r ≡ sooner best (gain_of (job_of bytes) built e i) → g ≡ r → Passed (restricted u (job_of bytes)) built level before xs (i + 1) g
    unfolding end_of gain_of end_by gain_by
    passed_usable t f n low s q = passed_more _ _ _ p (rw counted l) m f (action_usable u (job_of bytes) i t) n low (q ∙ s)

    pub passed_barred : bit u i ≡ false → built < 2 ^ 64 → xs ≡ after → g ≡ best
        → Passed (restricted u (job_of bytes)) built level before xs (i + 1) g
    passed_barred t b f q =
        let end = get_or after i None in
        passed_more _ _ _ p (rw counted l) m (f ∙ sym (set-get_or after i None))
        (action_barred u (job_of bytes) i (rw length-actions l) t) (sym (end_barred built level end b)) (λ top o w. w)
        (q ∙ sym (ap (sooner best) (gain_barred built end) ∙ sooner_none best))
