-- Demand 1 holds.
use Rattle.std.proofs.Common.{Ok, Err}
use Rattle.model.specs.Results.{planned, passed, Searched, Validated, Rewritten}
use mathlib.Core.Path.{◌≡◌, refl, sym, ap, ◌∙◌, subst}
use mathlib.Core.Bool.{Bool, true, false}
use mathlib.Core.Logic.{◌⊎◌, inl, inr}
use mathlib.Core.List.{List, ◌∷◌}
use Prim.Native.Nat.{ℕ}
use native.Mathlib.Omega.{arith}
use lib.Dec.{leb}
use lib.ListN.{length}
use borrow.Author.Tests.{ne_eqb}
use Rattle.model.specs.Refusal.{Refusal, refusal}
use Rattle.model.specs.Verdict.{Verdict, unless, or_else}
use Rattle.model.specs.job.Job.{Job}
use Rattle.model.specs.job.Layout.{action_count, job_of}
use Rattle.model.specs.logic.Reading.{section}
use Rattle.model.specs.calls.Call.{Call, needs_verdict, call_verdict, usable_in}
use Rattle.model.specs.calls.Search.{SearchEnd, search_end, cleared, SearchGives}
use Rattle.model.specs.calls.Validate.{steps_verdict, validated}
use Rattle.model.specs.calls.WriteBack.{WriteEnd, write_end, rule_verdict, rewritten, into, written_back}
use Rattle.model.specs.calls.Numbers.{refusal_numbers, search_numbers, validate_numbers, write_numbers, SearchAnswers, WriteAnswers}
use Rattle.model.proofs.job.VerdictLaws.{bad_not_fine}
use Rattle.model.proofs.calls.CallLaws.{call_fine, call_right}
use Rattle.model.proofs.calls.Ways.{Way, not_taken, none, whole, short, small, way}
use Rattle.demands.specs.Demand1.{Taken, Between, Checks, SearchRefuses, ReadThroughRefuses, RuleNumber, WriteBackRefuses, SearchAnswer, ValidateAnswer}
use Rattle.demands.specs.Demand1.{WriteAnswer}
use Rattle.demands.proofs.Results.{ok_not_err, same_err}
use Rattle.demands.proofs.Numbered.{job_numbered, call_numbered, steps_numbered, rule_numbered}

-- ---- what is checked first

pub checks : (call : Call) → Checks call
unfolding call_verdict needs_verdict
checks call = record {
  taken_if = call_fine call;
  not_accepted = λ {r} h. (ap (λ (v : Verdict). or_else v (needs_verdict call)) h, job_numbered call.bytes r h);
  other_length = λ fine n.
      ap (λ (v : Verdict). or_else v (needs_verdict call)) fine
      ∙ ap (λ (b : Bool). unless b 14 (length call.needs)) (ne_eqb (length call.needs) (action_count call.bytes) n);
}

-- ---- a search

module _ (call : Call) (table buffer : List ℕ) where
  -- What holds of a refusal's number holds of that of a result that is the same.
  as_number : {r q : Refusal} (P : ℕ → Type 0) → ◌≡◌ {A = Searched} (Err q) (Err r) → P q.number → P r.number
  as_number P e h = subst (λ (x : Refusal). P x.number) (same_err e) h

  -- Of a call that is taken the numbers are 10 to 13.
  late : {e : SearchEnd} → Way call table buffer e → Taken call → {r : Refusal} → e.result ≡ Err r → Between 10 13 r.number
  late (not_taken b) fine h = absurd (bad_not_fine (sym b ∙ fine))
  late (none f {k} s) fine h = as_number (Between 10 13) h (go ((call_right call f).numbers s))
    where
      go : (k ≡ 11) ⊎ (k ≡ 12) → Between 10 13 k
      go (inl e) = (omega arith, omega arith)
      go (inr e) = (omega arith, omega arith)
  late (whole f s l) fine h = ok_not_err h
  late (short f s l) fine h = as_number (Between 10 13) h (omega arith, omega arith)
  late (small f l) fine h = as_number (Between 10 13) h (omega arith, omega arith)

  early : {e : SearchEnd} → Way call table buffer e → {r : Refusal} → call_verdict call ≡ Err r → e.result ≡ Err r
  early (not_taken {r = q} b) {r} h = let d : q ≡ r = cc in ap Err d
  early (none f s) h = absurd (bad_not_fine (sym h ∙ f))
  early (whole f s l) h = absurd (bad_not_fine (sym h ∙ f))
  early (short f s l) h = absurd (bad_not_fine (sym h ∙ f))
  early (small f l) h = absurd (bad_not_fine (sym h ∙ f))

  abbrev Number : ℕ → Type 0
  Number k = Between 1 5 k ⊎ (k ≡ 14) ⊎ Between 10 13 k

  any : {e : SearchEnd} → Way call table buffer e → {r : Refusal} → e.result ≡ Err r → Number r.number
  any (not_taken {r = q} b) h = as_number Number h (call_numbered Number (λ k l. inl l) (inr (inl refl)) call q b)
  any (none f s) h = inr (inr (late (none f s) f h))
  any (whole f s l) h = ok_not_err h
  any (short f s l) h = inr (inr (late (short f s l) f h))
  any (small f l) h = inr (inr (late (small f l) f h))

  kept : {e : SearchEnd} → Way call table buffer e → {r : Refusal} → e.result ≡ Err r → e.plan ≡ buffer
  kept (not_taken b) h = refl
  kept (none f s) h = refl
  kept (whole f s l) h = ok_not_err h
  kept (short f s l) h = refl
  kept (small f l) h = refl

  untouched : {e : SearchEnd} → Way call table buffer e → (Taken call → ⊥) → e.table ≡ table
  untouched (not_taken b) n = refl
  untouched (none f s) n = absurd (n f)
  untouched (whole f s l) n = absurd (n f)
  untouched (short f s l) n = absurd (n f)
  untouched (small f l) n = absurd (n f)

  zeros : {e : SearchEnd} → Way call table buffer e → Taken call → e.table ≡ cleared table
  zeros (not_taken b) fine = absurd (bad_not_fine (sym b ∙ fine))
  zeros (none f s) fine = refl
  zeros (whole f s l) fine = refl
  zeros (short f s l) fine = refl
  zeros (small f l) fine = refl

  pub search_refuses : (e : SearchEnd) → SearchGives call table buffer e → SearchRefuses call table buffer e
  unfolding cleared
  search_refuses e g =
      let w = way call table buffer g in
      record {
        numbers = any w;
        not_taken = early w;
        taken = late w;
        buffer_kept = kept w;
        table_kept = untouched w;
        table_zero = zeros w;
      }

-- ---- a read-through

module _ (call : Call) (p : List ℕ) where
  abbrev Listed : ℕ → Type 0
  Listed k = Between 1 9 k ⊎ Between 14 15 k

  listed : {k : ℕ} → Between 6 9 k ⊎ (k ≡ 15) → Listed k
  listed (inl l) = inl (omega (arith, l.0), l.1)
  listed (inr e) = inr (omega arith, omega arith)

  -- The result goes by the two verdicts.
  by_verdicts : (u v : Verdict) → call_verdict call ≡ u → steps_verdict (job_of call.bytes) p (usable_in call) ≡ v
      → ReadThroughRefuses call (validated call p)
  unfolding validated or_else
  by_verdicts (Err q) v eu ev =
      let is : validated call p ≡ Err q = rw (eu, validated) in
      let n = call_numbered Listed (λ k l. inl (l.0, omega (arith, l.1))) (inr (omega arith, omega arith)) call q eu in
      record {
        numbers = λ {r} h. let d : q ≡ r = cc in subst (λ (x : Refusal). Listed x.number) d n;
        not_taken = λ {r} h. let d : q ≡ r = cc in is ∙ ap Err d;
        taken = λ fine. absurd (bad_not_fine (sym eu ∙ fine));
      }
  by_verdicts (Ok _) (Err q) eu ev =
      let is : validated call p ≡ Err q = rw (eu, validated, ev) in
      let n = steps_numbered (job_of call.bytes) p (usable_in call) q ev in
      record {
        numbers = λ {r} h. let d : q ≡ r = cc in subst (λ (x : Refusal). Listed x.number) d (listed n);
        not_taken = λ h. absurd (bad_not_fine (sym h ∙ eu));
        taken = λ fine {r} h. let d : q ≡ r = cc in subst (λ (x : Refusal). Between 6 9 x.number ⊎ (x.number ≡ 15)) d n;
      }
  by_verdicts (Ok _) (Ok _) eu ev =
      record {
        numbers = λ h. ok_not_err (rw (eu, validated, ev) at h);
        not_taken = λ h. absurd (bad_not_fine (sym h ∙ eu));
        taken = λ fine h. ok_not_err (rw (eu, validated, ev) at h);
      }

  pub read_through_refuses : ReadThroughRefuses call (validated call p)
  read_through_refuses = by_verdicts (call_verdict call) (steps_verdict (job_of call.bytes) p (usable_in call)) refl refl

-- ---- writing back

module _ (v a : ℕ) (rule buffer : List ℕ) where
  into_refuses : (out : List ℕ) → WriteBackRefuses buffer (into out buffer)
  unfolding into
  into_refuses out = go (leb (length out) (length buffer)) refl
    where
      go : (b : Bool) → leb (length out) (length buffer) ≡ b → WriteBackRefuses buffer (into out buffer)
      go true e = record { numbers = λ h. ok_not_err (rw (e, into) at h); buffer_kept = λ h. ok_not_err (rw (e, into) at h) }
      go false e =
          let is : into out buffer ≡ write_end (Err (refusal 13 (length out))) buffer = rw (e, into) in
          record {
            numbers = λ {r} h. let f : Err (refusal 13 (length out)) ≡ Err r = sym (ap (λ (x : WriteEnd). x.result) is) ∙ h in
                let d : refusal 13 (length out) ≡ r = cc in subst (λ (x : Refusal). RuleNumber x.number) d (inr (inr (inr (inr refl))));
            buffer_kept = λ h. ap (λ (x : WriteEnd). x.buffer) is;
          }

  checked : (q : Refusal) → rule_verdict v a rule ≡ Err q → RuleNumber q.number
  checked q e = rule_numbered RuleNumber (inl refl) (inr (inl refl)) (inr (inr (inl refl))) (inr (inr (inr (inl refl)))) v a rule q e

  pub write_back_refuses : WriteBackRefuses buffer (written_back v a rule buffer)
  unfolding written_back
  write_back_refuses = go (rule_verdict v a rule) refl
    where
      go : (x : Verdict) → rule_verdict v a rule ≡ x → WriteBackRefuses buffer (written_back v a rule buffer)
      go (Ok _) e = rw (e, written_back) (into_refuses (rewritten (section v a rule)))
      go (Err q) e =
          let is : written_back v a rule buffer ≡ write_end (Err q) buffer = rw (e, written_back) in
          record {
            numbers = λ {r} h. let f : Err q ≡ Err r = sym (ap (λ (x : WriteEnd). x.result) is) ∙ h in
                let d : q ≡ r = cc in subst (λ (x : Refusal). RuleNumber x.number) d (checked q e);
            buffer_kept = λ h. ap (λ (x : WriteEnd). x.buffer) is;
          }

-- ---- the functions for C

first_of : {k m : ℕ} {xs ys : List ℕ} → k ∷ xs ≡ m ∷ ys → m ≡ k
first_of e = cc

pub search_answer : (full : Job → ℕ → Bool) (call : Call) (table buffer : List ℕ) {table' buffer' out : List ℕ} {k : ℕ}
    → SearchAnswers full call table buffer table' buffer' (k ∷ out) → SearchAnswer k
unfolding search_numbers refusal_numbers
search_answer full call table buffer {table'} {buffer'} {k = k} a = go a.result refl
  where
    refuses : SearchRefuses call table buffer (search_end a.result table' buffer')
    refuses = search_refuses call table buffer (search_end a.result table' buffer') a.ends.gives

    go : (r : Searched) → a.result ≡ r → SearchAnswer k
    go (Ok _) e = inl (sym (first_of (a.said ∙ ap search_numbers e)))
    go (Err r) e =
        inr (subst (λ (x : ℕ). Between 1 5 x ⊎ (x ≡ 14) ⊎ Between 10 13 x) (first_of (a.said ∙ ap search_numbers e)) (refuses.numbers e))

pub validate_answer : (call : Call) (p : List ℕ) {k : ℕ} {out : List ℕ} → k ∷ out ≡ validate_numbers (validated call p) → ValidateAnswer k
unfolding validate_numbers refusal_numbers
validate_answer call p {k} said = go (validated call p) refl
  where
    go : (v : Validated) → validated call p ≡ v → ValidateAnswer k
    go (Ok _) e = inl (sym (first_of (said ∙ ap validate_numbers e)))
    go (Err r) e =
        inr (subst (λ (x : ℕ). Between 1 9 x ⊎ Between 14 15 x) (first_of (said ∙ ap validate_numbers e)) ((read_through_refuses call p).numbers e))

pub write_answer : (v a : ℕ) (rule buffer : List ℕ) {buffer' out : List ℕ} {k : ℕ} → WriteAnswers (written_back v a rule buffer) buffer' (k ∷ out)
    → WriteAnswer k
unfolding write_numbers refusal_numbers
write_answer v a rule buffer {k = k} w = go (written_back v a rule buffer).result refl
  where
    go : (r : Rewritten) → (written_back v a rule buffer).result ≡ r → WriteAnswer k
    go (Ok n) e = inl (sym (first_of (w.said ∙ ap write_numbers e)))
    go (Err r) e = inr (subst RuleNumber (first_of (w.said ∙ ap write_numbers e)) ((write_back_refuses v a rule buffer).numbers e))
