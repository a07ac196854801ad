-- What the answer of `accept` says of the call.
use Rattle.std.proofs.Common.{◌≡◌, Ok, Err, refl}
use Rattle.model.specs.Refusal.{Refusal}
use Rattle.model.specs.Verdict.{no_refusal, Verdict}
use Rattle.model.specs.job.Decoding.{job_verdict}
use Rattle.model.specs.search.Query.{Query}
use Rattle.model.specs.calls.Call.{Call, call_verdict, asked}
use Rattle.model.proofs.calls.CallLaws.{call_job}
use Rattle.rights.specs.Acceptance.{accepted}

-- What is known of a call that is accepted, where q is what it asks.
pub record AcceptedCall (c : Call) (q : Query) : Type 0 where
  pub fine : call_verdict c ≡ no_refusal
  pub job_fine : job_verdict c.bytes ≡ no_refusal
  pub asks : q ≡ asked c

module _ (c : Call) where
  -- The answer is what is asked.
  pub when_usable : {q : Query} → Ok q ≡ accepted c → AcceptedCall c q
  unfolding accepted
  when_usable {q} e = go (call_verdict c) refl
    where
      go : (v : Verdict) → call_verdict c ≡ v → AcceptedCall c q
      go (Ok _) f = let g = rw (accepted, f) at e in record { fine = f; job_fine = call_job c f; asks = cc }
      go (Err r) f = let g = rw (accepted, f) at e in absurd cc

  -- The answer is a refusal.
  pub when_refused : {r : Refusal} → Err r ≡ accepted c → call_verdict c ≡ Err r
  unfolding accepted
  when_refused {r} e = go (call_verdict c) refl
    where
      go : (v : Verdict) → call_verdict c ≡ v → call_verdict c ≡ Err r
      go (Ok _) f = let g = rw (accepted, f) at e in absurd cc
      go (Err s) f = let g = rw (accepted, f) at e in cc
