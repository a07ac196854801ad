-- The answer and the estimate, each from the other.
use Rattle.std.proofs.Common.{◌≡◌, sym, ◌∙◌, ℕ, ◌≤◌, arith, Option, None, Some}
use Rattle.model.specs.job.Job.{Job}
use Rattle.model.specs.search.Estimate.{estimate_of}
use Rattle.estimate.specs.Meaning.{highest, Estimates}

module _ (j : Job) (s : ℕ) where
  -- ---- what an answer says, for callers that match on it

  module _ {r : Option ℕ} (a : Estimates j s r) where
    pub estimate_some : {e : ℕ} → r ≡ Some e → estimate_of j s ≡ Some e
    estimate_some d = sym a.is ∙ d

    pub estimate_most : {e : ℕ} → r ≡ Some e → e ≤ highest
    estimate_most d = a.most _ (estimate_some d)

    pub estimate_none : r ≡ None → estimate_of j s ≡ None
    estimate_none d = sym a.is ∙ d

  -- ---- what makes an answer right

  pub answers_some : (e : ℕ) → estimate_of j s ≡ Some e → e ≤ highest → Estimates j s (Some e)
  answers_some e h l = record {
    is = sym h;
    most = λ d k. let q : e ≡ d = cc in omega arith;
  }

  pub answers_none : estimate_of j s ≡ None → Estimates j s None
  answers_none h = record {
    is = sym h;
    most = λ d k. absurd (cc);
  }
