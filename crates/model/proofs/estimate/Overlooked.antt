-- The estimate depends on nothing but the goal and what actions need, add and cost.
use Rattle.std.proofs.Common.{Option, None, Some}
use mathlib.Core.Path.{◌≡◌, refl, sym, ap, ◌∙◌}
use Prim.Native.Nat.{ℕ}
use native.Mathlib.Omega.{arith}
use Rattle.model.specs.Bits.{bit}
use Rattle.model.specs.job.Job.{Job}
use Rattle.model.specs.search.Estimate.{estimate_of}
use Rattle.model.specs.search.MaxEstimate.{AtMost, BuildAlike, Overlooks}
use Rattle.model.proofs.estimate.Built.{Built, stands, made}
use Rattle.model.proofs.estimate.Estimates.{estimate_most}

-- Costs that are at most the same numbers are equal.
most_same : (o p : Option ℕ) → ((t : ℕ) → AtMost o t → AtMost p t) → ((t : ℕ) → AtMost p t → AtMost o t) → o ≡ p
most_same None None f g = refl
most_same None (Some d) f g = absurd (g d (omega arith))
most_same (Some c) None f g = absurd (f c (omega arith))
most_same (Some c) (Some d) f g = let e : c ≡ d = omega (arith, f c (omega arith), g d (omega arith)) in ap Some e

alike_sym : {j k : Job} → BuildAlike j k → BuildAlike k j
alike_sym a = record {
  goals = sym a.goals;
  count = sym a.count;
  needed = λ i. sym (a.needed i);
  added = λ i. sym (a.added i);
  costs = λ i. sym (a.costs i);
}

module _ {j k : Job} (a : BuildAlike j k) (s : ℕ) where
  -- What can be built with the actions of one job can be with those of the other.
  built_alike : {f t : ℕ} → Built j s f t → Built k s f t
  built_alike (stands e) = stands e
  built_alike {f} (made {t = t} {u = u} i l e n c) =
      made {t = t} {u = u} i (omega (arith, a.count)) (ap (λ (x : ℕ). bit x f) (sym (a.added i)) ∙ e)
      (λ g p. built_alike (n g (ap (λ (x : ℕ). bit x g) (a.needed i) ∙ p))) (omega (arith, a.costs i))

  most_alike : (t : ℕ) → AtMost (estimate_of j s) t → AtMost (estimate_of k s) t
  most_alike t h =
      (estimate_most k s t).1 (λ g p. built_alike ((estimate_most j s t).0 h g (ap (λ (x : ℕ). bit x g) a.goals ∙ p)))

pub overlooks : (j : Job) → Overlooks j
overlooks j k a s = most_same (estimate_of j s) (estimate_of k s) (most_alike a s) (most_alike (alike_sym a) s)
