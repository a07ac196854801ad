-- Residuals counted, and an action that is read of an accepted job.
use Rattle.std.proofs.Common.{◌≡◌, sym, ◌∙◌, ℕ, ◌≤◌, ◌<◌, List, length, take, length-take-le}
use Rattle.model.specs.logic.Formula.{Formula}
use Rattle.model.specs.logic.Truth.{World}
use Rattle.model.specs.job.Job.{Action, action_of}
use Rattle.model.specs.job.Layout.{action_count, action_at, job_of}
use Rattle.model.specs.search.Node.{progressed_all}
use Rattle.model.proofs.job.ResidualLists.{length-progressed_all}
use Rattle.job.proofs.Accepted.{action_of_lem}

-- As many residuals are left as there are formulas.
pub length-left : (φs : List Formula) (n : ℕ) (rs : List ℕ) (w : World) → length φs ≡ n → n ≤ length rs → length (progressed_all φs (take n rs) w) ≡ n
length-left φs n rs w k l = length-progressed_all φs (take n rs) w (length-take-le n rs l ∙ sym k) ∙ k

-- The numbers of action i, read with its number k as an index.
module _ (bytes : List ℕ) {i k : ℕ} (e : k ≡ i) (l : i < action_count bytes) where
  pub action_read : {p a d f c : ℕ} → p ≡ (action_at bytes k).pre → a ≡ (action_at bytes k).add → d ≡ (action_at bytes k).del
      → f ≡ (action_at bytes k).forbidden → c ≡ (action_at bytes k).cost
      → ◌≡◌ {A = Action} (record { pre = p; add = a; del = d; forbidden = f; cost = c }) (action_of (job_of bytes) i)
  action_read p a d f c = rw (action_of_lem bytes i l, ← e) (λ t. record { pre = p t; add = a t; del = d t; forbidden = f t; cost = c t })
