-- "and the estimate counts only those": what the estimate's equations ask in the restricted job they ask in the job of the steps that may be used.
use mathlib.Core.Path.{◌≡◌, refl, sym, ap, ◌∙◌, subst}
use mathlib.Core.Logic.{◌↔◌}
use Prim.Native.Nat.{ℕ, ◌+◌, ◌≤◌, ◌<◌}
use mathlib.Core.Bool.{Bool, true, false, true≢false}
use lib.ListN.{length}
use Rattle.model.specs.Bits.{bit}
use Rattle.model.specs.job.Job.{Job, Action, action_of}
use Rattle.model.specs.job.Rights.{barred, restricted}
use Rattle.model.specs.search.MaxEstimate.{AtMost, Costs, Ready}
use Rattle.model.proofs.bits.Bits.{bit_zero}
use Rattle.model.proofs.rights.Steps.{length-restricted, action_usable, action_barred}

module _ (u : ℕ) (j : Job) (v : Costs) (f t : ℕ) where
  -- an action's cost plus its dearest needed fact is at most t
  abbrev By : Action → Type 0
  By a = (w : ℕ) × ((g : ℕ) → bit a.pre g ≡ true → AtMost (v g) w) × (a.cost + w ≤ t)

  -- Step i adds fact f at a cost of at most t in the restricted job exactly if it may be used and does so in the job.
  pub counts_usable : (i : ℕ) → ((i < length (restricted u j).actions) × (bit (action_of (restricted u j) i).add f ≡ true) × Ready (restricted u j) v i t)
      ↔ ((i < length j.actions) × (bit u i ≡ true) × (bit (action_of j i).add f ≡ true) × Ready j v i t)
  unfolding barred
  counts_usable i = (to, from)
    where
      to : (i < length (restricted u j).actions) × (bit (action_of (restricted u j) i).add f ≡ true) × Ready (restricted u j) v i t
          → (i < length j.actions) × (bit u i ≡ true) × (bit (action_of j i).add f ≡ true) × Ready j v i t
      to (l, a, r) = go (bit u i) refl
        where
          inside : i < length j.actions
          inside = rw length-restricted at l

          go : (b : Bool) → bit u i ≡ b → (i < length j.actions) × (bit u i ≡ true) × (bit (action_of j i).add f ≡ true) × Ready j v i t
          go true e = let p = action_usable u j i e in (inside, e, subst (λ (x : Action). bit x.add f ≡ true) p a, subst By p r)
          go false e = absurd (true≢false (sym a ∙ ap (λ (x : Action). bit x.add f) (action_barred u j i inside e) ∙ bit_zero f))

      from : (i < length j.actions) × (bit u i ≡ true) × (bit (action_of j i).add f ≡ true) × Ready j v i t
          → (i < length (restricted u j).actions) × (bit (action_of (restricted u j) i).add f ≡ true) × Ready (restricted u j) v i t
      from (l, e, a, r) =
          let p = sym (action_usable u j i e) in
          let m : i < length (restricted u j).actions = rw length-restricted l in
          (m, subst (λ (x : Action). bit x.add f ≡ true) p a, subst By p r)
