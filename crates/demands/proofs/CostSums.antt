-- The cost of a step list is at most 65,535 for each of its steps.
use mathlib.Core.Path.{refl}
use mathlib.Core.List.Memᴰ.{head as here, tail as there}
use mathlib.Core.List.{List, [], ◌∷◌}
use Prim.Native.Nat.{ℕ, zero, suc, ◌*◌, ◌≤◌, ◌<◌}
use native.Mathlib.Omega.{arith}
use native.Mathlib.Decide.{dec_lt}
use lib.ListN.{length, get_or, drop, get_or-eq_default}
use Rattle.model.specs.Bits.{number, number_at}
use Rattle.model.specs.job.Job.{Action, no_action, action_of, list_of}
use Rattle.model.specs.job.Layout.{action_count, cost_offset, action_at, job_of}
use Rattle.model.specs.task.Plan.{cost_of}
use Rattle.model.proofs.job.VerdictLaws.{length-list_of, get_or-list_of}
use Rattle.demands.specs.Demand2.{Bytes}

bytes_drop : (n : ℕ) (xs : List ℕ) → Bytes xs → Bytes (drop n xs)
bytes_drop zero xs h = h
bytes_drop (suc n) [] h = h
bytes_drop (suc n) (x ∷ xs) h = bytes_drop n xs (λ b m. h b (there m))

-- Two bytes make at most 65,535.
two_most : (xs : List ℕ) → Bytes xs → number 2 xs ≤ 65_535
unfolding number
two_most [] h = omega arith
two_most (b ∷ []) h = omega (arith, h b (here refl))
two_most (b ∷ c ∷ xs) h = omega (arith, h b (here refl), h c (there (here refl)))

module _ (job : List ℕ) (bytes : Bytes job) where
  at_most : (i : ℕ) → (action_at job i).cost ≤ 65_535
  unfolding action_at number_at
  at_most i = two_most (drop (cost_offset job i) job) (bytes_drop (cost_offset job i) job bytes)

  cost_most : (i : ℕ) → (action_of (job_of job) i).cost ≤ 65_535
  unfolding action_of job_of no_action
  cost_most i = go (dec_lt i (action_count job))
    where
      list : List Action
      list = list_of (action_at job) (action_count job)

      go : Dec (i < action_count job) → (get_or list i no_action).cost ≤ 65_535
      go (yes l) = rw (get_or-list_of (action_at job) (action_count job) i no_action l) (at_most i)
      go (no l) =
          let e : length list ≤ i = rw length-list_of (omega arith) in
          rw (get_or-eq_default list no_action e) (omega arith)

  pub cost_at_most : (p : List ℕ) → cost_of (job_of job) p ≤ 65_535 * length p
  unfolding cost_of
  cost_at_most [] = omega arith
  cost_at_most (i ∷ p) = omega (arith, cost_most i, cost_at_most p)
