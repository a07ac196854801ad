-- The search evaluated: on job P, and on a rail with and without an estimate.
use Rattle.std.proofs.Common.{Option, None, Some}
use mathlib.Core.Path.{◌≡◌, refl}
use Prim.Native.Nat.{ℕ, zero, suc, ◌-◌, ◌*◌}
use mathlib.Core.Bool.{true, false}
use mathlib.Core.List.{[], ◌∷◌}
use lib.Dec.{eqb}
use Rattle.model.specs.exploration.System.{System}
use Rattle.model.specs.exploration.Equations.{plan}
use Rattle.model.specs.exploration.Guided.{kept}
use Rattle.model.specs.Cases.{P}
use Rattle.model.specs.job.Layout.{job_of}
use Rattle.model.specs.search.JobSystem.{system_of, start_node, next_node, is_goal, start_hints, carry_hints}
use Rattle.model.specs.search.Estimate.{estimate_of}
use Rattle.model.specs.search.Node.{same_node, meet_all, some_dead}
use Rattle.model.specs.job.Job.{action_of}
use Rattle.astar.specs.Search.{answered, too_small, search_in}

-- ---- job P: five slots are enough, four are not

five : search_in (system_of (job_of P)) 5 ≡ answered (plan 16 (0 ∷ 1 ∷ 2 ∷ []))
unfolding search_in kept P job_of same_node start_node action_of next_node is_goal estimate_of start_hints carry_hints meet_all some_dead
five = refl

four : search_in (system_of (job_of P)) 4 ≡ too_small
unfolding search_in kept P job_of same_node start_node action_of next_node is_goal estimate_of start_hints carry_hints meet_all some_dead
four = refl

-- ---- a rail: from position 10 to position 12, by an action that goes one up and costs 2, and one that goes one down and costs 1

abbrev move : ℕ → ℕ → Option ℕ
move n zero = Some (suc n)
move zero (suc a) = None
move (suc n) (suc a) = Some n

abbrev price : ℕ → ℕ
price zero = 2
price (suc a) = 1

abbrev rail : (ℕ → ℕ) → System
rail estimate = record {
  Node = ℕ;
  same = eqb;
  start = Some 10;
  actions = 2;
  cost = price;
  step = move;
  goal = eqb 12;
  estimate = estimate;
  Hints = Unit {0};
  start_hints = tt;
  carry = λ h n a. tt;
  Setting = Unit {0};
  true_at = λ h s. true;
  meet = λ g h. tt;
  cut = λ h. false;
  Proper = λ h. Unit {0};
  bound = 13;
}

-- Without an estimate the positions below the start are taken first, and seven slots are needed.
unguided : search_in (rail (λ n. 0)) 7 ≡ answered (plan 4 (0 ∷ 0 ∷ []))
unfolding search_in
unguided = refl

unguided_small : search_in (rail (λ n. 0)) 6 ≡ too_small
unfolding search_in
unguided_small = refl

-- With the cost that is left as its estimate, the search goes straight up: it gives the same plan in four slots.
guided : search_in (rail (λ n. 2 * (12 - n))) 4 ≡ answered (plan 4 (0 ∷ 0 ∷ []))
unfolding search_in
guided = refl
