-- The level at which the turns stop is the least at which all facts of the set can be built.
use Rattle.std.proofs.Common.{Option, None, Some}
use mathlib.Core.Path.{◌≡◌, refl}
use mathlib.Core.Logic.{◌↔◌}
use Prim.Native.Nat.{ℕ, zero, suc, ◌≤◌, ◌<◌}
use native.Mathlib.Omega.{arith}
use mathlib.Core.Bool.{Bool, true, false}
use mathlib.Core.List.{[]}
use lib.Bits.{bit_or}
use lib.ListN.{length}
use Rattle.model.specs.job.Job.{Job}
use Rattle.model.specs.task.State.{within}
use Rattle.model.specs.search.Estimate.{Ends, readied, Gain, soonest, level_from, level_of}
use Rattle.model.specs.search.MaxEstimate.{AtMost}
use Rattle.model.proofs.Tests.{none_some}
use Rattle.model.proofs.task.StateLaws.{within_facts}
use Rattle.model.proofs.estimate.Built.{stands, AllBuilt, later}
use Rattle.model.proofs.estimate.Soonest.{Soonest, soonest_is}
use Rattle.model.proofs.estimate.Useful.{useful, useful_le}
use Rattle.model.proofs.estimate.Turn.{Level, never_built, next_level, less_useful}

module _ (j : Job) where
  abbrev A : ℕ
  A = length j.actions

  module _ (s goal : ℕ) where
    -- A level is the least at which all facts of the goal can be built; where there is none, they cannot be.
    abbrev pub Least : Option ℕ → Type 0
    Least None = (t : ℕ) → AllBuilt j s goal t → ⊥
    Least (Some l) = AllBuilt j s goal l × ((t : ℕ) → AllBuilt j s goal t → l ≤ t)

    -- what the turns from a level on, n of them, come to
    abbrev From : ℕ → ℕ → ℕ → Ends → Type 0
    From n built level ends = Least (level_from j n goal built level ends)

    level_right : (n : ℕ) {built level : ℕ} {ends : Ends} → Level j s goal built level ends → useful j built A < n → From n built level ends
    unfolding level_from
    level_right zero v l = absurd (omega arith)
    level_right (suc n) {built} {level} {ends} v l =
        go (within goal built) refl (soonest j built now A) refl (soonest_is j built now A) (λ b x w m. level_right n {built = b} {level = x} {ends = now} w m)
      where
        now : Ends
        now = readied j built level ends

        go : (w : Bool) → within goal built ≡ w → (o : Option Gain) → soonest j built (readied j built level ends) A ≡ o
            → Soonest j built (readied j built level ends) A (soonest j built (readied j built level ends) A)
            → ((b x : ℕ) → Level j s goal b x (readied j built level ends) → useful j b A < n → From n b x (readied j built level ends))
            → From (suc n) built level ends
        go true w o e is ih = rw (w, level_from) (λ g p. v.sound g ((within_facts goal built).0 w g p), v.due)
        go false w None e is ih = rw (w, level_from, e) (never_built j v w (rw e at is))
        go false w (Some g) e is ih =
            let z = rw e at is in
            rw (w, level_from, e) (ih (bit_or built g.adds) g.level (next_level j v w g z) (omega (arith, less_useful j v w g z)))

    start_level : Level j s goal s 0 []
    start_level = record {
      sound = λ f h. stands h;
      from = λ f h. h;
      timed = λ i e l h. none_some h;
      low = λ f t o b. omega arith;
      unready = λ i l h t b. omega arith;
      due = λ t b. omega arith;
    }

    pub level_is : Least (level_of j goal s)
    unfolding level_of
    level_is = level_right (suc A) start_level (omega (arith, useful_le j s A))

  -- It is at most t exactly if all facts of the goal can be built at t.
  pub level_most : (goal s t : ℕ) → AtMost (level_of j goal s) t ↔ AllBuilt j s goal t
  level_most goal s t = go (level_of j goal s) (level_is s goal)
    where
      go : (o : Option ℕ) → Least s goal o → AtMost o t ↔ AllBuilt j s goal t
      go None r = (λ e. absurd e, λ b. r t b)
      go (Some l) r = (λ e g p. later j (r.0 g p) e, r.1 t)
