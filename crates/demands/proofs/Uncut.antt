-- Where no node was cut, every run is explored: so 12 says that no plan is allowed, whatever the hints are.
use mathlib.Core.Path.{◌≡◌, refl}
use mathlib.Core.Bool.{Bool, true, false}
use mathlib.Core.List.{List}
use Prim.Native.Nat.{ℕ}
use native.Mathlib.Omega.{arith}
use Rattle.model.specs.job.Job.{Job}
use Rattle.model.specs.task.Plan.{allowed}
use Rattle.model.specs.exploration.Key.{Key}
use Rattle.model.specs.exploration.System.{System}
use Rattle.model.specs.exploration.Equations.{unbounded, Answer, no_plan, Entries, Explores, NoGoal, SomeCut, Answers, with_plan, some_cut, none_cut}
use Rattle.model.specs.exploration.Explore.{Of, reached}
use Rattle.model.specs.search.JobSystem.{system_of, solve_job}
use Rattle.model.proofs.exploration.Stepping.{arrives_by}
use Rattle.model.proofs.exploration.Runs.{Run, stop, on}
use Rattle.model.proofs.exploration.Solves.{reached_solves}
use Rattle.model.proofs.exploration.Answered.{solve_answers}
use Rattle.model.proofs.job.Accepted.{ProperJob}
use Rattle.model.proofs.job.GuidedJob.{job_laws, job_finite, allowed_run}
use Rattle.demands.proofs.Results.{plan_not_none}

module _ (S : System) {L : Entries S} (x : Explores S unbounded L) (whole : SomeCut S L → ⊥) where
  not_cut : {n : S.Node} {k : Key} {h : S.Hints} → L n k h → S.cut h ≡ false
  not_cut {n} {k} {h} l = go (S.cut h) refl
    where
      go : (b : Bool) → S.cut h ≡ b → S.cut h ≡ false
      go true e = absurd (whole (n, k, h, l, e))
      go false e = e

  -- A run from a reached node ends at a reached node.
  run_reached : {m t : S.Node} {i j : Key} {p : List ℕ} → Run S m i p t j → {k : Key} {h : S.Hints} → L m k h → (c : Key) × (g : S.Hints) × L t c g
  run_reached stop {k} {h} l = (k, h, l)
  run_reached (on {m = m} {n = n} i b s r) {k} {h} l =
      run_reached r (x.complete tt (arrives_by S L i l b (not_cut l) s)).2

twelve_whole : (S : System) {L : Entries S} {a : Answer} → Answers S L a → a ≡ no_plan 12 → NoGoal S L × (SomeCut S L → ⊥)
twelve_whole S (with_plan y) e = plan_not_none e
twelve_whole S (some_cut g c) e = let z : ◌≡◌ {A = ℕ} 11 12 = cc in absurd (omega arith)
twelve_whole S (none_cut g c) e = (g, c)

module _ (j : Job) (proper : ProperJob j) where
  abbrev S : System
  S = system_of j

  solved : solve_job j ≡ no_plan 12 → NoGoal S (Of S (reached S)) × (SomeCut S (Of S (reached S)) → ⊥)
  unfolding solve_job
  solved e = twelve_whole S (solve_answers S (job_laws j) (job_finite j proper)) e

  pub twelve_none : solve_job j ≡ no_plan 12 → (q : List ℕ) → allowed j q ≡ true → ⊥
  twelve_none e q a =
      let w = solved e in
      let x = reached_solves S (job_laws j) (job_finite j proper) in
      let r = allowed_run j proper q a in
      let t = run_reached S x w.1 r.3 (x.start r.2) in
      w.0 r.1 t.0 (t.1, t.2, not_cut S x w.1 t.2) r.4
