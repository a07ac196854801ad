-- A plan has fewer steps than nodes are reached, since its path comes to no node twice.
use mathlib.Core.Path.{◌≡◌, refl, sym, ap, ◌∙◌, subst}
use mathlib.Core.Bool.{Bool, true, false}
use mathlib.Core.List.{List, [], ◌∷◌, ◌++◌}
use Prim.Native.Nat.{ℕ, suc, ◌≤◌, ◌<◌}
use native.Mathlib.Omega.{arith}
use lib.ListN.{length, length-append}
use Rattle.model.specs.job.Job.{Job}
use Rattle.model.specs.exploration.Key.{Key, zero_key, extend}
use Rattle.model.specs.exploration.System.{System}
use Rattle.model.specs.exploration.Equations.{unbounded, Answer, plan, Entries, Explores, Uncut, Path, begin, onward, Plan, Answers, with_plan, some_cut}
use Rattle.model.specs.exploration.Equations.{none_cut}
use Rattle.model.specs.exploration.Explore.{Of, reached}
use Rattle.model.specs.search.JobSystem.{system_of, solve_job, reached_count}
use Rattle.model.proofs.exploration.Laws.{Laws}
use Rattle.model.proofs.exploration.Each.{All, all_map}
use Rattle.model.proofs.exploration.Counting.{Apart}
use Rattle.model.proofs.exploration.Paths.{path_steps}
use Rattle.model.proofs.exploration.Solves.{reached_solves}
use Rattle.model.proofs.exploration.Answered.{solve_answers, reached_at_least}
use Rattle.model.proofs.job.Accepted.{ProperJob}
use Rattle.model.proofs.job.GuidedJob.{job_laws, job_finite}
use Rattle.demands.proofs.Results.{none_not_plan}

module _ (S : System) (laws : Laws S) {L : Entries S} (x : Explores S unbounded L) where
  -- the node is reached by at most n steps
  abbrev Early : ℕ → S.Node → Type 0
  Early n m = (k : Key) × (h : S.Hints) × L m k h × (k.steps ≤ n)

  -- A node that is reached by more steps is another one.
  other : {n : ℕ} {t : S.Node} {k : Key} → Uncut S L t k → n < k.steps → (m : S.Node) → Early n m → S.same t m ≡ false
  other {n} {t} {k} u l m e = go (S.same t m) refl
    where
      go : (b : Bool) → S.same t m ≡ b → S.same t m ≡ false
      go true d =
          let same = x.one u.1 (subst (λ (z : S.Node). L z e.0 e.1) (sym (laws.same_eq t m d)) e.2) in
          absurd (omega (arith, ap (λ (z : Key). z.steps) same.0, e.3))
      go false d = d

  -- the nodes of a path, the last first
  pub record Nodes (p : List ℕ) : Type 0 where
    pub nodes : List S.Node
    pub size : length nodes ≡ suc (length p)
    pub apart : Apart S.same nodes
    pub early : All (Early (length p)) nodes

  on_path : {p : List ℕ} {t : S.Node} {k : Key} → Path S L p t k → Nodes p
  unfolding zero_key
  on_path (begin {n = n} s u) = record {
    nodes = n ∷ [];
    size = refl;
    apart = (tt, tt);
    early = ((zero_key, u.0, u.1, omega arith), tt);
  }
  on_path (onward {p = p} {n = n} {k = k} i q b s u) =
      let before = on_path q in
      let steps = path_steps S (onward i q b s u) in
      let longer : length (p ++ (i ∷ [])) ≡ suc (length p) = length-append p (i ∷ []) ∙ omega arith in
      record {
        nodes = n ∷ before.nodes;
        size = omega (arith, before.size, longer);
        apart = (all_map _ _ (λ m e. other u (omega (arith, steps, longer)) m e) before.nodes before.early, before.apart);
        early = (
          (extend k (S.cost i), u.0, u.1, omega (arith, steps)),
          all_map _ _ (λ m e. (e.0, e.1, e.2, omega (arith, e.3, longer))) before.nodes before.early,
        );
      }

module _ (j : Job) (proper : ProperJob j) where
  abbrev S : System
  S = system_of j

  plan_of : {a : Answer} → Answers S (Of S (reached S)) a → {c : ℕ} {p : List ℕ} → a ≡ plan c p → Plan S (Of S (reached S)) c p
  plan_of (with_plan {c = d} {p = q} y) {c} {p} e =
      let a : d ≡ c = cc in
      let b : q ≡ p = cc in
      subst (λ (z : ℕ). Plan S (Of S (reached S)) z p) a (subst (Plan S (Of S (reached S)) d) b y)
  plan_of (some_cut g c) e = none_not_plan e
  plan_of (none_cut g c) e = none_not_plan e

  pub plan_short : {c : ℕ} {p : List ℕ} → solve_job j ≡ plan c p → length p < reached_count j
  unfolding solve_job reached_count
  plan_short e =
      let y = plan_of (solve_answers S (job_laws j) (job_finite j proper)) e in
      let n = on_path S (job_laws j) (reached_solves S (job_laws j) (job_finite j proper)) y.path in
      let most = reached_at_least S (job_laws j) n.nodes n.apart (all_map _ _ (λ m e. (e.0, e.1, e.2)) n.nodes n.early) in
      omega (arith, n.size, most)
