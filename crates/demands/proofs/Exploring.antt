-- Demand 2, accepted jobs: sections are encodings, rules and hints are read right, and the nodes reached solve the equations.
use Rattle.std.proofs.Common.{Option, None, Some}
use mathlib.Core.Path.{◌≡◌, refl, sym, ap, ◌∙◌}
use mathlib.Core.Bool.{false, true≢false}
use mathlib.Core.Logic.{◌⊎◌, inl, inr}
use mathlib.Core.List.Memᴰ
use mathlib.Core.List.{List, [], ◌∷◌, map, Memᴰ}
use Prim.Native.Nat.{ℕ, ◌+◌, ◌≤◌, ◌<◌}
use lib.ListN.{length, length-map}
use Rattle.model.specs.logic.Formula.{Formula, encode}
use Rattle.model.specs.logic.Parts.{most_parts, parts_of}
use Rattle.model.specs.job.Job.{Job}
use Rattle.model.specs.job.Layout.{fact_count, action_count, constraint_count, hint_count, pair_offset, section_bytes, formula_in, formula_at, job_of}
use Rattle.model.specs.exploration.Equations.{Answer, Entries, Explores, unbounded, Answers}
use Rattle.model.specs.exploration.System.{System}
use Rattle.model.specs.exploration.Explore.{Entry, Of, reached}
use Rattle.model.specs.search.Node.{Node}
use Rattle.model.specs.search.JobSystem.{system_of, solve_job, reached_count}
use Rattle.model.specs.calls.Call.{Call, caller_job}
use Rattle.model.proofs.calls.CallLaws.{call_proper}
use Rattle.model.proofs.logic.EncodingLaws.{section_encode}
use Rattle.model.proofs.exploration.Laws.{Laws, Finite}
use Rattle.model.proofs.exploration.Each.{All, all_at}
use Rattle.model.proofs.exploration.Arrivals.{new_apart}
use Rattle.model.proofs.exploration.Invariant.{Distinct}
use Rattle.model.proofs.exploration.Fuel.{reached_none, reached_inv}
use Rattle.model.proofs.exploration.Solves.{reached_solves}
use Rattle.model.proofs.exploration.Answered.{solve_answers, answer_is}
use Rattle.model.proofs.job.Accepted.{ProperJob, accepted_proper, section_fine, each_formula}
use Rattle.model.proofs.job.GuidedJob.{job_laws, job_finite}
use Rattle.demands.specs.Demand1.{Accepted, Taken}
use Rattle.demands.specs.Demand2.{nodes_of, Different, ReadsRule, ReadsJob, Explored}
use Rattle.demands.proofs.RuleReading.{reads_rule}
use Rattle.demands.proofs.ReadingThrough.{allowed_is_plan}

module _ (j : Job) (proper : ProperJob j) where
  abbrev S : System
  S = system_of j

  laws : Laws S
  laws = job_laws j

  finite : Finite S
  finite = job_finite j proper

  -- A node that no entry of the list has is none of the entries' nodes.
  not_among : (n : Node) (es : List (Entry S)) → All (λ e. S.same n e.node ≡ false) es → Memᴰ n (map (λ (e : Entry S). e.node) es) → ⊥
  not_among n [] h m = Memᴰ.not-nil m
  not_among n (e ∷ es) h m = go (Memᴰ.cases_cons m) (not_among n es h.1)
    where
      go : (n ≡ e.node) ⊎ Memᴰ n (map (λ (x : Entry S). x.node) es) → (Memᴰ n (map (λ (x : Entry S). x.node) es) → ⊥) → ⊥
      go (inl d) ih = true≢false (sym (laws.same_refl n) ∙ ap (S.same n) d ∙ h.0)
      go (inr k) ih = ih k

  distinct_nodes : (es : List (Entry S)) → Distinct S es → Different (map (λ (e : Entry S). e.node) es)
  distinct_nodes [] d = tt
  distinct_nodes (e ∷ es) d = (not_among e.node es (new_apart S es e d.0), distinct_nodes es d.1)

  different_nodes : Different (nodes_of j)
  different_nodes = distinct_nodes (reached S) (go S.start refl)
    where
      go : (o : Option Node) → S.start ≡ o → Distinct S (reached S)
      go None e = rw (reached_none S e) tt
      go (Some m) e = (reached_inv S laws finite e).0.distinct

module _ (job : List ℕ) (fine : Accepted job) where
  abbrev j : Job
  j = job_of job

  proper : ProperJob j
  proper = accepted_proper job fine

  encodes : (i : ℕ) → i < constraint_count job + hint_count job → section_bytes job (1 + i) ≡ encode (formula_at job (1 + i))
  unfolding formula_in
  encodes i l =
      let s = (section_fine job (pair_offset job (1 + i)) (1 + i) (each_formula job fine i l)).0 in
      section_encode (fact_count job) (action_count job) (section_bytes job (1 + i)) (formula_at job (1 + i)) s.0 s.1

  -- A formula of a list in which each has few parts is read right.
  read_from : (φs : List Formula) → All (λ φ. length (parts_of φ) ≤ most_parts) φs → (φ : Formula) → Memᴰ φ φs → ReadsRule φ
  read_from φs h φ m = reads_rule φ (all_at (λ ψ. length (parts_of ψ) ≤ most_parts) φs m h)

  pub reads_job : ReadsJob job
  reads_job = record {
    encoded = encodes;
    rules_read = read_from j.constraints proper.constraint_parts;
    hints_read = read_from j.hints proper.hint_parts;
    allowed_is = allowed_is_plan j;
  }

module _ (call : Call) (taken : Taken call) where
  abbrev k : Job
  k = caller_job call

  proper_k : ProperJob k
  proper_k = call_proper call taken

  answers_job : Answers (system_of k) (Of (system_of k) (reached (system_of k))) (solve_job k)
  unfolding solve_job
  answers_job = solve_answers (system_of k) (job_laws k) (job_finite k proper_k)

  only_answer : (L : Entries (system_of k)) → Explores (system_of k) unbounded L → {a : Answer} → Answers (system_of k) L a → solve_job k ≡ a
  unfolding solve_job
  only_answer L x w = answer_is (system_of k) (job_laws k) (job_finite k proper_k) L x w

  as_counted : reached_count k ≡ length (nodes_of k)
  unfolding reached_count
  as_counted = sym (length-map (reached (system_of k)) (λ (e : Entry (system_of k)). e.node))

  pub explored : Explored call
  explored = record {
    solves = reached_solves (system_of k) (job_laws k) (job_finite k proper_k);
    different = different_nodes k proper_k;
    counted = as_counted;
    answer = answers_job;
    only = only_answer;
  }
