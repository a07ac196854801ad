-- The formula of a section that is lent on, as the evaluator takes it.
use Rattle.std.proofs.Common.{◌≡◌, sym, ap, ◌∙◌, subst, ℕ, ◌≤◌, ◌<◌, true, not, List, length, arith}
use Rattle.model.specs.Verdict.{no_refusal}
use Rattle.model.specs.declared.Code.TheVariants.{Fact, Action}
use Rattle.model.specs.logic.Parts.{most_parts, count, parts_of}
use Rattle.model.specs.logic.Reading.{formula, parsed}
use Rattle.model.specs.logic.Names.{Names}
use Rattle.model.specs.logic.Truth.{World}
use Rattle.model.specs.logic.Progression.{progressed, dead, settled, closing}
use Rattle.model.specs.job.Layout.{pair_count, pair_length, section_bytes, formula_at}
use Rattle.model.specs.job.Decoding.{job_verdict}
use Rattle.model.proofs.logic.PartsLaws.{length-parts}
use Rattle.model.proofs.logic.SettledLaws.{settled_stays, settled_closing}
use Rattle.job.proofs.Accepted.{accepted_laid, accepted_formula}
use Rattle.residual.specs.Residual.{Ready, formula_of}
use Rattle.progression.specs.Numbers.{After}
use Rattle.progression.proofs.NumbersLaws.{NamesIn, read_named}

module _ (bytes : List ℕ) (h : job_verdict bytes ≡ no_refusal) (i : ℕ) (m : 1 ≤ i) (l : i < pair_count bytes) where
  few_parts : count (formula_at bytes i) ≤ most_parts
  unfolding parts_of
  few_parts = rw length-parts at (accepted_formula bytes h i m l).few_parts

  module _ (s : List ℕ) (e : s ≡ section_bytes bytes i) where
    read : parsed 64 64 s 0 ≡ formula (formula_at bytes i) (pair_length bytes i)
    read = ap (λ (x : List ℕ). parsed 64 64 x 0) e ∙ (accepted_formula bytes h i m l).read

    -- The evaluator can take it.
    pub lent_ready : Ready s (parsed 64 64 s 0)
    lent_ready =
        subst (Ready s) (sym read)
        (few_parts, sym (ap length e ∙ (accepted_formula bytes h i m l).size), (accepted_laid bytes h).few_bytes i m l)

    -- It takes it as the job's formula.
    pub lent_formula : formula_of (parsed 64 64 s 0) ≡ formula_at bytes i
    lent_formula = ap formula_of read

    -- The numbers after its codes have all that it names.
    pub lent_named : (f a : ℕ) → After Fact s f → After Action s a → Names f a (formula_at bytes i)
    lent_named f a hf ha = subst (NamesIn f a) read (read_named f a s hf ha)

  -- A residual that is the same at every setting stays as it is.
  pub settled_left : (r : ℕ) (w : World) → settled most_parts r ≡ true → progressed most_parts (parts_of (formula_at bytes i)) r w ≡ r
  settled_left = settled_stays most_parts (parts_of (formula_at bytes i)) (accepted_formula bytes h i m l).few_parts

  pub settled_closed : (r : ℕ) (w : World) → settled most_parts r ≡ true → closing (parts_of (formula_at bytes i)) r w ≡ not (dead r)
  settled_closed = settled_closing most_parts (parts_of (formula_at bytes i)) (accepted_formula bytes h i m l).few_parts

-- There are at most sixteen formulas.
pub few_sections : (bytes : List ℕ) → job_verdict bytes ≡ no_refusal → pair_count bytes ≤ 17
unfolding pair_count
few_sections bytes h = let l = accepted_laid bytes h in omega arith
