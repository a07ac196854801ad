-- Laws of the residuals of formulas in neighbouring sections, one formula more, and of those of a group.
use Rattle.std.proofs.Common.{◌≡◌, refl, sym, ap, ◌∙◌, ℕ, zero, suc, ◌+◌, ◌≤◌, ◌<◌, Bool, true, false, ◌&&◌, List, [], ◌∷◌, ◌++◌, length, take, get_or, set}
use Rattle.std.proofs.Common.{replicate, arith, add-one, take-suc, length-take-le}
use Rattle.std.proofs.Math.Bool.{and-false}
use native.Mathlib.Decide.{dec_lt}
use Rattle.model.specs.Verdict.{no_refusal}
use Rattle.model.specs.logic.Formula.{Formula}
use Rattle.model.specs.logic.Parts.{most_parts, parts_of}
use Rattle.model.specs.logic.Truth.{World}
use Rattle.model.specs.logic.Progression.{residual, progressed, closing}
use Rattle.model.specs.job.Job.{list_of}
use Rattle.model.specs.job.Layout.{constraint_count, hint_count, pair_count, formula_at, job_of}
use Rattle.model.specs.job.Decoding.{job_verdict}
use Rattle.model.specs.search.Node.{residuals, progressed_all, closing_all}
use Rattle.model.proofs.job.VerdictLaws.{length-list_of}
use Rattle.model.proofs.job.ResidualLists.{length-residuals, length-progressed_all}
use Rattle.progression.specs.declared.Group.{Group}
use Rattle.progression.specs.declared.Group.TheVariants.{Constraints, Hints}
use Rattle.progression.specs.declared.Sections.{Sections}
use Rattle.progression.specs.Padded.{padded, formulas_from, formulas_of, count_of, AreSections}
use Rattle.progression.proofs.Padding.{set_padded, padded_none}

-- ---- one formula more after others

module _ (φ : Formula) (w : World) where
  residuals_snoc : (φs : List Formula) → residuals (φs ++ (φ ∷ [])) w ≡ residuals φs w ++ (residual most_parts φ w ∷ [])
  unfolding residuals
  residuals_snoc [] = refl
  residuals_snoc (ψ ∷ φs) = ap (λ (l : List ℕ). residual most_parts ψ w ∷ l) (residuals_snoc φs)

  module _ (r : ℕ) where
    progressed_all_snoc : (φs : List Formula) (rs : List ℕ) → length rs ≡ length φs
        → progressed_all (φs ++ (φ ∷ [])) (rs ++ (r ∷ [])) w ≡ progressed_all φs rs w ++ (progressed most_parts (parts_of φ) r w ∷ [])
    unfolding progressed_all
    progressed_all_snoc [] [] e = refl
    progressed_all_snoc [] (q ∷ rs) e = absurd (omega arith)
    progressed_all_snoc (ψ ∷ φs) [] e = absurd (omega arith)
    progressed_all_snoc (ψ ∷ φs) (q ∷ rs) e = ap (λ (l : List ℕ). progressed most_parts (parts_of ψ) q w ∷ l) (progressed_all_snoc φs rs (omega arith))

    closing_all_snoc : (φs : List Formula) (rs : List ℕ) → length rs ≡ length φs
        → closing_all (φs ++ (φ ∷ [])) (rs ++ (r ∷ [])) w ≡ closing_all φs rs w && closing (parts_of φ) r w
    unfolding closing_all
    closing_all_snoc [] [] e = go (closing (parts_of φ) r w) refl
      where
        go : (b : Bool) → closing (parts_of φ) r w ≡ b → closing_all (φ ∷ []) (r ∷ []) w ≡ closing (parts_of φ) r w
        go true e = rw (e, closing_all)
        go false e = rw (e, closing_all)
    closing_all_snoc [] (q ∷ rs) e = absurd (omega arith)
    closing_all_snoc (ψ ∷ φs) [] e = absurd (omega arith)
    closing_all_snoc (ψ ∷ φs) (q ∷ rs) e = go (closing (parts_of ψ) q w) refl (closing_all_snoc φs rs (omega arith))
      where
        go : (b : Bool) → closing (parts_of ψ) q w ≡ b
            → closing_all (φs ++ (φ ∷ [])) (rs ++ (r ∷ [])) w ≡ closing_all φs rs w && closing (parts_of φ) r w
            → closing_all (ψ ∷ φs ++ (φ ∷ [])) (q ∷ rs ++ (r ∷ [])) w ≡ closing_all (ψ ∷ φs) (q ∷ rs) w && closing (parts_of φ) r w
        go true e ih = rw (e, closing_all) ih
        go false e ih = rw (e, closing_all) refl

-- ---- the formulas in sections

module _ (bytes : List ℕ) where
  pub constraints_from : (job_of bytes).constraints ≡ formulas_from bytes 1 (constraint_count bytes)
  unfolding job_of formulas_from
  constraints_from = refl

  pub hints_from : (job_of bytes).hints ≡ formulas_from bytes (1 + constraint_count bytes) (hint_count bytes)
  unfolding job_of formulas_from
  hints_from = refl

  module _ (from : ℕ) where
    length-formulas_from : (n : ℕ) → length (formulas_from bytes from n) ≡ n
    unfolding formulas_from
    length-formulas_from n = length-list_of _ n

    -- no formula: nothing is left of it
    pub nothing_first : (w : World) → replicate 8 0 ≡ padded (residuals (formulas_from bytes from 0) w)
    unfolding formulas_from list_of residuals
    nothing_first w = padded_none

    pub nothing_next : (w : World) → replicate 8 0 ≡ padded (progressed_all (formulas_from bytes from 0) [] w)
    unfolding formulas_from list_of progressed_all
    nothing_next w = padded_none

    pub nothing_closes : (w : World) → closing_all (formulas_from bytes from 0) [] w ≡ true
    unfolding formulas_from list_of closing_all
    nothing_closes w = refl

    formulas_from_more : (n : ℕ) → formulas_from bytes from (n + 1) ≡ formulas_from bytes from n ++ (formula_at bytes (from + n) ∷ [])
    unfolding formulas_from list_of
    formulas_from_more n = rw add-one

    -- ---- one entry more, as a loop stores it in the array t
    module _ (w : World) where
      pub first_more : (i x : ℕ) (t : List ℕ) → t ≡ padded (residuals (formulas_from bytes from i) w)
          → x ≡ residual most_parts (formula_at bytes (from + i)) w → i < 8
          → set t i x ≡ padded (residuals (formulas_from bytes from (i + 1)) w)
      first_more i x t e f l =
          rw (e, f, formulas_from_more, residuals_snoc) (set_padded _ i _ (length-residuals (formulas_from bytes from i) w ∙ length-formulas_from i) l)

      module _ (rs : List ℕ) where
        entries : (i : ℕ) → i ≤ length rs → length (take i rs) ≡ length (formulas_from bytes from i)
        entries i l = length-take-le i rs l ∙ sym (length-formulas_from i)

        pub next_more : (i x : ℕ) (t : List ℕ) → t ≡ padded (progressed_all (formulas_from bytes from i) (take i rs) w)
            → x ≡ progressed most_parts (parts_of (formula_at bytes (from + i))) (get_or rs i 0) w → i < 8 → i < length rs
            → set t i x ≡ padded (progressed_all (formulas_from bytes from (i + 1)) (take (i + 1) rs) w)
        next_more i x t e f l m =
            let p : take (i + 1) rs ≡ take i rs ++ (get_or rs i 0 ∷ []) = rw (add-one, take-suc rs i 0) in
            let q = entries i (omega arith) in
            rw (e, f, p, formulas_from_more, progressed_all_snoc _ _ _ _ _ q)
            (set_padded _ i _ (length-progressed_all (formulas_from bytes from i) (take i rs) w q ∙ length-formulas_from i) l)

        close_more : (i : ℕ) → i < length rs
            → closing_all (formulas_from bytes from (i + 1)) (take (i + 1) rs) w
            ≡ closing_all (formulas_from bytes from i) (take i rs) w && closing (parts_of (formula_at bytes (from + i))) (get_or rs i 0) w
        close_more i m =
            let p : take (i + 1) rs ≡ take i rs ++ (get_or rs i 0 ∷ []) = rw (add-one, take-suc rs i 0) in
            rw (p, formulas_from_more) (closing_all_snoc _ w _ _ _ (entries i (omega arith)))

        -- All of the first i are true of the closing world, and the next is too.
        pub close_on : (i : ℕ) → i < length rs → closing_all (formulas_from bytes from i) (take i rs) w ≡ true
            → closing (parts_of (formula_at bytes (from + i))) (get_or rs i 0) w ≡ true
            → closing_all (formulas_from bytes from (i + 1)) (take (i + 1) rs) w ≡ true
        close_on i m e f = close_more i m ∙ rw (e, f)

        -- One that is not true decides.
        pub close_not : (n i : ℕ) → n ≤ length rs → i < n → closing (parts_of (formula_at bytes (from + i))) (get_or rs i 0) w ≡ false
            → closing_all (formulas_from bytes from n) (take n rs) w ≡ false
        close_not zero i m l e = absurd (omega arith)
        close_not (suc n) i m l e = rw (← add-one n) (close_more n (omega arith) ∙ go (dec_lt i n) (close_not n i (omega arith)))
          where
            last : Bool
            last = closing (parts_of (formula_at bytes (from + n))) (get_or rs n 0) w

            go : Dec (i < n)
                → (i < n → closing (parts_of (formula_at bytes (from + i))) (get_or rs i 0) w ≡ false
                → closing_all (formulas_from bytes from n) (take n rs) w ≡ false)
                → closing_all (formulas_from bytes from n) (take n rs) w && last ≡ false
            go (yes a) ih = rw (ih a e)
            go (no a) ih = let q : n ≡ i = omega arith in rw (q, e, and-false)

  -- ---- the sections of a group
  pub constraints_are : (n : ℕ) → job_verdict bytes ≡ no_refusal → n ≡ constraint_count bytes → n ≤ 8
      → AreSections bytes Constraints (record { from = 1; count = n })
  unfolding pair_count count_of
  constraints_are n a e l = record {
    accepted = a;
    starts = omega arith;
    count = e;
    ends = omega arith;
    few = l;
    are = rw e (sym constraints_from);
  }

  pub hints_are : (m n : ℕ) → job_verdict bytes ≡ no_refusal → m ≡ constraint_count bytes → n ≡ hint_count bytes → n ≤ 8
      → AreSections bytes Hints (record { from = 1 + m; count = n })
  unfolding pair_count count_of
  hints_are m n a d e l = record {
    accepted = a;
    starts = omega arith;
    count = e;
    ends = omega arith;
    few = l;
    are = rw (d, e) (sym hints_from);
  }

  -- Where a group has none, nothing is left.
  pub none_next : {g : Group} {r : Sections} → AreSections bytes g r → r.count ≡ 0 → (rs : List ℕ) (w : World)
      → replicate 8 0 ≡ padded (progressed_all (formulas_of g (job_of bytes)) (take (count_of g bytes) rs) w)
  none_next s e rs w = rw (← s.are, ← s.count, e) (nothing_next _ w)
