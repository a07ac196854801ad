-- Which section a constraint and a hint stand in.
use Rattle.std.proofs.Common.{◌≡◌, ℕ, ◌+◌, ◌<◌, add_assoc, Bool, List, get_or}
use Rattle.model.specs.Verdict.{Verdict, unless}
use Rattle.model.specs.declared.Constant.TheVariants.{True}
use Rattle.model.specs.logic.Formula.{constant}
use Rattle.model.specs.logic.Parts.{parts_of}
use Rattle.model.specs.logic.Progression.{closing}
use Rattle.model.specs.job.Layout.{constraint_count, hint_count, formula_at, job_of}
use Rattle.model.proofs.job.VerdictLaws.{get_or-list_of}
use Rattle.validate.specs.Walk.{still, closed_at}

module _ (bytes : List ℕ) where
  module _ (rs : List ℕ) (s i : ℕ) where
    -- Constraint i stands in section 1 + i.
    constraint_closed : i < constraint_count bytes
        → closing (parts_of (formula_at bytes (1 + i))) (get_or rs i 0) (still s) ≡ closed_at (job_of bytes).constraints rs s i
    unfolding closed_at job_of
    constraint_closed l = rw (get_or-list_of (λ k. formula_at bytes (1 + k)) (constraint_count bytes) i (constant True) l)

    -- The check of constraint i, where b is the code's test and v the verdict.
    pub constraint_checked : i < constraint_count bytes → {b : Bool} {v : Verdict} → b ≡ closing (parts_of (formula_at bytes (1 + i))) (get_or rs i 0) (still s)
        → v ≡ unless b 9 i → v ≡ unless (closed_at (job_of bytes).constraints rs s i) 9 i
    constraint_checked l t e = rw (← constraint_closed l, ← t) e

    -- Hint i stands after the constraints, whose number was read, and b is the code's test.
    pub hint_closed : {from : ℕ} → from ≡ constraint_count bytes → i < hint_count bytes → {b : Bool}
        → b ≡ closing (parts_of (formula_at bytes (1 + (from + i)))) (get_or rs i 0) (still s) → b ≡ closed_at (job_of bytes).hints rs s i
    unfolding closed_at job_of
    hint_closed e l t =
        rw (
          get_or-list_of (λ k. formula_at bytes (1 + constraint_count bytes + k)) (hint_count bytes) i (constant True) l,
          add_assoc 1 (constraint_count bytes) i,
          ← e,
        ) t
