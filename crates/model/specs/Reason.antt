-- The numbers of the reasons for a refusal: those of document 01's table, and 14 and 15 of card 4.
use Rattle.std.specs.Prelude.{◌≡◌, refl, ℕ, cond, eqb}
use Rattle.model.specs.declared.Reason.{Reason}
use Rattle.model.specs.declared.Reason.TheVariants.{BadHead, BadPair, BadTask, BadFormula, ManyParts, BadStep, NotApplicable, GoalMissing, RuleNotMet}
use Rattle.model.specs.declared.Reason.TheVariants.{TableTooSmall, NoPlanCut, NoPlan, BufferTooShort, BadNeeds, NoRight}

abbrev pub number_of : Reason → ℕ
number_of BadHead = 1
number_of BadPair = 2
number_of BadTask = 3
number_of BadFormula = 4
number_of ManyParts = 5
number_of BadStep = 6
number_of NotApplicable = 7
number_of GoalMissing = 8
number_of RuleNotMet = 9
number_of TableTooSmall = 10
number_of NoPlanCut = 11
number_of NoPlan = 12
number_of BufferTooShort = 13
number_of BadNeeds = 14
number_of NoRight = 15

-- the reason of a number
unfoldable pub reason_of : ℕ → Reason
reason_of n =
    cond (eqb n 1) BadHead (cond (eqb n 2) BadPair (cond (eqb n 3) BadTask (cond (eqb n 4) BadFormula (cond (eqb n 5) ManyParts
    (cond (eqb n 6) BadStep (cond (eqb n 7) NotApplicable (cond (eqb n 8) GoalMissing (cond (eqb n 9) RuleNotMet
    (cond (eqb n 10) TableTooSmall (cond (eqb n 11) NoPlanCut (cond (eqb n 12) NoPlan (cond (eqb n 13) BufferTooShort
    (cond (eqb n 14) BadNeeds NoRight)))))))))))))

-- no two reasons have one number
pub reason_is : (r : Reason) → reason_of (number_of r) ≡ r
unfolding reason_of
reason_is BadHead = refl
reason_is BadPair = refl
reason_is BadTask = refl
reason_is BadFormula = refl
reason_is ManyParts = refl
reason_is BadStep = refl
reason_is NotApplicable = refl
reason_is GoalMissing = refl
reason_is RuleNotMet = refl
reason_is TableTooSmall = refl
reason_is NoPlanCut = refl
reason_is NoPlan = refl
reason_is BufferTooShort = refl
reason_is BadNeeds = refl
reason_is NoRight = refl
