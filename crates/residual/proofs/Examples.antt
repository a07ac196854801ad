-- The truths of fact codes and the remainder by them, evaluated on a small formula.
use Rattle.std.proofs.Common.{◌≡◌, refl, ℕ, [], ◌∷◌, map, None, Some}
use Rattle.model.specs.declared.Unary.TheVariants.{Not}
use Rattle.model.specs.declared.Binary.TheVariants.{And, Until}
use Rattle.model.specs.logic.Formula.{Formula, fact, action, unary, binary, encode}
use Rattle.residual.specs.declared.facts.Reading.{Reading}
use Rattle.residual.specs.Facts.{fact_truths}
use Rattle.residual.specs.Pass.{read_code}
use Rattle.residual.specs.SameRemainder.{residual_by}

-- no fact 3 until fact 4 and action 3, in bytes 23 10 03 03 11 03 04 04 03: its fact codes stand at positions 2 and 5, so bits 1 and 2 are theirs
unfoldable rule : Formula
rule = binary Until (unary Not (fact 3)) (binary And (fact 4) (action 3))

-- the truths where no fact is true, where fact 3 is, fact 4, and both
truths : map (λ (s : ℕ). fact_truths rule 0 s) (0 ∷ 8 ∷ 16 ∷ 24 ∷ []) ≡ 0 ∷ 2 ∷ 4 ∷ 6 ∷ []
unfolding rule fact_truths
truths = refl

-- the pass, code by code, where fact 4 is true alone: past until, not, and the number of fact 3, then past and, to the truth of fact 4
unfoldable read_to : ℕ → Reading
unfolding rule encode read_code
read_to at = read_code (encode rule) 16 (record { truths = 0; at = at })

pass : map read_to (0 ∷ 1 ∷ 2 ∷ 4 ∷ 5 ∷ 7 ∷ [])
    ≡ record { truths = 0; at = 1 } ∷ record { truths = 0; at = 2 } ∷ record { truths = 0; at = 4 } ∷ record { truths = 0; at = 5 }
    ∷ record { truths = 4; at = 7 } ∷ record { truths = 0; at = 9 } ∷ []
unfolding read_to
pass = refl

-- the remainder by truths, a table of one unknown: dead where fact 3 is true, the rule itself where it is not, and true once fact 4 is and action 3 was made
remainders : residual_by 1 rule (record { truths = 2; made = Some 3 }) ∷ residual_by 1 rule (record { truths = 4; made = None })
    ∷ residual_by 1 rule (record { truths = 4; made = Some 3 }) ∷ []
    ≡ 0 ∷ 2 ∷ 3 ∷ []
unfolding rule residual_by
remainders = refl
