-- The normal form keeps the truth, or negates it; it is positive, changes nothing that is positive, and carries no more parts.
use mathlib.Core.Path.{◌≡◌, refl, sym, ap, ap₂, ◌∙◌}
use Prim.Native.Nat.{ℕ, ◌+◌, ◌≤◌}
use native.Mathlib.Omega.{arith}
use mathlib.Core.Bool.{Bool, true, false, not, ◌&&◌, ◌||◌, not-not, false≢true}
use mathlib.Core.List.{List, ◌∷◌}
use lib.Dec.{T}
use Rattle.model.specs.declared.Constant.TheVariants.{False, True, Last}
use Rattle.model.specs.declared.Unary.TheVariants.{Not, Next, Eventually, Always}
use Rattle.model.specs.declared.Binary.TheVariants.{And, Or, Until, Release}
use Rattle.model.specs.logic.Formula.{Formula, constant, fact, action, unary, binary}
use Rattle.model.specs.logic.Parts.{temporal, count}
use Rattle.model.specs.logic.Truth.{World, holds}
use Rattle.model.specs.logic.NormalForm.{nnf, is_literal, positive}
use Rattle.model.proofs.logic.TruthLaws.{not_and, not_or, next_same, next_not, some_same, all_same, some_not, all_not, until_same, release_same, until_not}
use Rattle.model.proofs.logic.TruthLaws.{release_not}

-- a truth, or its negation
abbrev pub signed : Bool → Bool → Bool
signed true t = t
signed false t = not t

-- wherever there is a world, the normal form has the truth of the formula, or of its negation
pub nnf_holds : (φ : Formula) (b : Bool) (w : World) (ws : List World) → holds (nnf φ b) (w ∷ ws) ≡ signed b (holds φ (w ∷ ws))
unfolding nnf holds
nnf_holds (constant c) true w ws = refl
nnf_holds (constant False) false w ws = refl
nnf_holds (constant True) false w ws = refl
nnf_holds (constant Last) false w ws = refl
nnf_holds (fact i) true w ws = refl
nnf_holds (fact i) false w ws = refl
nnf_holds (action a) true w ws = refl
nnf_holds (action a) false w ws = refl
nnf_holds (unary Not φ) true w ws = nnf_holds φ false w ws
nnf_holds (unary Not φ) false w ws = nnf_holds φ true w ws ∙ sym (not-not _)
nnf_holds (unary Next φ) true w ws = next_same (holds (nnf φ true)) (holds φ) (nnf_holds φ true) w ws
nnf_holds (unary Next φ) false w ws = next_not (holds (nnf φ false)) (holds φ) (nnf_holds φ false) w ws
nnf_holds (unary Eventually φ) true w ws = some_same (holds (nnf φ true)) (holds φ) (nnf_holds φ true) (w ∷ ws)
nnf_holds (unary Eventually φ) false w ws = all_not (holds (nnf φ false)) (holds φ) (nnf_holds φ false) (w ∷ ws)
nnf_holds (unary Always φ) true w ws = all_same (holds (nnf φ true)) (holds φ) (nnf_holds φ true) (w ∷ ws)
nnf_holds (unary Always φ) false w ws = some_not (holds (nnf φ false)) (holds φ) (nnf_holds φ false) (w ∷ ws)
nnf_holds (binary And φ ψ) true w ws = ap₂ ◌&&◌ (nnf_holds φ true w ws) (nnf_holds ψ true w ws)
nnf_holds (binary And φ ψ) false w ws = simp (nnf_holds φ false, nnf_holds ψ false, not_and)
nnf_holds (binary Or φ ψ) true w ws = ap₂ ◌||◌ (nnf_holds φ true w ws) (nnf_holds ψ true w ws)
nnf_holds (binary Or φ ψ) false w ws = simp (nnf_holds φ false, nnf_holds ψ false, not_or)
nnf_holds (binary Until φ ψ) true w ws =
    until_same (holds (nnf φ true)) (holds φ) (holds (nnf ψ true)) (holds ψ) (nnf_holds φ true) (nnf_holds ψ true) (w ∷ ws)
nnf_holds (binary Until φ ψ) false w ws =
    release_not (holds (nnf φ false)) (holds φ) (holds (nnf ψ false)) (holds ψ) (nnf_holds φ false) (nnf_holds ψ false) (w ∷ ws)
nnf_holds (binary Release φ ψ) true w ws =
    release_same (holds (nnf φ true)) (holds φ) (holds (nnf ψ true)) (holds ψ) (nnf_holds φ true) (nnf_holds ψ true) (w ∷ ws)
nnf_holds (binary Release φ ψ) false w ws =
    until_not (holds (nnf φ false)) (holds φ) (holds (nnf ψ false)) (holds ψ) (nnf_holds φ false) (nnf_holds ψ false) (w ∷ ws)

-- a normal form has not only before fact, action and last
pub nnf_positive : (φ : Formula) (b : Bool) → positive (nnf φ b) ≡ true
unfolding nnf positive
nnf_positive (constant c) true = refl
nnf_positive (constant False) false = refl
nnf_positive (constant True) false = refl
nnf_positive (constant Last) false = refl
nnf_positive (fact i) true = refl
nnf_positive (fact i) false = refl
nnf_positive (action a) true = refl
nnf_positive (action a) false = refl
nnf_positive (unary Not φ) true = nnf_positive φ false
nnf_positive (unary Not φ) false = nnf_positive φ true
nnf_positive (unary Next φ) true = nnf_positive φ true
nnf_positive (unary Next φ) false = nnf_positive φ false
nnf_positive (unary Eventually φ) true = nnf_positive φ true
nnf_positive (unary Eventually φ) false = nnf_positive φ false
nnf_positive (unary Always φ) true = nnf_positive φ true
nnf_positive (unary Always φ) false = nnf_positive φ false
nnf_positive (binary o φ ψ) true = ap₂ ◌&&◌ (nnf_positive φ true) (nnf_positive ψ true)
nnf_positive (binary And φ ψ) false = ap₂ ◌&&◌ (nnf_positive φ false) (nnf_positive ψ false)
nnf_positive (binary Or φ ψ) false = ap₂ ◌&&◌ (nnf_positive φ false) (nnf_positive ψ false)
nnf_positive (binary Until φ ψ) false = ap₂ ◌&&◌ (nnf_positive φ false) (nnf_positive ψ false)
nnf_positive (binary Release φ ψ) false = ap₂ ◌&&◌ (nnf_positive φ false) (nnf_positive ψ false)

and_left : (a b : Bool) → a && b ≡ true → a ≡ true
and_left true b e = refl
and_left false b e = e

and_right : (a b : Bool) → a && b ≡ true → b ≡ true
and_right true b e = e
and_right false b e = absurd (false≢true e)

keeps_literal : (φ : Formula) → is_literal φ ≡ true → nnf φ false ≡ unary Not φ
unfolding nnf
keeps_literal (constant False) e = absurd (false≢true e)
keeps_literal (constant True) e = absurd (false≢true e)
keeps_literal (constant Last) e = refl
keeps_literal (fact i) e = refl
keeps_literal (action a) e = refl
keeps_literal (unary o φ) e = absurd (false≢true e)
keeps_literal (binary o φ ψ) e = absurd (false≢true e)

-- "no other change is made": what is positive stays as it is
pub nnf_keeps : (φ : Formula) → positive φ ≡ true → nnf φ true ≡ φ
unfolding nnf positive
nnf_keeps (constant c) e = refl
nnf_keeps (fact i) e = refl
nnf_keeps (action a) e = refl
nnf_keeps (unary Not φ) e = keeps_literal φ e
nnf_keeps (unary Next φ) e = ap (unary Next) (nnf_keeps φ e)
nnf_keeps (unary Eventually φ) e = ap (unary Eventually) (nnf_keeps φ e)
nnf_keeps (unary Always φ) e = ap (unary Always) (nnf_keeps φ e)
nnf_keeps (binary o φ ψ) e = ap₂ (binary o) (nnf_keeps φ (and_left (positive φ) (positive ψ) e)) (nnf_keeps ψ (and_right (positive φ) (positive ψ) e))

-- a formula that begins with 21 to 24 has a normal form that does too
nnf_temporal : (φ : Formula) (b : Bool) → T (temporal φ) → T (temporal (nnf φ b))
unfolding nnf temporal
nnf_temporal (constant c) b t = absurd t
nnf_temporal (fact i) b t = absurd t
nnf_temporal (action a) b t = absurd t
nnf_temporal (unary Not φ) b t = absurd t
nnf_temporal (unary Next φ) b t = absurd t
nnf_temporal (unary Eventually φ) true t = t
nnf_temporal (unary Eventually φ) false t = t
nnf_temporal (unary Always φ) true t = t
nnf_temporal (unary Always φ) false t = t
nnf_temporal (binary o φ ψ) true t = t
nnf_temporal (binary And φ ψ) false t = absurd t
nnf_temporal (binary Or φ ψ) false t = absurd t
nnf_temporal (binary Until φ ψ) false t = t
nnf_temporal (binary Release φ ψ) false t = t

next_le : (a b : Bool) (m n : ℕ) → (T a → T b) → m ≤ n → (elim b [ true ↦ m | false ↦ 1 + m ]) ≤ (elim a [ true ↦ n | false ↦ 1 + n ])
next_le true true m n f h = h
next_le true false m n f h = absurd (f tt)
next_le false true m n f h = omega arith
next_le false false m n f h = omega arith

next_count : (φ : Formula) (b : Bool) → count (nnf φ b) ≤ count φ → count (unary Next (nnf φ b)) ≤ count (unary Next φ)
unfolding count
next_count φ b h = next_le (temporal φ) (temporal (nnf φ b)) (count (nnf φ b)) (count φ) (nnf_temporal φ b) h

-- the normal form carries no more parts than the formula
pub nnf_count : (φ : Formula) (b : Bool) → count (nnf φ b) ≤ count φ
unfolding nnf count
nnf_count (constant c) true = omega arith
nnf_count (constant False) false = omega arith
nnf_count (constant True) false = omega arith
nnf_count (constant Last) false = omega arith
nnf_count (fact i) true = omega arith
nnf_count (fact i) false = omega arith
nnf_count (action a) true = omega arith
nnf_count (action a) false = omega arith
nnf_count (unary Not φ) true = nnf_count φ false
nnf_count (unary Not φ) false = nnf_count φ true
nnf_count (unary Next φ) true = next_count φ true (nnf_count φ true)
nnf_count (unary Next φ) false = omega (arith, next_count φ false (nnf_count φ false))
nnf_count (unary Eventually φ) true = omega (arith, nnf_count φ true)
nnf_count (unary Eventually φ) false = omega (arith, nnf_count φ false)
nnf_count (unary Always φ) true = omega (arith, nnf_count φ true)
nnf_count (unary Always φ) false = omega (arith, nnf_count φ false)
nnf_count (binary And φ ψ) true = omega (arith, nnf_count φ true, nnf_count ψ true)
nnf_count (binary And φ ψ) false = omega (arith, nnf_count φ false, nnf_count ψ false)
nnf_count (binary Or φ ψ) true = omega (arith, nnf_count φ true, nnf_count ψ true)
nnf_count (binary Or φ ψ) false = omega (arith, nnf_count φ false, nnf_count ψ false)
nnf_count (binary Until φ ψ) true = omega (arith, nnf_count φ true, nnf_count ψ true)
nnf_count (binary Until φ ψ) false = omega (arith, nnf_count φ false, nnf_count ψ false)
nnf_count (binary Release φ ψ) true = omega (arith, nnf_count φ true, nnf_count ψ true)
nnf_count (binary Release φ ψ) false = omega (arith, nnf_count φ false, nnf_count ψ false)
