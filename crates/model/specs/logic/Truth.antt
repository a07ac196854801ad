-- Truth on a finite list of worlds, as a function: the formula is judged in the first world of the list, the last one is the closing world.
use Rattle.std.specs.Prelude.{ℕ, Bool, true, false, not, ◌&&◌, ◌||◌, List, [], ◌∷◌, eqb, Option, None, Some}
use Rattle.model.specs.declared.Constant.TheVariants.{False, True, Last}
use Rattle.model.specs.declared.Unary.TheVariants.{Not, Next, Eventually, Always}
use Rattle.model.specs.declared.Binary.TheVariants.{And, Or, Until, Release}
use Rattle.model.specs.Bits.{bit}
use Rattle.model.specs.logic.Formula.{Formula, constant, fact, action, unary, binary}

-- the facts, bit i being fact i, and the action that was made, if any
pub record World : Type 0 where
  pub state : ℕ
  pub made : Option ℕ

unfoldable pub is_made : Option ℕ → ℕ → Bool
is_made None a = false
is_made (Some b) a = eqb b a

-- a symbol's truth in the first world
unfoldable pub in_first : (World → Bool) → List World → Bool
in_first p [] = false
in_first p (w ∷ ws) = p w

-- "last is true there only": in the closing world
unfoldable pub is_last : List World → Bool
is_last [] = false
is_last (w ∷ []) = true
is_last (w ∷ v ∷ ws) = false

-- "Next is false in the closing world"
unfoldable pub on_next : (List World → Bool) → List World → Bool
on_next p [] = false
on_next p (w ∷ []) = false
on_next p (w ∷ v ∷ ws) = p (v ∷ ws)

-- p from some world on
unfoldable pub some_of : (List World → Bool) → List World → Bool
some_of p [] = false
some_of p (w ∷ ws) = p (w ∷ ws) || some_of p ws

-- p from every world on
unfoldable pub all_of : (List World → Bool) → List World → Bool
all_of p [] = true
all_of p (w ∷ ws) = p (w ∷ ws) && all_of p ws

-- q from some world on, and p from each before it
unfoldable pub some_until : (List World → Bool) → (List World → Bool) → List World → Bool
some_until p q [] = false
some_until p q (w ∷ ws) = q (w ∷ ws) || (p (w ∷ ws) && some_until p q ws)

-- q from every world on, up to and with the first of p
unfoldable pub all_unless : (List World → Bool) → (List World → Bool) → List World → Bool
all_unless p q [] = true
all_unless p q (w ∷ ws) = q (w ∷ ws) && (p (w ∷ ws) || all_unless p q ws)

unfoldable pub holds : Formula → List World → Bool
unfolding bit is_made in_first is_last on_next some_of all_of some_until all_unless
holds (constant False) ws = false
holds (constant True) ws = true
holds (constant Last) ws = is_last ws
holds (fact i) ws = in_first (λ w. bit w.state i) ws
holds (action a) ws = in_first (λ w. is_made w.made a) ws
holds (unary Not φ) ws = not (holds φ ws)
holds (unary Next φ) ws = on_next (λ r. holds φ r) ws
holds (unary Eventually φ) ws = some_of (λ r. holds φ r) ws
holds (unary Always φ) ws = all_of (λ r. holds φ r) ws
holds (binary And φ ψ) ws = holds φ ws && holds ψ ws
holds (binary Or φ ψ) ws = holds φ ws || holds ψ ws
holds (binary Until φ ψ) ws = some_until (λ r. holds φ r) (λ r. holds ψ r) ws
holds (binary Release φ ψ) ws = all_unless (λ r. holds φ r) (λ r. holds ψ r) ws

-- of every formula of a list
unfoldable pub all_hold : List Formula → List World → Bool
unfolding holds
all_hold [] ws = true
all_hold (φ ∷ φs) ws = elim (holds φ ws) [ true ↦ all_hold φs ws | false ↦ false ]
