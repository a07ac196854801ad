-- Progression (source document 003, figure 1): what a formula leaves after a world that is not the closing one. Document 01 calls what is
-- left a remainder; here it is a residual.
use Rattle.std.specs.Prelude.{ℕ, suc, ◌+◌, ◌-◌, ◌^◌, Bool, true, false, not, ◌&&◌, ◌||◌, List, [], ◌∷◌, eqb}
use Rattle.model.specs.declared.Constant.TheVariants.{False, True, Last}
use Rattle.model.specs.declared.Unary.TheVariants.{Not, Next, Eventually, Always}
use Rattle.model.specs.declared.Binary.TheVariants.{And, Or, Until, Release}
use Rattle.model.specs.Bits.{bit, of_bits, bits_of}
use Rattle.model.specs.logic.Formula.{Formula, constant, fact, action, unary, binary}
use Rattle.model.specs.logic.Parts.{count, Part}
use Rattle.model.specs.logic.Truth.{World, is_made, holds}

-- "A remainder is a truth function of the rule's carried parts. Each part stands in it as an unknown": the truth of what a formula leaves
-- after the world w, where part i has the truth s i and n is the number of the formula's first part.
unfoldable pub progress : Formula → ℕ → World → (ℕ → Bool) → Bool
unfolding bit is_made count
progress (constant False) n w s = false
progress (constant True) n w s = true
progress (constant Last) n w s = false
progress (fact i) n w s = bit w.state i
progress (action a) n w s = is_made w.made a
progress (unary Not φ) n w s = not (progress φ n w s)
-- "the remainder of next ψ is ψ"
progress (unary Next φ) n w s = s n
progress (unary Eventually φ) n w s = progress φ (suc n) w s || s n
progress (unary Always φ) n w s = progress φ (suc n) w s && s n
progress (binary And φ ψ) n w s = progress φ n w s && progress ψ (n + count φ) w s
progress (binary Or φ ψ) n w s = progress φ n w s || progress ψ (n + count φ) w s
progress (binary Until φ ψ) n w s = progress ψ (suc n + count φ) w s || (progress φ (suc n) w s && s n)
progress (binary Release φ ψ) n w s = progress ψ (suc n + count φ) w s && (progress φ (suc n) w s || s n)

-- Residuals are numbers, truth tables for at most n parts: bit k is the truth at the setting whose part i is bit i of k. So "two remainders
-- are the same if every setting of these parts gives them the same truth": if they are the same number.
unfoldable pub residual : ℕ → Formula → World → ℕ
unfolding of_bits progress bit
residual n φ w = of_bits (2 ^ n) (λ k. progress φ 0 w (bit k))

-- "after the next world it is replaced by its own remainder"
unfoldable pub progressed : ℕ → List Part → ℕ → World → ℕ
unfolding of_bits progress bit bits_of
progressed n ps r w = of_bits (2 ^ n) (λ k. bit r (bits_of (λ (p : Part). progress p.shape p.first w (bit k)) ps))

-- what is left of a residual after worlds, none of them the closing one
unfoldable pub progressed_by : ℕ → List Part → ℕ → List World → ℕ
unfolding progressed
progressed_by n ps r [] = r
progressed_by n ps r (w ∷ ws) = progressed_by n ps (progressed n ps r w) ws

-- "a remainder is dead if all give false"
unfoldable pub dead : ℕ → Bool
dead r = eqb r 0

-- the table of n parts that is true at every setting
abbrev pub all_true : ℕ → ℕ
all_true n = 2 ^ (2 ^ n) - 1

-- the same at every setting: no world changes it any more
unfoldable pub settled : ℕ → ℕ → Bool
unfolding dead
settled n r = dead r || eqb r (all_true n)

-- a residual's truth where the parts have their truth on a list of worlds
unfoldable pub residual_holds : List Part → ℕ → List World → Bool
unfolding bit bits_of holds
residual_holds ps r ws = bit r (bits_of (λ (p : Part). holds p.shape ws) ps)

-- "true of the closing world alone"
unfoldable pub closing : List Part → ℕ → World → Bool
unfolding residual_holds
closing ps r w = residual_holds ps r (w ∷ [])
