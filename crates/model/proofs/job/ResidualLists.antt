-- Lists of residuals: as many as formulas, each a table of 64 bits, and the conjunction bit by bit.
use mathlib.Core.Path.{◌≡◌, refl, ap}
use Prim.Native.Nat.{ℕ, zero, suc, ◌^◌, ◌<◌}
use native.Mathlib.Omega.{arith}
use mathlib.Core.Bool.{◌&&◌, and-false}
use mathlib.Core.List.{List, [], ◌∷◌}
use lib.ListN.{length, get_or}
use Rattle.model.specs.Bits.{bit}
use Rattle.model.specs.logic.Formula.{Formula}
use Rattle.model.specs.logic.Parts.{most_parts, parts_of}
use Rattle.model.specs.logic.Truth.{World}
use Rattle.model.specs.search.Node.{residuals, progressed_all, meet_all}
use Rattle.model.proofs.exploration.Each.{All}
use Rattle.model.proofs.bits.Bits.{bit_zero}
use Rattle.model.proofs.bits.Bitwise.{bit_and_lem, and_lt}
use Rattle.model.proofs.logic.ResidualLaws.{residual_lt, progressed_lt}

-- each a truth table of 64 bits
abbrev pub Words : List ℕ → Type 0
Words rs = All (λ r. r < 2 ^ 64) rs

pub words_get_or : (rs : List ℕ) → Words rs → (i : ℕ) → get_or rs i 0 < 2 ^ 64
words_get_or [] h i = omega arith
words_get_or (r ∷ rs) h zero = h.0
words_get_or (r ∷ rs) h (suc i) = words_get_or rs h.1 i

-- ---- what formulas leave after the first world

pub length-residuals : (φs : List Formula) (w : World) → length (residuals φs w) ≡ length φs
unfolding residuals
length-residuals [] w = refl
length-residuals (φ ∷ φs) w = ap suc (length-residuals φs w)

pub residuals_words : (φs : List Formula) (w : World) → Words (residuals φs w)
unfolding residuals
residuals_words [] w = tt
residuals_words (φ ∷ φs) w = (residual_lt most_parts φ w, residuals_words φs w)

-- ---- what residuals leave after a further world

pub length-progressed_all : (φs : List Formula) (rs : List ℕ) (w : World) → length rs ≡ length φs → length (progressed_all φs rs w) ≡ length φs
unfolding progressed_all
length-progressed_all [] rs w e = refl
length-progressed_all (φ ∷ φs) [] w e = e
length-progressed_all (φ ∷ φs) (r ∷ rs) w e = ap suc (length-progressed_all φs rs w (omega arith))

pub progressed_all_words : (φs : List Formula) (rs : List ℕ) (w : World) → Words (progressed_all φs rs w)
unfolding progressed_all
progressed_all_words [] rs w = tt
progressed_all_words (φ ∷ φs) [] w = tt
progressed_all_words (φ ∷ φs) (r ∷ rs) w = (progressed_lt most_parts (parts_of φ) r w, progressed_all_words φs rs w)

-- ---- the conjunction

pub length-meet_all : (rs qs : List ℕ) → length rs ≡ length qs → length (meet_all rs qs) ≡ length rs
unfolding meet_all
length-meet_all [] qs e = refl
length-meet_all (r ∷ rs) [] e = absurd (omega arith)
length-meet_all (r ∷ rs) (q ∷ qs) e = ap suc (length-meet_all rs qs (omega arith))

-- Bit k of number i of the conjunction is that of both lists together.
pub bit_meet_all : (rs qs : List ℕ) (i k : ℕ) → bit (get_or (meet_all rs qs) i 0) k ≡ bit (get_or rs i 0) k && bit (get_or qs i 0) k
unfolding meet_all
bit_meet_all [] qs i k = rw bit_zero
bit_meet_all (r ∷ rs) [] i k = rw (bit_zero, and-false)
bit_meet_all (r ∷ rs) (q ∷ qs) zero k = bit_and_lem r q k
bit_meet_all (r ∷ rs) (q ∷ qs) (suc i) k = bit_meet_all rs qs i k

pub meet_all_lt : (rs qs : List ℕ) → ((i : ℕ) → get_or rs i 0 < 2 ^ 64) → (i : ℕ) → get_or (meet_all rs qs) i 0 < 2 ^ 64
unfolding meet_all
meet_all_lt [] qs h i = omega arith
meet_all_lt (r ∷ rs) [] h i = omega arith
meet_all_lt (r ∷ rs) (q ∷ qs) h zero = and_lt 64 r q (h 0)
meet_all_lt (r ∷ rs) (q ∷ qs) h (suc i) = meet_all_lt rs qs (λ k. h (suc k)) i
