-- Progression is right: the truth of a formula is that of its residual, at the parts' truth in what follows.
use mathlib.Core.Path.{◌≡◌, refl, sym, ap, ap₂, ◌∙◌}
use Prim.Native.Nat.{ℕ, suc, ◌+◌, ◌*◌, ◌^◌, ◌≤◌, ◌<◌}
use native.Mathlib.Nat.{zero-add, lt_of_lt_of_le}
use mathlib.Core.Bool.{Bool, not, ◌&&◌, ◌||◌}
use mathlib.Core.List.{List, [], ◌∷◌, ◌++◌}
use lib.ListN.{length}
use lib.Pow.{pow_mono}
use Rattle.model.specs.declared.Constant.TheVariants.{False, True, Last}
use Rattle.model.specs.declared.Unary.TheVariants.{Not, Next, Eventually, Always}
use Rattle.model.specs.declared.Binary.TheVariants.{And, Or, Until, Release}
use Rattle.model.specs.Bits.{bit, digit, bits_of}
use Rattle.model.specs.logic.Formula.{Formula, constant, fact, action, unary, binary}
use Rattle.model.specs.logic.Parts.{size, count, Part, parts, parts_of}
use Rattle.model.specs.logic.Truth.{World, holds}
use Rattle.model.specs.logic.Progression.{progress, residual, progressed, progressed_by, residual_holds, closing}
use Rattle.model.proofs.bits.Bits.{bit_of_bits}
use Rattle.model.proofs.bits.BitsOf.{bits_of_lt}
use Rattle.model.proofs.logic.PartsLaws.{Agree, Inside, inside, agree_left, agree_right, agree_next, agree_bits}

module _ (s : ℕ → Bool) (w v : World) (rest : List World) where
  -- a formula's truth before a world v is what `progress` makes of its parts' truth from v on
  progress_right : (φ : Formula) (n at : ℕ) → Agree s (v ∷ rest) n (parts φ n at) → holds φ (w ∷ v ∷ rest) ≡ progress φ n w s
  unfolding holds progress parts
  progress_right (constant False) n at h = refl
  progress_right (constant True) n at h = refl
  progress_right (constant Last) n at h = refl
  progress_right (fact i) n at h = refl
  progress_right (action a) n at h = refl
  progress_right (unary Not φ) n at h = ap not (progress_right φ n (suc at) h)
  progress_right (unary Next φ) n at h = sym (agree_next s (v ∷ rest) φ n at h)
  progress_right (unary Eventually φ) n at h = ap₂ ◌||◌ (progress_right φ (suc n) (suc at) h.1) (sym h.0)
  progress_right (unary Always φ) n at h = ap₂ ◌&&◌ (progress_right φ (suc n) (suc at) h.1) (sym h.0)
  progress_right (binary And φ ψ) n at h =
      ap₂ ◌&&◌ (progress_right φ n (suc at) (agree_left s (v ∷ rest) φ n (suc at) _ h))
      (progress_right ψ (n + count φ) (suc at + size φ) (agree_right s (v ∷ rest) φ n (suc at) _ h))
  progress_right (binary Or φ ψ) n at h =
      ap₂ ◌||◌ (progress_right φ n (suc at) (agree_left s (v ∷ rest) φ n (suc at) _ h))
      (progress_right ψ (n + count φ) (suc at + size φ) (agree_right s (v ∷ rest) φ n (suc at) _ h))
  progress_right (binary Until φ ψ) n at h =
      ap₂ ◌||◌ (progress_right ψ (suc n + count φ) (suc at + size φ) (agree_right s (v ∷ rest) φ (suc n) (suc at) _ h.1))
      (ap₂ ◌&&◌ (progress_right φ (suc n) (suc at) (agree_left s (v ∷ rest) φ (suc n) (suc at) _ h.1)) (sym h.0))
  progress_right (binary Release φ ψ) n at h =
      ap₂ ◌&&◌ (progress_right ψ (suc n + count φ) (suc at + size φ) (agree_right s (v ∷ rest) φ (suc n) (suc at) _ h.1))
      (ap₂ ◌||◌ (progress_right φ (suc n) (suc at) (agree_left s (v ∷ rest) φ (suc n) (suc at) _ h.1)) (sym h.0))

  -- each part's own progression is its truth one world earlier
  progress_parts : (ps : List Part) → Inside s (v ∷ rest) ps
      → bits_of (λ (p : Part). progress p.shape p.first w s) ps ≡ bits_of (λ (p : Part). holds p.shape (w ∷ v ∷ rest)) ps
  unfolding bits_of
  progress_parts [] h = refl
  progress_parts (p ∷ ps) h =
      ap₂ (λ (b : Bool) (x : ℕ). digit b + 2 * x) (sym (progress_right p.shape p.first p.position h.0)) (progress_parts ps h.1)

-- the setting of a formula's parts that is their truth on a list of worlds
truths : Formula → List World → ℕ
truths φ ws = bits_of (λ (p : Part). holds p.shape ws) (parts_of φ)

truths_agree : (φ : Formula) (ws : List World) → Agree (bit (truths φ ws)) ws 0 (parts φ 0 0)
unfolding truths parts_of
truths_agree φ ws = agree_bits ws (bit (truths φ ws)) (parts_of φ) 0 (λ i. ap (bit (truths φ ws)) (zero-add i))

-- for a formula of at most n parts
module _ (n : ℕ) (φ : Formula) (few : length (parts_of φ) ≤ n) where
  truths_lt : (ws : List World) → truths φ ws < 2 ^ n
  unfolding truths
  truths_lt ws = lt_of_lt_of_le (bits_of_lt _ (parts_of φ)) (pow_mono few)

  -- what a formula leaves after w is true from v on where the formula is true from w on
  pub residual_right : (w v : World) (rest : List World) → residual_holds (parts_of φ) (residual n φ w) (v ∷ rest) ≡ holds φ (w ∷ v ∷ rest)
  unfolding residual_holds residual truths
  residual_right w v rest =
      bit_of_bits (2 ^ n) _ (truths φ (v ∷ rest)) (truths_lt (v ∷ rest))
      ∙ sym (progress_right (bit (truths φ (v ∷ rest))) w v rest φ 0 0 (truths_agree φ (v ∷ rest)))

  -- what a residual leaves after w is true from v on where the residual is true from w on
  pub progressed_right : (r : ℕ) (w v : World) (rest : List World)
      → residual_holds (parts_of φ) (progressed n (parts_of φ) r w) (v ∷ rest) ≡ residual_holds (parts_of φ) r (w ∷ v ∷ rest)
  unfolding residual_holds progressed truths parts_of
  progressed_right r w v rest =
      let s : ℕ → Bool = bit (truths φ (v ∷ rest)) in
      bit_of_bits (2 ^ n) _ (truths φ (v ∷ rest)) (truths_lt (v ∷ rest))
      ∙ ap (bit r) (progress_parts s w v rest (parts_of φ) (inside s (v ∷ rest) φ 0 0 (truths_agree φ (v ∷ rest))))

  -- a residual carried through ws and judged in the closing world c is the residual judged on all of them
  pub progressed_by_right : (ws : List World) (r : ℕ) (c : World)
      → closing (parts_of φ) (progressed_by n (parts_of φ) r ws) c ≡ residual_holds (parts_of φ) r (ws ++ (c ∷ []))
  unfolding closing progressed_by
  progressed_by_right [] r c = refl
  progressed_by_right (w ∷ []) r c = progressed_right r w c []
  progressed_by_right (w ∷ v ∷ ws) r c = progressed_by_right (v ∷ ws) (progressed n (parts_of φ) r w) c ∙ progressed_right r w v (ws ++ (c ∷ []))

  -- a formula's truth on w, ws and the closing world c is that of its residual in c, carried from w through ws
  pub holds_by_residual : (w : World) (ws : List World) (c : World)
      → holds φ (w ∷ ws ++ (c ∷ [])) ≡ closing (parts_of φ) (progressed_by n (parts_of φ) (residual n φ w) ws) c
  holds_by_residual w [] c = sym (progressed_by_right [] _ c ∙ residual_right w c [])
  holds_by_residual w (v ∷ ws) c = sym (progressed_by_right (v ∷ ws) _ c ∙ residual_right w v (ws ++ (c ∷ [])))
