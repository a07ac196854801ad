-- What a formula of c parts leaves depends on these parts only, so two residuals of it are the same if all settings of these parts give them the
-- same truth.
use mathlib.Core.Path.{◌≡◌, refl, sym, ap, ap₂, ◌∙◌}
use Prim.Native.Nat.{ℕ, suc, ◌+◌, ◌*◌, ◌^◌, ◌≤◌, ◌<◌}
use native.Mathlib.Omega.{arith}
use native.Mathlib.Nat.{lt_of_lt_of_le}
use mathlib.Core.Bool.{Bool, true, false, not, ◌&&◌, ◌||◌}
use mathlib.Core.List.{List, [], ◌∷◌, ◌++◌}
use lib.Pow.{pow_mono}
use Rattle.model.specs.declared.Constant.TheVariants.{False, True, Last}
use Rattle.model.specs.declared.Unary.TheVariants.{Not, Next, Eventually, Always}
use Rattle.model.specs.declared.Binary.TheVariants.{And, Or, Until, Release}
use Rattle.model.specs.Bits.{bit, digit, of_bits, bits_of}
use Rattle.model.specs.logic.Formula.{Formula, constant, fact, action, unary, binary}
use Rattle.model.specs.logic.Parts.{size, count, temporal, Part, parts, parts_of}
use Rattle.model.specs.logic.Truth.{World}
use Rattle.model.specs.logic.Progression.{progress, residual, progressed, progressed_by}
use Rattle.model.specs.logic.OwnParts.{OwnParts}
use Rattle.model.proofs.bits.Bits.{of_bits_lt, bit_of_bits, bits_ext}
use Rattle.model.proofs.logic.ResidualLaws.{progressed_lt}

-- what begins with 21 to 24 is a part
some_part : (φ : Formula) → temporal φ ≡ true → 1 ≤ count φ
unfolding temporal count
some_part (constant c) t = let y : ◌≡◌ {A = ℕ} 0 1 = cc in absurd (omega arith)
some_part (fact i) t = let y : ◌≡◌ {A = ℕ} 0 1 = cc in absurd (omega arith)
some_part (action a) t = let y : ◌≡◌ {A = ℕ} 0 1 = cc in absurd (omega arith)
some_part (unary Not φ) t = let y : ◌≡◌ {A = ℕ} 0 1 = cc in absurd (omega arith)
some_part (unary Next φ) t = let y : ◌≡◌ {A = ℕ} 0 1 = cc in absurd (omega arith)
some_part (unary Eventually φ) t = omega arith
some_part (unary Always φ) t = omega arith
some_part (binary And φ ψ) t = let y : ◌≡◌ {A = ℕ} 0 1 = cc in absurd (omega arith)
some_part (binary Or φ ψ) t = let y : ◌≡◌ {A = ℕ} 0 1 = cc in absurd (omega arith)
some_part (binary Until φ ψ) t = omega arith
some_part (binary Release φ ψ) t = omega arith

-- a next has a part, and all of its operand's
next_count : (φ : Formula) → (1 ≤ count (unary Next φ)) × (count φ ≤ count (unary Next φ))
unfolding count
next_count φ = go (temporal φ) refl
  where
    go : (b : Bool) → temporal φ ≡ b → (1 ≤ count (unary Next φ)) × (count φ ≤ count (unary Next φ))
    go true e = rw (e, count) (some_part φ e, omega arith)
    go false e = rw (e, count) (omega arith, omega arith)

module _ (s t : ℕ → Bool) where
  -- the settings agree on c parts from n on
  abbrev Agree : ℕ → ℕ → Type 0
  Agree n c = (i : ℕ) → n ≤ i → i < n + c → s i ≡ t i

  -- what a formula leaves is true or false by its own parts
  progress_own : (φ : Formula) (n : ℕ) (w : World) → Agree n (count φ) → progress φ n w s ≡ progress φ n w t
  unfolding progress count
  progress_own (constant False) n w h = refl
  progress_own (constant True) n w h = refl
  progress_own (constant Last) n w h = refl
  progress_own (fact i) n w h = refl
  progress_own (action a) n w h = refl
  progress_own (unary Not φ) n w h = ap not (progress_own φ n w h)
  progress_own (unary Next φ) n w h = h n (omega arith) (omega (arith, (next_count φ).0))
  progress_own (unary Eventually φ) n w h = ap₂ ◌||◌ (progress_own φ (suc n) w (λ i a b. h i (omega arith) (omega arith))) (h n (omega arith) (omega arith))
  progress_own (unary Always φ) n w h = ap₂ ◌&&◌ (progress_own φ (suc n) w (λ i a b. h i (omega arith) (omega arith))) (h n (omega arith) (omega arith))
  progress_own (binary And φ ψ) n w h =
      ap₂ ◌&&◌ (progress_own φ n w (λ i a b. h i (omega arith) (omega arith))) (progress_own ψ (n + count φ) w (λ i a b. h i (omega arith) (omega arith)))
  progress_own (binary Or φ ψ) n w h =
      ap₂ ◌||◌ (progress_own φ n w (λ i a b. h i (omega arith) (omega arith))) (progress_own ψ (n + count φ) w (λ i a b. h i (omega arith) (omega arith)))
  progress_own (binary Until φ ψ) n w h =
      ap₂ ◌||◌ (progress_own ψ (suc n + count φ) w (λ i a b. h i (omega arith) (omega arith)))
      (ap₂ ◌&&◌ (progress_own φ (suc n) w (λ i a b. h i (omega arith) (omega arith))) (h n (omega arith) (omega arith)))
  progress_own (binary Release φ ψ) n w h =
      ap₂ ◌&&◌ (progress_own ψ (suc n + count φ) w (λ i a b. h i (omega arith) (omega arith)))
      (ap₂ ◌||◌ (progress_own φ (suc n) w (λ i a b. h i (omega arith) (omega arith))) (h n (omega arith) (omega arith)))

  -- the settings agree on the parts that stand in each part
  abbrev Within : List Part → Type 0
  Within [] = Unit {0}
  Within (p ∷ ps) = Agree p.first (count p.shape) × Within ps

  within_append : (ps qs : List Part) → Within ps → Within qs → Within (ps ++ qs)
  within_append [] qs a b = b
  within_append (p ∷ ps) qs a b = (a.0, within_append ps qs a.1 b)

  -- the parts of a formula have no other parts than the formula
  parts_within : (φ : Formula) (n at : ℕ) → Agree n (count φ) → Within (parts φ n at)
  unfolding parts count
  parts_within (constant c) n at h = tt
  parts_within (fact i) n at h = tt
  parts_within (action a) n at h = tt
  parts_within (unary Not φ) n at h = parts_within φ n (suc at) h
  parts_within (unary Next φ) n at h = go (temporal φ) refl (parts_within φ n (suc at)) (parts_within φ (suc n) (suc at))
    where
      go : (b : Bool) → temporal φ ≡ b → (Agree n (count φ) → Within (parts φ n (suc at))) → (Agree (suc n) (count φ) → Within (parts φ (suc n) (suc at)))
          → Within (parts (unary Next φ) n at)
      go true e same more = rw (e, parts) (same (λ i a b. h i a (omega (arith, (next_count φ).1))))
      go false e same more =
          let one : suc (count φ) ≤ count (unary Next φ) = rw (e, count) (omega arith) in
          let g : Agree (suc n) (count φ) = λ i a b. h i (omega arith) (omega (arith, one)) in
          rw (e, parts) (g, more g)
  parts_within (unary Eventually φ) n at h = (h, parts_within φ (suc n) (suc at) (λ i a b. h i (omega arith) (omega arith)))
  parts_within (unary Always φ) n at h = (h, parts_within φ (suc n) (suc at) (λ i a b. h i (omega arith) (omega arith)))
  parts_within (binary And φ ψ) n at h =
      within_append (parts φ n (suc at)) _ (parts_within φ n (suc at) (λ i a b. h i (omega arith) (omega arith)))
      (parts_within ψ (n + count φ) (suc at + size φ) (λ i a b. h i (omega arith) (omega arith)))
  parts_within (binary Or φ ψ) n at h =
      within_append (parts φ n (suc at)) _ (parts_within φ n (suc at) (λ i a b. h i (omega arith) (omega arith)))
      (parts_within ψ (n + count φ) (suc at + size φ) (λ i a b. h i (omega arith) (omega arith)))
  parts_within (binary Until φ ψ) n at h = (
    h,
    within_append (parts φ (suc n) (suc at)) _ (parts_within φ (suc n) (suc at) (λ i a b. h i (omega arith) (omega arith)))
        (parts_within ψ (suc n + count φ) (suc at + size φ) (λ i a b. h i (omega arith) (omega arith))),
  )
  parts_within (binary Release φ ψ) n at h = (
    h,
    within_append (parts φ (suc n) (suc at)) _ (parts_within φ (suc n) (suc at) (λ i a b. h i (omega arith) (omega arith)))
        (parts_within ψ (suc n + count φ) (suc at + size φ) (λ i a b. h i (omega arith) (omega arith))),
  )

  parts_own : (w : World) (ps : List Part) → Within ps
      → bits_of (λ (p : Part). progress p.shape p.first w s) ps ≡ bits_of (λ (p : Part). progress p.shape p.first w t) ps
  unfolding bits_of
  parts_own w [] h = refl
  parts_own w (p ∷ ps) h = ap₂ (λ (b : Bool) (m : ℕ). digit b + 2 * m) (progress_own p.shape p.first w h.0) (parts_own w ps h.1)

module _ (n : ℕ) (φ : Formula) where
  pub residual_own : (w : World) → OwnParts n (count φ) (residual n φ w)
  unfolding residual
  residual_own w k l hk hl e =
      bit_of_bits (2 ^ n) _ k hk ∙ progress_own (bit k) (bit l) φ 0 w (λ i a b. e i (omega arith)) ∙ sym (bit_of_bits (2 ^ n) _ l hl)

  pub progressed_own : (r : ℕ) (w : World) → OwnParts n (count φ) (progressed n (parts_of φ) r w)
  unfolding progressed parts_of
  progressed_own r w k l hk hl e =
      bit_of_bits (2 ^ n) _ k hk
      ∙ ap (bit r) (parts_own (bit k) (bit l) w (parts φ 0 0) (parts_within (bit k) (bit l) φ 0 0 (λ i a b. e i (omega arith))))
      ∙ sym (bit_of_bits (2 ^ n) _ l hl)

  -- what is left after further worlds is a table of 2 ^ n bits that depends on the formula's own parts, if what was left before is
  pub later_own : (ws : List World) (r : ℕ) → r < 2 ^ (2 ^ n) → OwnParts n (count φ) r
      → (progressed_by n (parts_of φ) r ws < 2 ^ (2 ^ n)) × OwnParts n (count φ) (progressed_by n (parts_of φ) r ws)
  unfolding progressed_by
  later_own [] r l o = (l, o)
  later_own (w ∷ ws) r l o = later_own ws (progressed n (parts_of φ) r w) (progressed_lt n (parts_of φ) r w) (progressed_own r w)

-- tables that depend on the first c parts are the same if they agree at all settings of these
pub own_same : (n c r q : ℕ) → c ≤ n → r < 2 ^ (2 ^ n) → q < 2 ^ (2 ^ n) → OwnParts n c r → OwnParts n c q
    → ((k : ℕ) → k < 2 ^ c → bit r k ≡ bit q k) → r ≡ q
own_same n c r q few hr hq or oq h =
    bits_ext (2 ^ n) r q hr hq
    (λ k l. let m : ℕ = of_bits c (bit k) in
    let small : m < 2 ^ c = of_bits_lt c (bit k) in
    let inside : m < 2 ^ n = lt_of_lt_of_le small (pow_mono few) in
    let same : (i : ℕ) → i < c → bit k i ≡ bit m i = λ i b. sym (bit_of_bits c (bit k) i b) in
    or k m l inside same ∙ h m small ∙ sym (oq k m l inside same))
