-- The numbers of each answer, and counts as bytes.
use Rattle.std.proofs.Common.{◌≡◌, refl, sym, ap, ap₂, ◌∙◌, ℕ, ◌<◌, arith, Bool, leb, ◌⊎◌, inl, inr, List, [], ◌∷◌, Ok, Err}
use Rattle.std.proofs.Math.Decide.{dec_lt}
use borrow.Author.Tests.{le-leb, lt-leb}
use Rattle.model.specs.declared.Passed.{Passed}
use Rattle.model.specs.Refusal.{Refusal, refusal}
use Rattle.model.specs.Results.{Validated, Rewritten}
use Rattle.model.specs.logic.Formula.{choose}
use Rattle.model.specs.calls.WriteBack.{WriteEnd, write_end, rule_verdict, written_back}
use Rattle.model.specs.calls.Numbers.{refusal_numbers, validate_numbers, write_numbers, WriteAnswers}
use Rattle.normal.proofs.Verdicts.{counts_wrong}

-- a list that passed
pub passed : (u v : Validated) (p : Passed) (b : ℕ) → u ≡ v → u ≡ Ok p → b ≡ p.hints → 0 ∷ p.cost ∷ b ∷ [] ≡ validate_numbers v
unfolding validate_numbers
passed u v p b e d q = ap (λ (x : ℕ). 0 ∷ p.cost ∷ x ∷ []) q ∙ ap validate_numbers (sym d ∙ e)

-- a list that was refused
pub refused : (u v : Validated) (r : Refusal) (numbers : List ℕ) → u ≡ v → u ≡ Err r → numbers ≡ refusal_numbers r → numbers ≡ validate_numbers v
unfolding validate_numbers
refused u v r numbers e p q = q ∙ ap validate_numbers (sym p ∙ e)

-- ---- counts as bytes

-- the byte that stands for a count
abbrev capped : ℕ → ℕ
capped x = choose (leb x 64) x 65

-- Either it is the count, or both are over 64.
cap : (x : ℕ) → Dec (64 < x) → (capped x ≡ x) ⊎ ((64 < x) × (64 < capped x))
cap x (yes l) = inr (l, rw (lt-leb x 64 l) (omega arith))
cap x (no l) = inl (rw (le-leb x 64 (omega arith)))

-- Counts that are refused with 1 are all alike.
refused_alike : (v a x y : ℕ) (rule buffer : List ℕ) → (64 < v) ⊎ (64 < a) → (64 < x) ⊎ (64 < y) → written_back v a rule buffer ≡ written_back x y rule buffer
unfolding written_back
refused_alike v a x y rule buffer h g = rw (bad v a h, written_back, bad x y g)
  where
    bad : (m n : ℕ) → (64 < m) ⊎ (64 < n) → rule_verdict m n rule ≡ Err (refusal 1 0)
    bad m n h = sym (counts_wrong m n rule (inr h))

-- Bytes that stand for counts are written back as these.
pub capped_same : (v a : ℕ) (rule buffer : List ℕ) → written_back (capped v) (capped a) rule buffer ≡ written_back v a rule buffer
capped_same v a rule buffer = go (cap v (dec_lt 64 v)) (cap a (dec_lt 64 a))
  where
    go : (capped v ≡ v) ⊎ ((64 < v) × (64 < capped v)) → (capped a ≡ a) ⊎ ((64 < a) × (64 < capped a))
        → written_back (capped v) (capped a) rule buffer ≡ written_back v a rule buffer
    go (inl e) (inl f) = ap₂ (λ (x y : ℕ). written_back x y rule buffer) e f
    go (inr h) f = refused_alike (capped v) (capped a) v a rule buffer (inl h.1) (inl h.0)
    go (inl e) (inr h) = refused_alike (capped v) (capped a) v a rule buffer (inr h.1) (inr h.0)

-- ---- a rule written back

module _ {e : WriteEnd} {u : Rewritten} {buffer' : List ℕ} (is : write_end u buffer' ≡ e) where
  pub written : (n : ℕ) → u ≡ Ok n → WriteAnswers e buffer' (0 ∷ n ∷ 0 ∷ [])
  unfolding write_numbers
  written n p = record { said = sym (ap write_numbers p) ∙ ap (λ (x : WriteEnd). write_numbers x.result) is; buffer_is = ap (λ (x : WriteEnd). x.buffer) is }

  pub not_written : (r : Refusal) (numbers : List ℕ) → u ≡ Err r → numbers ≡ refusal_numbers r → WriteAnswers e buffer' numbers
  unfolding write_numbers
  not_written r numbers p q =
      record { said = q ∙ sym (ap write_numbers p) ∙ ap (λ (x : WriteEnd). write_numbers x.result) is; buffer_is = ap (λ (x : WriteEnd). x.buffer) is }
