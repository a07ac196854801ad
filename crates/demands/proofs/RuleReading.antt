-- Demand 2, a rule through the worlds: remainders are right, and they ask about the rule's own parts only.
use mathlib.Core.Path.{◌≡◌, refl, sym, ap, ◌∙◌, subst}
use mathlib.Core.Bool.{true, false, true≢false}
use mathlib.Core.Logic.{◌↔◌}
use mathlib.Core.List.{List, [], ◌∷◌, ◌++◌}
use Prim.Native.Nat.{ℕ, ◌^◌, ◌≤◌, ◌<◌}
use native.Mathlib.Omega.{arith}
use native.Mathlib.Nat.{lt_of_lt_of_le}
use lib.ListN.{length}
use lib.Pow.{pow_mono, pow_pos}
use borrow.Author.Tests.{eq-eqb}
use Rattle.model.specs.Bits.{bit}
use Rattle.model.specs.logic.Formula.{Formula}
use Rattle.model.specs.logic.Parts.{most_parts, count, Part, parts_of}
use Rattle.model.specs.logic.Truth.{World}
use Rattle.model.specs.logic.Sat.{Sat}
use Rattle.model.specs.logic.Progression.{residual, progressed, progressed_by, dead, closing}
use Rattle.model.specs.logic.OwnParts.{OwnParts}
use Rattle.model.proofs.bits.Bits.{bit_zero}
use Rattle.model.proofs.logic.SatLaws.{sat_holds}
use Rattle.model.proofs.logic.PartsLaws.{length-parts}
use Rattle.model.proofs.logic.ProgressionLaws.{holds_by_residual}
use Rattle.model.proofs.logic.ResidualLaws.{residual_lt, dead_everywhere, dead_closing}
use Rattle.model.proofs.logic.OwnPartsLaws.{residual_own, later_own, own_same}
use Rattle.demands.specs.Demand2.{remainder, ReadsRule}

-- More worlds are walked through one after the other.
by_append : (n : ℕ) (ps : List Part) (ws vs : List World) (r : ℕ) → progressed_by n ps r (ws ++ vs) ≡ progressed_by n ps (progressed_by n ps r ws) vs
unfolding progressed_by
by_append n ps [] vs r = refl
by_append n ps (w ∷ ws) vs r = by_append n ps ws vs (progressed n ps r w)

module _ (φ : Formula) (few : length (parts_of φ) ≤ most_parts) where
  parts_count : length (parts_of φ) ≡ count φ
  unfolding parts_of
  parts_count = length-parts φ 0 0

  -- A remainder is a table of 64 bits that depends on the rule's own parts.
  table : (w : World) (ws : List World) → (remainder φ w ws < 2 ^ (2 ^ most_parts)) × OwnParts most_parts (length (parts_of φ)) (remainder φ w ws)
  table w ws =
      let t = later_own most_parts φ ws (residual most_parts φ w) (residual_lt most_parts φ w) (residual_own most_parts φ w) in
      (t.0, subst (λ (c : ℕ). OwnParts most_parts c (remainder φ w ws)) (sym parts_count) t.1)

  reads_right : (w : World) (ws : List World) (c : World) → Sat (w ∷ ws ++ (c ∷ [])) 0 φ ↔ (closing (parts_of φ) (remainder φ w ws) c ≡ true)
  reads_right w ws c =
      let s = sat_holds (w ∷ ws ++ (c ∷ [])) φ 0 (omega arith) in
      let h = holds_by_residual most_parts φ few w ws c in
      (λ x. sym h ∙ s.0 x, λ e. s.1 (h ∙ e))

  same_table : (w v : World) (ws vs : List World)
      → ((s : ℕ) → s < 2 ^ length (parts_of φ) → bit (remainder φ w ws) s ≡ bit (remainder φ v vs) s) → remainder φ w ws ≡ remainder φ v vs
  same_table w v ws vs h =
      own_same most_parts (length (parts_of φ)) (remainder φ w ws) (remainder φ v vs) few (table w ws).0 (table v vs).0 (table w ws).1 (table v vs).1 h

  is_dead : (w : World) (ws : List World) → ((s : ℕ) → s < 2 ^ length (parts_of φ) → bit (remainder φ w ws) s ≡ false) → dead (remainder φ w ws) ≡ true
  unfolding dead
  is_dead w ws h =
      eq-eqb _ 0
      (own_same most_parts (length (parts_of φ)) (remainder φ w ws) 0 few (table w ws).0 (pow_pos (2 ^ most_parts)) (table w ws).1
      (λ k l a b e. bit_zero k ∙ sym (bit_zero l)) (λ s l. h s l ∙ sym (bit_zero s)))

  dead_nowhere : (w : World) (ws : List World) → dead (remainder φ w ws) ≡ true → (s : ℕ) → s < 2 ^ length (parts_of φ) → bit (remainder φ w ws) s ≡ false
  dead_nowhere w ws d s l = (dead_everywhere most_parts (remainder φ w ws) (table w ws).0).0 d s (lt_of_lt_of_le l (pow_mono few))

  stays : (w : World) (ws vs : List World) (c : World) → dead (remainder φ w ws) ≡ true → Sat (w ∷ (ws ++ vs) ++ (c ∷ [])) 0 φ → ⊥
  stays w ws vs c d x =
      let later = by_append most_parts (parts_of φ) ws vs (residual most_parts φ w) in
      let f = dead_closing most_parts (parts_of φ) vs (remainder φ w ws) c d in
      true≢false (sym ((reads_right w (ws ++ vs) c).0 x) ∙ ap (λ (r : ℕ). closing (parts_of φ) r c) later ∙ f)

  pub reads_rule : ReadsRule φ
  reads_rule = record {
    right = reads_right;
    same = λ w v ws vs. (λ e s l. ap (λ (r : ℕ). bit r s) e, same_table w v ws vs);
    dead_if = λ w ws. (dead_nowhere w ws, is_dead w ws);
    dead_stays = stays;
  }
