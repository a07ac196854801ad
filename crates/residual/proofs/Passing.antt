-- The pass over a formula's bytes reads the truths of its fact codes: at each code, what was read and what is ahead make up the whole.
use Rattle.std.proofs.Common.{◌≡◌, refl, sym, ap, ◌∙◌, subst, ℕ, suc, ◌+◌, ◌*◌, ◌%◌, ◌^◌, ◌<◌, ◌≤◌, List, [], ◌∷◌, arith, bit_or, shl_exact, eqb, length}
use Rattle.std.proofs.Common.{get_or}
use Rattle.std.specs.Int.Bits.{or_zero_r}
use Rattle.model.specs.declared.Code.{Code}
use Rattle.model.specs.declared.Code.TheVariants.{Leaf, Fact, Action, One, Two, Unknown}
use Rattle.model.specs.Bits.{bit, digit}
use Rattle.model.specs.logic.Formula.{Formula, constant, fact, action, unary, binary, code_of}
use Rattle.model.specs.logic.Parts.{size}
use Rattle.model.specs.logic.Reading.{Parsed, formula, wrong, parsed}
use Rattle.model.proofs.bits.Bits.{digit_of}
use Rattle.model.proofs.bits.Bitwise.{bit_or_assoc}
use Rattle.model.proofs.logic.Codes.{code0, code1, code2}
use Rattle.model.proofs.logic.ReadingLaws.{Stands, parsed_stands, parsed_size}
use Rattle.residual.specs.declared.facts.Reading.{Reading}
use Rattle.residual.specs.Facts.{truth_bit, fact_truths}
use Rattle.residual.specs.Pass.{HasNumber, Legible, read_by, read_code}
use Rattle.residual.specs.Residual.{Ready, formula_of}

-- a bit of 64 that is shifted to another place stays one
pub shifted_digit : (x k : ℕ) → k < 64 → (x % 2 * 2 ^ k) % 2 ^ 64 ≡ digit (eqb (x % 2) 1) * 2 ^ k
shifted_digit x k l = shl_exact 1 k 64 (omega arith) (omega arith) ∙ ap (λ (d : ℕ). d * 2 ^ k) (digit_of (x % 2) (omega arith))

-- what the code at the position decides is what is read there
pub read_as : (s : List ℕ) (state : ℕ) (r : Reading) (c : Code) → c ≡ code_of (get_or s r.at 0) → read_by c s state r ≡ read_code s state r
unfolding read_code
read_as s state r c e = ap (λ (x : Code). read_by x s state r) e

-- after a code that has no number, not Fact or Action, the pass is one byte further on
pub other_code : (c : Code) (s : List ℕ) (state : ℕ) (r : Reading) → ¬ c ≡ Fact → ¬ c ≡ Action
    → read_by c s state r ≡ record { truths = r.truths; at = r.at + 1 }
other_code (Leaf k) s state r f a = refl
other_code Fact s state r f a = absurd (f refl)
other_code Action s state r f a = absurd (a refl)
other_code (One o) s state r f a = refl
other_code (Two o) s state r f a = refl
other_code Unknown s state r f a = refl

-- after every code the pass is further on
further_by : (c : Code) (s : List ℕ) (state : ℕ) (r : Reading) → r.at < (read_by c s state r).at
further_by (Leaf k) s state r = omega arith
further_by Fact s state r = omega arith
further_by Action s state r = omega arith
further_by (One o) s state r = omega arith
further_by (Two o) s state r = omega arith
further_by Unknown s state r = omega arith

pub code_further : (s : List ℕ) (state : ℕ) (r x : Reading) → x ≡ read_code s state r → r.at < x.at
unfolding read_code
code_further s state r x e = subst (λ (y : Reading). r.at < y.at) (sym e) (further_by (code_of (get_or s r.at 0)) s state r)

module _ (s : List ℕ) (state : ℕ) where
  -- formulas stand one after the other from a position to the end
  abbrev Ahead : List Formula → ℕ → Type 0
  Ahead [] at = at ≡ length s
  Ahead (φ ∷ φs) at = Stands 64 64 s φ at × Ahead φs (at + size φ)

  -- the truths of their fact codes
  abbrev truths_ahead : List Formula → ℕ → ℕ
  truths_ahead [] at = 0
  truths_ahead (φ ∷ φs) at = bit_or (fact_truths φ at state) (truths_ahead φs (at + size φ))

  -- what was read and the truths of what is ahead make up the whole
  pub record Passed (whole : ℕ) (r : Reading) : Type 0 where
    pub ahead : List Formula
    pub stand : Ahead ahead r.at
    pub joined : bit_or r.truths (truths_ahead ahead r.at) ≡ whole

  -- ---- by the formula at the position

  -- the number of a fact code stands after it
  has_number : (φs : List Formula) (at : ℕ) → Ahead φs at → at < length s → HasNumber (code_of (get_or s at 0)) s at
  unfolding code_of
  has_number [] at h l = absurd (omega arith)
  has_number (constant c ∷ φs) at h l = rw (h.0.1, code0 c) tt
  has_number (fact i ∷ φs) at h l = rw h.0.1 (h.0.2, omega (arith, h.0.3, h.0.4))
  has_number (action a ∷ φs) at h l = rw h.0.1 tt
  has_number (unary o φ ∷ φs) at h l = rw (h.0.1, code1 o) tt
  has_number (binary o φ ψ ∷ φs) at h l = rw (h.0.1, code2 o) tt

  module _ (whole : ℕ) (r : Reading) where
    -- the position is given as the code computes it
    at_place : (φs : List Formula) (f p q : ℕ) → p ≡ q → Ahead φs p → bit_or f (truths_ahead φs p) ≡ whole → Passed whole (record { truths = f; at = q })
    at_place φs f p q e h j =
        record { ahead = φs; stand = subst (Ahead φs) e h; joined = ap (λ (n : ℕ). bit_or f (truths_ahead φs n)) (sym e) ∙ j }

    -- the code there decides what is read
    read_by_lem : (c : Code) → code_of (get_or s r.at 0) ≡ c → Passed whole (read_by c s state r) → Passed whole (read_code s state r)
    unfolding read_code
    read_by_lem c e = subst (λ (x : Code). Passed whole (read_by x s state r)) (sym e)

    -- one code more was read: a fact code's truth goes over from what is ahead to what was read
    code_passed : (φs : List Formula) → Ahead φs r.at → bit_or r.truths (truths_ahead φs r.at) ≡ whole → r.at < length s
        → Passed whole (read_code s state r)
    unfolding fact_truths size code_of
    code_passed [] h e l = absurd (omega arith)
    code_passed (constant c ∷ φs) h e l = read_by_lem (Leaf c) (ap code_of h.0.1 ∙ code0 c) (at_place φs _ _ _ refl h.1 e)
    code_passed (fact i ∷ φs) h e l =
        read_by_lem Fact (ap code_of h.0.1)
        (at_place φs _ (r.at + 2) _ (omega arith) h.1
        (bit_or_assoc r.truths _ _
        ∙ ap (λ (n : ℕ). bit_or r.truths (bit_or (digit (bit state n) * 2 ^ truth_bit r.at) (truths_ahead φs (r.at + 2)))) h.0.3 ∙ e))
    code_passed (action a ∷ φs) h e l = read_by_lem Action (ap code_of h.0.1) (at_place φs _ (r.at + 2) _ (omega arith) h.1 e)
    code_passed (unary o φ ∷ φs) h e l =
        let k : r.at + 1 ≡ suc r.at = omega arith in
        let n : r.at + (1 + size φ) ≡ r.at + 1 + size φ = omega arith in
        read_by_lem (One o) (ap code_of h.0.1 ∙ code1 o)
        (at_place (φ ∷ φs) _ (r.at + 1) _ refl (h.0.2, subst (Ahead φs) n h.1)
        ((λ i. bit_or r.truths (bit_or (fact_truths φ (k i) state) (truths_ahead φs (sym n i)))) ∙ e))
    code_passed (binary o φ ψ ∷ φs) h e l =
        let k : r.at + 1 ≡ suc r.at = omega arith in
        let n : r.at + (1 + (size φ + size ψ)) ≡ r.at + 1 + size φ + size ψ = omega arith in
        read_by_lem (Two o) (ap code_of h.0.1 ∙ code2 o)
        (at_place (φ ∷ ψ ∷ φs) _ (r.at + 1) _ refl (h.0.2, (h.0.3, subst (Ahead φs) n h.1))
        ((λ i. bit_or r.truths (bit_or (fact_truths φ (k i) state) (bit_or (fact_truths ψ (k i + size φ) state) (truths_ahead φs (sym n i)))))
        ∙ ap (bit_or r.truths) (sym (bit_or_assoc (fact_truths φ (suc r.at) state) _ _)) ∙ e))

  -- a formula stands before the end, so at the end none is ahead
  stands_inside : (φ : Formula) (at : ℕ) → Stands 64 64 s φ at → at < length s
  stands_inside (constant c) at h = h.0
  stands_inside (fact i) at h = h.0
  stands_inside (action a) at h = h.0
  stands_inside (unary o φ) at h = h.0
  stands_inside (binary o φ ψ) at h = h.0

  nothing_ahead : (φs : List Formula) (at : ℕ) → Ahead φs at → length s ≤ at → truths_ahead φs at ≡ 0
  nothing_ahead [] at h l = refl
  nothing_ahead (φ ∷ φs) at h l = absurd (omega (arith, stands_inside φ at h.0))

  -- ---- the pass: its start, a code that it can read, one code more, its end

  pub starts_passed : (p : Parsed) → parsed 64 64 s 0 ≡ p → Ready s p → Passed (fact_truths (formula_of p) 0 state) (record { truths = 0; at = 0 })
  starts_passed (formula φ n) e h = record {
    ahead = φ ∷ [];
    stand = (parsed_stands 64 64 s 0 φ n e, sym (parsed_size 64 64 s 0 φ n e) ∙ h.1);
    joined = or_zero_r (fact_truths φ 0 state);
  }
  starts_passed (wrong q) e h = absurd h

  pub legible : (p : Parsed) → Ready s p → (whole : ℕ) (r : Reading) → Passed whole r → r.at < length s → Legible s r.at
  legible (formula φ n) h whole r g l = (l, omega (arith, h.1, h.2), has_number g.ahead r.at g.stand l)
  legible (wrong q) h whole r g l = absurd h

  pub code_more : (whole : ℕ) (r x : Reading) → Passed whole r → r.at < length s → x ≡ read_code s state r → Passed whole x
  code_more whole r x g l e = subst (Passed whole) (sym e) (code_passed whole r g.ahead g.stand g.joined l)

  pub ends_passed : (whole : ℕ) (r : Reading) → Passed whole r → length s ≤ r.at → r.truths ≡ whole
  ends_passed whole r g l =
      sym (or_zero_r r.truths) ∙ ap (bit_or r.truths) (sym (nothing_ahead g.ahead r.at g.stand l)) ∙ g.joined
