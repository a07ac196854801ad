-- Refusals 4 and 5 by what `read` answers at a section's start.
use Rattle.std.proofs.Common.{None, Some, Ok, Err, ◌≡◌, refl, ap, ◌∙◌, Bool, true, false, List, ℕ, ◌+◌, ◌<◌, ◌≤◌, arith, length, eqb}
use Rattle.std.proofs.Common.{eq-eqb, ne_eqb, leb, leb-true, leb-false}
use Rattle.model.specs.Verdict.{no_refusal, Verdict, unless, or_else}
use Rattle.model.specs.Refusal.{Refusal, refusal}
use Rattle.model.specs.logic.Formula.{Formula, choose}
use Rattle.model.specs.logic.Reading.{Parsed, formula, wrong, parsed, whole, section}
use Rattle.model.specs.job.Decoding.{formula_verdict}
use Rattle.model.proofs.logic.ReadingLaws.{parsed_inside}
use Rattle.formula.specs.Extent.{Extent, none, seen_in, extent}
use Rattle.formula.specs.declared.End.{End}
use Rattle.formula.specs.declared.WrongAt.{WrongAt}
use Rattle.formula.proofs.Places.{answer_inside}
use Rattle.formula.proofs.Counting.{seen_verdict, seen_verdict_lem}

-- refused for a wrong byte, for bytes that are left, or for the seventh part
abbrev pub checked : List ℕ → ℕ → Extent → Verdict
checked s o (Ok e) = or_else (unless (leb (length s) e.next) 4 (o + e.next)) (seen_verdict o e.seen.seventh)
checked s o (Err w) = Err (refusal 4 (o + w.0))

module _ (v a : ℕ) (s : List ℕ) (o : ℕ) where
  -- a formula that does not end after the bytes ends with them, or bytes are left
  check_whole : (φ : Formula) (n : ℕ) → n ≤ length s → checked s o (extent false none 0 (formula φ n)) ≡ formula_verdict o (whole v a s (formula φ n))
  unfolding extent whole formula_verdict or_else unless
  check_whole φ n h = go (leb (length s) n) refl
    where
      go : (t : Bool) → leb (length s) n ≡ t → or_else (unless t 4 (o + n)) (seen_verdict o (seen_in φ false none 0).seventh)
          ≡ formula_verdict o (choose (eqb n (length s)) (formula φ n) (wrong n))
      go false e = let g : n < length s = leb-false (length s) n e in rw (ne_eqb n (length s) (λ d. omega arith))
      go true e = let g : length s ≤ n = leb-true (length s) n e in rw (eq-eqb n (length s) (omega arith)) (seen_verdict_lem o φ)

  -- what stands at the start decides
  check_is : checked s o (extent false none 0 (parsed v a s 0)) ≡ formula_verdict o (section v a s)
  unfolding extent section whole formula_verdict
  check_is = go (parsed v a s 0) refl
    where
      go : (p : Parsed) → parsed v a s 0 ≡ p → checked s o (extent false none 0 p) ≡ formula_verdict o (whole v a s p)
      go (formula φ n) e = check_whole φ n (parsed_inside v a s 0 φ n e)
      go (wrong p) e = refl

  -- what `read` answered decides
  decides : (r : Extent) → r ≡ extent false none 0 (parsed v a s 0) → checked s o r ≡ formula_verdict o (section v a s)
  decides r e = ap (checked s o) e ∙ check_is

  -- a wrong byte stands in the section or at its end
  pub wrong_inside : (w : WrongAt) → Err w ≡ extent false none 0 (parsed v a s 0) → w.0 ≤ length s
  wrong_inside w e = answer_inside v a s (Err w) e

  -- and so does the seventh part
  pub seventh_inside : (e : End) (p : ℕ) → Ok e ≡ extent false none 0 (parsed v a s 0) → e.seen.seventh ≡ Some p → p ≤ length s
  seventh_inside e p f g = rw g at (answer_inside v a s (Ok e) f)

  -- a byte is wrong
  pub wrong_byte : (w : WrongAt) → Err w ≡ extent false none 0 (parsed v a s 0) → Err (refusal 4 (o + w.0)) ≡ formula_verdict o (section v a s)
  wrong_byte w e = decides (Err w) e

  module _ (e : End) (f : Ok e ≡ extent false none 0 (parsed v a s 0)) where
    -- a formula ends in the section or with it
    pub end_inside : e.next ≤ length s
    unfolding extent
    end_inside = go (parsed v a s 0) refl f
      where
        go : (p : Parsed) → parsed v a s 0 ≡ p → Ok e ≡ extent false none 0 p → e.next ≤ length s
        go (formula φ n) d g = let h : e.next ≡ n = cc in omega (arith, parsed_inside v a s 0 φ n d)
        go (wrong p) d g = absurd cc

    -- bytes are left
    pub bytes_left : {r : Refusal} → Err r ≡ unless (leb (length s) e.next) 4 (o + e.next) → Err r ≡ formula_verdict o (section v a s)
    unfolding or_else
    bytes_left l = rw (← l) at (decides (Ok e) f)

    module _ (l : no_refusal ≡ unless (leb (length s) e.next) 4 (o + e.next)) where
      -- there is a seventh part
      pub many_parts : (p : ℕ) → e.seen.seventh ≡ Some p → Err (refusal 5 (o + p)) ≡ formula_verdict o (section v a s)
      unfolding or_else
      many_parts p g = rw (← l, g) at (decides (Ok e) f)

      -- no more parts than may be
      pub few_parts : e.seen.seventh ≡ None → no_refusal ≡ formula_verdict o (section v a s)
      unfolding or_else
      few_parts g = rw (← l, g) at (decides (Ok e) f)

-- By these what `read` answers decides the verdict, and the offsets of the places that it reports fit.
pub ruleset verdicts = (wrong_inside, seventh_inside, wrong_byte, end_inside, bytes_left, many_parts, few_parts)
