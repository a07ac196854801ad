-- Every place that `check` reports lies in the section or at its end: no part and no wrong byte stands further on.
use Rattle.std.proofs.Common.{◌≡◌, refl, Bool, true, false, ◌||◌, List, ℕ, zero, suc, ◌+◌, ◌-◌, ◌<◌, ◌≤◌, arith, length, get_or, ltb, ltb-true, Option, None}
use Rattle.std.proofs.Common.{Some, Ok, Err, IfSome}
use Rattle.model.specs.declared.Code.{Code}
use Rattle.model.specs.declared.Code.TheVariants.{Leaf, Fact, Action, One, Two, Unknown}
use Rattle.model.specs.logic.Formula.{Formula, constant, fact, action, unary, binary, choose, code_of}
use Rattle.model.specs.logic.Parts.{most_parts, size, temporal1, temporal2}
use Rattle.model.specs.logic.Reading.{Parsed, formula, wrong, then, and_then, numbered, operands, node, parse, parsed}
use Rattle.model.proofs.logic.ReadingLaws.{parsed_size, parsed_inside}
use Rattle.formula.specs.Extent.{Extent, none, is_next, first_at, note, note_if, seen_in, extent}
use Rattle.formula.specs.declared.Seen.{Seen}

-- ---- the position of the seventh part
module _ (b : ℕ) where
  -- the seventh part, if there is one, is at most at b
  abbrev SeventhUpTo : Seen → Type 0
  SeventhUpTo s = IfSome s.seventh (λ p. p ≤ b)

  -- noting a part at most at b keeps the seventh at most at b
  note_inside : (s : Seen) (at : ℕ) → SeventhUpTo s → at ≤ b → SeventhUpTo (note s at)
  note_inside s at h g = go (ltb s.parts most_parts) s.seventh h
    where
      go : (t : Bool) (z : Option ℕ) → IfSome z (λ p. p ≤ b)
          → SeventhUpTo (choose t (record { parts = s.parts + 1; seventh = z }) (record { parts = s.parts; seventh = first_at z at }))
      go true z h = h
      go false None h = g
      go false (Some p) h = h

  -- noting a formula only if it is a part keeps the seventh at most at b, too
  note_if_inside : (t : Bool) (s : Seen) (at : ℕ) → SeventhUpTo s → at ≤ b → SeventhUpTo (note_if t s at)
  note_if_inside true s at h g = note_inside s at h g
  note_if_inside false s at h g = h

  -- no part of a formula stands after its end
  seen_inside : (φ : Formula) (under : Bool) (s : Seen) (at : ℕ) → SeventhUpTo s → at + size φ ≤ b → SeventhUpTo (seen_in φ under s at)
  unfolding seen_in size
  seen_inside (constant c) under s at h g = note_if_inside under s at h (omega arith)
  seen_inside (fact i) under s at h g = note_if_inside under s at h (omega arith)
  seen_inside (action a) under s at h g = note_if_inside under s at h (omega arith)
  seen_inside (unary o φ) under s at h g =
      seen_inside φ (is_next o) _ (suc at) (note_if_inside (under || temporal1 o) s at h (omega arith)) (omega arith)
  seen_inside (binary o φ ψ) under s at h g =
      seen_inside ψ false _ (suc at + size φ)
      (seen_inside φ false _ (suc at) (note_if_inside (under || temporal2 o) s at h (omega arith)) (omega arith))
      (omega arith)

-- ---- the position of the first wrong byte
-- the first wrong byte, if there is one, is at most b
abbrev WrongUpTo : ℕ → Parsed → Type 0
WrongUpTo b (formula φ n) = Unit {0}
WrongUpTo b (wrong p) = p ≤ b

-- a node around it changes nothing
then_inside : (b : ℕ) (f : Formula → Formula) (p : Parsed) → WrongUpTo b p → WrongUpTo b (then f p)
unfolding then
then_inside b f (formula φ n) h = tt
then_inside b f (wrong p) h = h

-- of two operands, either may be wrong
and_then_inside : (b : ℕ) (p : Parsed) (k : Formula → ℕ → Parsed) → WrongUpTo b p → ((φ : Formula) (m : ℕ) → WrongUpTo b (k φ m))
    → WrongUpTo b (and_then p k)
unfolding and_then
and_then_inside b (formula φ m) k h g = g φ m
and_then_inside b (wrong p) k h g = h

-- the places that an answer of `read` reports are at most b
abbrev pub UpTo : ℕ → Extent → Type 0
UpTo b (Ok e) = SeventhUpTo b e.seen
UpTo b (Err w) = w.0 ≤ b

module _ (v a : ℕ) (s : List ℕ) where
  -- a number that is missing or too large is wrong in the bytes or at their end
  numbered_inside : (f : ℕ → Formula) (b at : ℕ) → at ≤ length s → WrongUpTo (length s) (numbered v a s f b at)
  unfolding numbered
  numbered_inside f b at h = go (ltb at (length s)) (ltb (get_or s at 0) b)
    where
      go : (t u : Bool) → WrongUpTo (length s) (choose t (choose u (formula (f (get_or s at 0)) (at + 1)) (wrong at)) (wrong (length s)))
      go false u = omega arith
      go true false = h
      go true true = tt

  module _ (rec : ℕ → Parsed) (up : (m : ℕ) → WrongUpTo (length s) (rec m)) where
    -- what stands after a code is wrong only in the bytes or at their end
    operands_inside : (c : Code) (at : ℕ) → at < length s → WrongUpTo (length s) (operands v a s c rec at)
    unfolding operands
    operands_inside (Leaf c) at h = tt
    operands_inside Fact at h = numbered_inside fact v (at + 1) (omega arith)
    operands_inside Action at h = numbered_inside action a (at + 1) (omega arith)
    operands_inside (One o) at h = then_inside (length s) (unary o) (rec (at + 1)) (up (at + 1))
    operands_inside (Two o) at h = and_then_inside (length s) (rec (at + 1)) _ (up (at + 1)) (λ φ m. then_inside (length s) (binary o φ) (rec m) (up m))
    operands_inside Unknown at h = omega arith

    -- a node is wrong only in the bytes or at their end
    node_inside : (at : ℕ) → WrongUpTo (length s) (node v a s rec at)
    unfolding node
    node_inside at = go (ltb at (length s)) refl
      where
        go : (t : Bool) → ltb at (length s) ≡ t → WrongUpTo (length s) (choose t (operands v a s (code_of (get_or s at 0)) rec at) (wrong (length s)))
        go false e = omega arith
        go true e = operands_inside (code_of (get_or s at 0)) at (ltb-true at (length s) e)

  -- a formula of any depth is wrong only in the bytes or at their end
  parse_inside : (k at : ℕ) → WrongUpTo (length s) (parse v a s k at)
  unfolding parse
  parse_inside zero at = omega arith
  parse_inside (suc k) at = node_inside (parse v a s k) (parse_inside k) at

  -- what is read at a position reports places in the bytes or at their end
  extent_inside : (under : Bool) (seen : Seen) (at : ℕ) → SeventhUpTo (length s) seen → UpTo (length s) (extent under seen at (parsed v a s at))
  unfolding extent parsed
  extent_inside under seen at h = go (parsed v a s at) refl (parse_inside (length s - at) at)
    where
      go : (p : Parsed) → parsed v a s at ≡ p → WrongUpTo (length s) p → UpTo (length s) (extent under seen at p)
      go (formula φ n) e w =
          seen_inside (length s) φ under seen at h (omega (arith, parsed_size v a s at φ n e, parsed_inside v a s at φ n e))
      go (wrong p) e w = w

  -- an answer at the start reports places in the bytes or at their end
  pub answer_inside : (r : Extent) → r ≡ extent false none 0 (parsed v a s 0) → UpTo (length s) r
  answer_inside r e = rw e (extent_inside false none 0 tt)
