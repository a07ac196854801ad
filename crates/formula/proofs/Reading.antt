-- Reading in the code goes by one node, as `parsed` does: what `read` answers, by the code at its position.
use Rattle.std.proofs.Common.{◌≡◌, refl, sym, ap, ◌∙◌, Bool, true, false, ◌||◌, List, ℕ, ◌+◌, ◌<◌, add-one, arith, length, get_or, ltb, Ok, Err}
use Rattle.std.proofs.Math.Bool.{or-false}
use Rattle.model.specs.declared.Unary.{Unary}
use Rattle.model.specs.declared.Binary.{Binary}
use Rattle.model.specs.declared.Code.{Code}
use Rattle.model.specs.declared.Code.TheVariants.{Leaf, Fact, Action, One, Two, Unknown}
use Rattle.model.specs.logic.Formula.{Formula, fact, action, unary, binary, choose, code_of}
use Rattle.model.specs.logic.Parts.{size, temporal1, temporal2}
use Rattle.model.specs.logic.Reading.{Parsed, formula, wrong, then, and_then, numbered, operands, parsed}
use Rattle.model.proofs.logic.ReadingLaws.{by_code, parsed_size, parsed_grows}
use Rattle.formula.specs.Extent.{carries, is_next, note_if, seen_in, Extent, whole, wrong_at, extent, number_extent}
use Rattle.formula.specs.declared.Seen.{Seen}
use Rattle.formula.specs.declared.End.{End}

-- the second operand is read where the first one's reading ended, with what was seen up to there
abbrev go_on : Extent → (Bool → Seen → ℕ → Extent) → Extent
go_on (Ok e) r = r false e.seen e.next
go_on (Err w) r = Err w

-- what is answered after a code at a position, where r answers for the operands and the parts are seen up to the code's own
unfoldable pub reading : Code → (Bool → Seen → ℕ → Extent) → ℕ → ℕ → List ℕ → Seen → ℕ → Extent
reading (Leaf c) r v a s here at = whole (at + 1) here
reading Fact r v a s here at = number_extent v s here (at + 1)
reading Action r v a s here at = number_extent a s here (at + 1)
reading (One o) r v a s here at = r (is_next o) here (at + 1)
reading (Two o) r v a s here at = go_on (r false here (at + 1)) r
reading Unknown r v a s here at = wrong_at at

module _ (v a : ℕ) (s : List ℕ) (under : Bool) (seen : Seen) (at : ℕ) where
  -- a fact or an action has no part inside; it is a part only under a next
  extent_numbered : (f : ℕ → Formula) → ((i : ℕ) → seen_in (f i) under seen at ≡ note_if under seen at) → (b : ℕ)
      → extent under seen at (numbered v a s f b (at + 1)) ≡ number_extent b s (note_if (under || false) seen at) (at + 1)
  unfolding numbered extent number_extent
  extent_numbered f e b = rw or-false (go (ltb (at + 1) (length s)) (ltb (get_or s (at + 1) 0) b))
    where
      go : (t u : Bool)
          → extent under seen at (choose t (choose u (formula (f (get_or s (at + 1) 0)) (at + 1 + 1)) (wrong (at + 1))) (wrong (length s)))
          ≡ choose t (choose u (whole (at + 1 + 1) (note_if under seen at)) (wrong_at (at + 1))) (wrong_at (length s))
      go false u = refl
      go true false = refl
      go true true = ap (whole (at + 1 + 1)) (e (get_or s (at + 1) 0))

  -- the operand of a unary operator stands one byte on
  extent_one : (o : Unary) (p : Parsed) → extent under seen at (then (unary o) p) ≡ extent (is_next o) (note_if (under || temporal1 o) seen at) (at + 1) p
  unfolding extent then seen_in
  extent_one o (formula φ n) = rw add-one
  extent_one o (wrong p) = refl

  -- the second operand of a binary one stands where the first ended
  extent_second : (o : Binary) (φ : Formula) (m : ℕ) → m ≡ at + 1 + size φ → (p : Parsed)
      → extent under seen at (then (binary o φ) p) ≡ extent false (seen_in φ false (note_if (under || temporal2 o) seen at) (at + 1)) m p
  unfolding extent then seen_in
  extent_second o φ m e (formula ψ n) = rw (e, add-one)
  extent_second o φ m e (wrong p) = refl

  -- two operands, where a formula that was read ends as many bytes on as it has
  extent_two : (o : Binary) (rec : ℕ → Parsed) → ((φ : Formula) (m : ℕ) → rec (at + 1) ≡ formula φ m → m ≡ at + 1 + size φ)
      → extent under seen at (and_then (rec (at + 1)) (λ φ m. then (binary o φ) (rec m)))
      ≡ go_on (extent false (note_if (under || temporal2 o) seen at) (at + 1) (rec (at + 1))) (λ u x m. extent u x m (rec m))
  unfolding extent and_then
  extent_two o rec sized = go (rec (at + 1)) sized
    where
      go : (p : Parsed) → ((φ : Formula) (m : ℕ) → p ≡ formula φ m → m ≡ at + 1 + size φ)
          → extent under seen at (and_then p (λ φ m. then (binary o φ) (rec m)))
          ≡ go_on (extent false (note_if (under || temporal2 o) seen at) (at + 1) p) (λ u x m. extent u x m (rec m))
      go (formula φ m) e = extent_second o φ m (e φ m refl) (rec m)
      go (wrong p) e = refl

  -- what stands after a code
  operands_read : (c : Code) (rec : ℕ → Parsed) → ((φ : Formula) (m : ℕ) → rec (at + 1) ≡ formula φ m → m ≡ at + 1 + size φ)
      → extent under seen at (operands v a s c rec at) ≡ reading c (λ u x m. extent u x m (rec m)) v a s (note_if (under || carries c) seen at) at
  unfolding extent operands reading seen_in
  operands_read (Leaf c) rec sized = rw or-false
  operands_read Fact rec sized = extent_numbered fact (λ i. refl) v
  operands_read Action rec sized = extent_numbered action (λ i. refl) a
  operands_read (One o) rec sized = extent_one o (rec (at + 1))
  operands_read (Two o) rec sized = extent_two o rec sized
  operands_read Unknown rec sized = refl

  -- what is answered at a position, by the code that stands there
  pub read_is : (k : Code) → at < length s → k ≡ code_of (get_or s at 0)
      → extent under seen at (parsed v a s at)
      ≡ reading k (λ u x m. extent u x m (parsed v a s m)) v a s (note_if (under || carries k) seen at) at
  read_is k h e =
      ap (extent under seen at) (by_code v a s at k h (sym e)) ∙ operands_read k (parsed v a s) (parsed_size v a s (at + 1))

  -- a formula that was read ends after its first byte
  pub read_grows : (e : End) → Ok e ≡ extent under seen at (parsed v a s at) → at < e.next
  unfolding extent
  read_grows e d = go (parsed v a s at) refl d
    where
      go : (p : Parsed) → parsed v a s at ≡ p → Ok e ≡ extent under seen at p → at < e.next
      go (formula φ m) f d = let g : at < m = parsed_grows v a s at φ m f in let h : e.next ≡ m = cc in omega arith
      go (wrong p) f d = cc
