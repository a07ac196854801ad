-- The node at a position: that its heading has room, what its operands are, and where it ends.
use Rattle.std.proofs.Common.{◌≡◌, refl, sym, ap, ◌∙◌, subst, Bool, ◌⊎◌, inl, inr, List, [], ◌++◌, ℕ, ◌+◌, ◌<◌, ◌≤◌, arith, length, get_or, length-append}
use Rattle.std.proofs.Math.Path.{subst⁻¹}
use Rattle.std.proofs.Math.Decide.{dec_lt}
use Rattle.model.specs.declared.Constant.{Constant}
use Rattle.model.specs.declared.Unary.{Unary}
use Rattle.model.specs.declared.Binary.{Binary}
use Rattle.model.specs.declared.Code.{Code}
use Rattle.model.specs.declared.Code.TheVariants.{Leaf, Fact, Action, One, Two, Unknown}
use Rattle.model.specs.logic.Formula.{code_of}
use Rattle.model.specs.logic.Reading.{Parsed, formula, wrong, operands, parsed}
use Rattle.model.proofs.logic.ReadingLaws.{at_the_end, by_code, parsed_grows}
use Rattle.normal.specs.Heading.{heading, sign}
use Rattle.normal.specs.Writing.{Whole, behind, bytes_of, Room}
use Rattle.normal.proofs.Texts.{Node, NodeOf, read_leaf, read_fact, read_action, read_one, read_two, read_any}

-- a formula that was read begins before the end of the bytes
pub inside : (s : List ℕ) (at : ℕ) → Whole (parsed 64 64 s at) → at < length s
unfolding Whole
inside s at w = go (dec_lt at (length s))
  where
    go : Dec (at < length s) → at < length s
    go (yes l) = l
    go (no l) = absurd (subst Whole (at_the_end 64 64 s at (omega arith)) w)

-- a formula that was read ends after the position where it begins
pub grows : (s : List ℕ) (at : ℕ) → Whole (parsed 64 64 s at) → at < behind (parsed 64 64 s at)
unfolding Whole behind
grows s at w = go (parsed 64 64 s at) refl w
  where
    go : (p : Parsed) → parsed 64 64 s at ≡ p → Whole p → at < behind p
    go (formula φ n) e w = parsed_grows 64 64 s at φ n e
    go (wrong p) e w = absurd w

-- the node at a position of s, which has room from to on, and its code
pub record Met (s : List ℕ) (at : ℕ) (b : Bool) (to size : ℕ) (k : Code) : Type 0 where
  pub room : Room (parsed 64 64 s at) b to size
  pub code : k ≡ code_of (get_or s at 0)

pub met : {s : List ℕ} {at : ℕ} {b : Bool} {to size : ℕ} {k : Code} → Room (parsed 64 64 s at) b to size → k ≡ code_of (get_or s at 0)
    → Met s at b to size k
met r e = record { room = r; code = e }

module _ {s : List ℕ} {at : ℕ} {b : Bool} {to size : ℕ} {k : Code} (m : Met s at b to size k) where
  -- what was read here is what its code asks to read
  told : (j : Code) → k ≡ j → parsed 64 64 s at ≡ operands 64 64 s j (parsed 64 64 s) at
  told j e = by_code 64 64 s at j (inside s at m.room.0) (sym m.code ∙ e)

  whole : (j : Code) → k ≡ j → Whole (operands 64 64 s j (parsed 64 64 s) at)
  whole j e = subst Whole (told j e) m.room.0

  abbrev pub NodeHere : List ℕ → ℕ → Type 0
  NodeHere rest end = Node (parsed 64 64 s at) b (heading k (get_or s (at + 1) 0) b) rest end

  -- a node of the code is a node here
  here : (j : Code) (e : k ≡ j) (rest : List ℕ) (end : ℕ) → NodeOf s at b (parsed 64 64 s) j rest end → NodeHere rest end
  here j e rest end x =
      subst⁻¹ (λ (p : Parsed). Node p b (heading k (get_or s (at + 1) 0) b) rest end) (told j e)
      (subst⁻¹ (λ (i : Code). Node (operands 64 64 s j (parsed 64 64 s) at) b (heading i (get_or s (at + 1) 0) b) rest end) e x)

  -- ---- the node, by its code
  unknown : k ≡ Unknown → ⊥
  unfolding operands Whole
  unknown e = whole Unknown e

  pub leaf_node : ((c : Constant) × (k ≡ Leaf c)) ⊎ (k ≡ Unknown) → NodeHere [] (at + 1)
  leaf_node (inl (c, e)) = here (Leaf c) e _ _ (read_leaf s at b (parsed 64 64 s) c)
  leaf_node (inr e) = absurd (unknown e)

  pub number_node : (k ≡ Fact) ⊎ (k ≡ Action) → (at + 1 < length s) × NodeHere [] (at + 1 + 1)
  number_node (inl e) = let x = read_fact s at b (parsed 64 64 s) (whole Fact e) in (x.0, here Fact e _ _ x.1)
  number_node (inr e) = let x = read_action s at b (parsed 64 64 s) (whole Action e) in (x.0, here Action e _ _ x.1)

  pub one_node : (o : Unary) → k ≡ One o → (let p = parsed 64 64 s (at + 1) in Whole p × NodeHere (bytes_of p (sign o b)) (behind p))
  one_node o e = let x = read_one s at b (parsed 64 64 s) o (whole (One o) e) in (x.0, here (One o) e _ _ x.1)

  pub two_node : (o : Binary) → k ≡ Two o
      → (let p = parsed 64 64 s (at + 1) in
      let q = parsed 64 64 s (behind p) in
      Whole p × Whole q × NodeHere (bytes_of p b ++ bytes_of q b) (behind q))
  two_node o e = let x = read_two s at b (parsed 64 64 s) o (whole (Two o) e) in (x.0, x.1, here (Two o) e _ _ x.2)

  -- the heading has room
  pub head_fits : to + length (heading k (get_or s (at + 1) 0) b) ≤ size
  head_fits =
      let x = read_any s at b (parsed 64 64 s) k (whole k refl) in
      let n = here k refl x.0 x.1 x.2 in
      omega (arith, ap length n.text, length-append (heading k (get_or s (at + 1) 0) b) x.0, m.room.1)
