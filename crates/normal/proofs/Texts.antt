-- The text of a node, its bytes in normal form, is its heading and then its operands' texts. b is the sign: true where the formula is written,
-- and false where its negation is.
use Rattle.std.proofs.Common.{◌≡◌, refl, Bool, true, false, List, [], ◌++◌, append-nil, ℕ, ◌+◌, ◌*◌, ◌<◌, ◌≤◌, arith, length, get_or, length-append, ltb}
use Rattle.std.proofs.Common.{ltb-true}
use Rattle.model.specs.declared.Constant.{Constant}
use Rattle.model.specs.declared.Constant.TheVariants.{False, True, Last}
use Rattle.model.specs.declared.Unary.{Unary}
use Rattle.model.specs.declared.Unary.TheVariants.{Not, Next, Eventually, Always}
use Rattle.model.specs.declared.Binary.{Binary}
use Rattle.model.specs.declared.Binary.TheVariants.{And, Or, Until, Release}
use Rattle.model.specs.declared.Code.{Code}
use Rattle.model.specs.declared.Code.TheVariants.{Leaf, Fact, Action, One, Two, Unknown}
use Rattle.model.specs.logic.Formula.{Formula, constant, fact, action, unary, binary, choose, encode}
use Rattle.model.specs.logic.Reading.{Parsed, formula, wrong, then, and_then, numbered, operands}
use Rattle.model.specs.logic.NormalForm.{nnf}
use Rattle.model.specs.logic.Parts.{size}
use Rattle.normal.specs.declared.heading.Head.{Head}
use Rattle.normal.specs.declared.heading.Head.TheVariants.{Nothing, Single, Pair, Triple}
use Rattle.normal.specs.Heading.{bytes_in, head0, head1, head2, head_number, heading, sign}
use Rattle.normal.specs.Writing.{Whole, behind, bytes_of}

text0 : (c : Constant) (b : Bool) → encode (nnf (constant c) b) ≡ bytes_in (head0 c b) ++ []
unfolding nnf encode
text0 False true = refl
text0 False false = refl
text0 True true = refl
text0 True false = refl
text0 Last true = refl
text0 Last false = refl

text_fact : (n : ℕ) (b : Bool) → encode (nnf (fact n) b) ≡ bytes_in (head_number 0x03 n b) ++ []
unfolding nnf encode
text_fact n true = refl
text_fact n false = refl

text_action : (n : ℕ) (b : Bool) → encode (nnf (action n) b) ≡ bytes_in (head_number 0x04 n b) ++ []
unfolding nnf encode
text_action n true = refl
text_action n false = refl

text1 : (o : Unary) (φ : Formula) (b : Bool) → encode (nnf (unary o φ) b) ≡ bytes_in (head1 o b) ++ encode (nnf φ (sign o b))
unfolding nnf encode
text1 Not φ true = refl
text1 Not φ false = refl
text1 Next φ true = refl
text1 Next φ false = refl
text1 Eventually φ true = refl
text1 Eventually φ false = refl
text1 Always φ true = refl
text1 Always φ false = refl

text2 : (o : Binary) (φ ψ : Formula) (b : Bool) → encode (nnf (binary o φ ψ) b) ≡ bytes_in (head2 o b) ++ (encode (nnf φ b) ++ encode (nnf ψ b))
unfolding nnf encode
text2 And φ ψ true = refl
text2 And φ ψ false = refl
text2 Or φ ψ true = refl
text2 Or φ ψ false = refl
text2 Until φ ψ true = refl
text2 Until φ ψ false = refl
text2 Release φ ψ true = refl
text2 Release φ ψ false = refl

short : (h : Head) → length (bytes_in h) ≤ 3
short Nothing = omega arith
short (Single a) = omega arith
short (Pair a b) = omega arith
short (Triple a b c) = omega arith

-- a text has at most three times as many bytes as the formula
pub text_bound : (φ : Formula) (b : Bool) → length (encode (nnf φ b)) ≤ 3 * size φ
unfolding size
text_bound (constant c) b = rw (text0 c b, append-nil) (short (head0 c b))
text_bound (fact n) b = rw (text_fact n b, append-nil) (omega (arith, short (head_number 0x03 n b)))
text_bound (action n) b = rw (text_action n b, append-nil) (omega (arith, short (head_number 0x04 n b)))
text_bound (unary o φ) b = rw (text1 o φ b, length-append) (omega (arith, short (head1 o b), text_bound φ (sign o b)))
text_bound (binary o φ ψ) b = rw (text2 o φ ψ b, length-append, length-append) (omega (arith, short (head2 o b), text_bound φ b, text_bound ψ b))

-- what was read has a text of a heading and a rest, and ends at a position
pub record Node (p : Parsed) (b : Bool) (head rest : List ℕ) (end : ℕ) : Type 0 where
  pub text : bytes_of p b ≡ head ++ rest
  pub ends : behind p ≡ end

-- ---- what was read by a code, where rec reads the operands
module _ (s : List ℕ) (at : ℕ) (b : Bool) (rec : ℕ → Parsed) where
  abbrev Read : Code → Parsed
  Read k = operands 64 64 s k rec at

  -- the node of a code, with what follows its heading
  abbrev pub NodeOf : Code → List ℕ → ℕ → Type 0
  NodeOf k rest end = Node (Read k) b (heading k (get_or s (at + 1) 0) b) rest end

  pub read_leaf : (c : Constant) → NodeOf (Leaf c) [] (at + 1)
  unfolding operands behind bytes_of
  read_leaf c = record { text = text0 c b; ends = refl }

  abbrev found : (ℕ → Formula) → Parsed
  found f = formula (f (get_or s (at + 1) 0)) (at + 1 + 1)

  -- a number that was read was there
  read_number : (f : ℕ → Formula) → Whole (numbered 64 64 s f 64 (at + 1)) → (at + 1 < length s) × (numbered 64 64 s f 64 (at + 1) ≡ found f)
  unfolding numbered Whole
  read_number f w = go (ltb (at + 1) (length s)) (ltb (get_or s (at + 1) 0) 64) refl w
    where
      go : (t u : Bool) → ltb (at + 1) (length s) ≡ t → Whole (choose t (choose u (found f) (wrong (at + 1))) (wrong (length s)))
          → (at + 1 < length s) × (choose t (choose u (found f) (wrong (at + 1))) (wrong (length s)) ≡ found f)
      go false u e w = absurd w
      go true false e w = absurd w
      go true true e w = (ltb-true (at + 1) (length s) e, refl)

  pub read_fact : Whole (Read Fact) → (at + 1 < length s) × NodeOf Fact [] (at + 1 + 1)
  unfolding operands behind bytes_of
  read_fact w = let x = read_number fact w in (x.0, rw x.1 (record { text = text_fact _ b; ends = refl }))

  pub read_action : Whole (Read Action) → (at + 1 < length s) × NodeOf Action [] (at + 1 + 1)
  unfolding operands behind bytes_of
  read_action w = let x = read_number action w in (x.0, rw x.1 (record { text = text_action _ b; ends = refl }))

  pub read_one : (o : Unary) → Whole (Read (One o)) → (let p = rec (at + 1) in Whole p × NodeOf (One o) (bytes_of p (sign o b)) (behind p))
  unfolding operands then Whole behind bytes_of
  read_one o w = go (rec (at + 1)) w
    where
      go : (p : Parsed) → Whole (then (unary o) p) → Whole p × Node (then (unary o) p) b (bytes_in (head1 o b)) (bytes_of p (sign o b)) (behind p)
      go (formula φ m) w = (tt, record { text = text1 o φ b; ends = refl })
      go (wrong p) w = absurd w

  pub read_two : (o : Binary) → Whole (Read (Two o))
      → (let p = rec (at + 1) in
      let q = rec (behind p) in
      Whole p × Whole q × NodeOf (Two o) (bytes_of p b ++ bytes_of q b) (behind q))
  unfolding operands then and_then Whole behind bytes_of
  read_two o w = first (rec (at + 1)) w
    where
      second : (φ : Formula) (q : Parsed) → Whole (then (binary o φ) q)
          → Unit {0} × Whole q × Node (then (binary o φ) q) b (bytes_in (head2 o b)) (encode (nnf φ b) ++ bytes_of q b) (behind q)
      second φ (formula ψ m) w = (tt, tt, record { text = text2 o φ ψ b; ends = refl })
      second φ (wrong p) w = absurd w

      first : (p : Parsed) → Whole (and_then p (λ φ m. then (binary o φ) (rec m)))
          → (let q = rec (behind p) in
          Whole p × Whole q × Node (and_then p (λ φ m. then (binary o φ) (rec m))) b (bytes_in (head2 o b)) (bytes_of p b ++ bytes_of q b) (behind q))
      first (formula φ m) w = second φ (rec m) w
      first (wrong p) w = absurd w

  -- whatever the code is, the text begins with its heading
  pub read_any : (k : Code) → Whole (Read k) → (rest : List ℕ) × (end : ℕ) × NodeOf k rest end
  unfolding operands Whole
  read_any (Leaf c) w = (_, _, read_leaf c)
  read_any Fact w = (_, _, (read_fact w).1)
  read_any Action w = (_, _, (read_action w).1)
  read_any (One o) w = (_, _, (read_one o w).1)
  read_any (Two o) w = (_, _, (read_two o w).2)
  read_any Unknown w = absurd w
