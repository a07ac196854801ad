-- Laws of reading: a formula is read where it stands in the bytes, node by node.
use mathlib.Core.Path.{◌≡◌, refl, sym, ap, ◌∙◌, subst}
use mathlib.Core.Bool.{Bool, true, false}
use mathlib.Core.List.{List}
use Prim.Native.Nat.{ℕ, zero, suc, ◌+◌, ◌-◌, ◌<◌, ◌≤◌}
use native.Mathlib.Omega.{arith}
use lib.ListN.{length, get_or}
use lib.Dec.{ltb, eqb}
use borrow.Author.Tests.{lt-ltb, le-ltb, ltb-true, eq-eqb, eqb-true}
use Rattle.model.specs.declared.Code.{Code}
use Rattle.model.specs.declared.Code.TheVariants.{Leaf, Fact, Action, One, Two, Unknown}
use Rattle.model.specs.logic.Formula.{Formula, constant, fact, action, unary, binary, choose, code_of, byte0, byte1, byte2}
use Rattle.model.specs.logic.Parts.{size}
use Rattle.model.specs.logic.Reading.{Parsed, formula, wrong, then, and_then, numbered, operands, node, parse, parsed, whole, section}
use Rattle.model.proofs.logic.Codes.{Byte, code_byte, code0, code1, code2}

-- ---- what a reading that succeeds was made of
apart : {A : Type 0} (p : ℕ) (φ : Formula) (n : ℕ) → wrong p ≡ formula φ n → A
apart p φ n e = let z : ◌≡◌ {A = ℕ} 0 1 = cc in absurd (omega arith)

then_from : (f : Formula → Formula) (p : Parsed) (ψ : Formula) (n : ℕ) → then f p ≡ formula ψ n → (φ : Formula) × (p ≡ formula φ n) × (f φ ≡ ψ)
unfolding then
then_from f (formula φ m) ψ n e = (φ, cc, cc)
then_from f (wrong p) ψ n e = apart p ψ n e

and_then_from : (p : Parsed) (k : Formula → ℕ → Parsed) (ψ : Formula) (n : ℕ) → and_then p k ≡ formula ψ n
    → (φ : Formula) × (m : ℕ) × (p ≡ formula φ m) × (k φ m ≡ formula ψ n)
unfolding and_then
and_then_from (formula φ m) k ψ n e = (φ, m, refl, e)
and_then_from (wrong p) k ψ n e = apart p ψ n e

size_pos : (φ : Formula) → 0 < size φ
unfolding size
size_pos (constant c) = omega arith
size_pos (fact i) = omega arith
size_pos (action k) = omega arith
size_pos (unary o φ) = omega arith
size_pos (binary o φ ψ) = omega arith

module _ (v a : ℕ) (s : List ℕ) where
  -- a formula stands at a position: its bytes are there, and its numbers are below v and a
  abbrev pub Stands : Formula → ℕ → Type 0
  Stands (constant c) at = (at < length s) × (get_or s at 0 ≡ byte0 c)
  Stands (fact i) at = (at < length s) × (get_or s at 0 ≡ 0x03) × (at + 1 < length s) × (get_or s (at + 1) 0 ≡ i) × (i < v)
  Stands (action k) at = (at < length s) × (get_or s at 0 ≡ 0x04) × (at + 1 < length s) × (get_or s (at + 1) 0 ≡ k) × (k < a)
  Stands (unary o φ) at = (at < length s) × (get_or s at 0 ≡ byte1 o) × Stands φ (at + 1)
  Stands (binary o φ ψ) at = (at < length s) × (get_or s at 0 ≡ byte2 o) × Stands φ (at + 1) × Stands ψ (at + 1 + size φ)

  -- what was read at a position stands there, up to n
  abbrev Read : Formula → ℕ → ℕ → Type 0
  Read φ at n = Stands φ at × (n ≡ at + size φ)

  numbered_from : (f : ℕ → Formula) (b at : ℕ) (φ : Formula) (n : ℕ) → numbered v a s f b at ≡ formula φ n
      → (at < length s) × (get_or s at 0 < b) × (f (get_or s at 0) ≡ φ) × (at + 1 ≡ n)
  unfolding numbered
  numbered_from f b at φ n e = go (ltb at (length s)) (ltb (get_or s at 0) b) refl refl e
    where
      go : (t u : Bool) → ltb at (length s) ≡ t → ltb (get_or s at 0) b ≡ u
          → choose t (choose u (formula (f (get_or s at 0)) (at + 1)) (wrong at)) (wrong (length s)) ≡ formula φ n
          → (at < length s) × (get_or s at 0 < b) × (f (get_or s at 0) ≡ φ) × (at + 1 ≡ n)
      go false u d g e = apart _ φ n e
      go true false d g e = apart _ φ n e
      go true true d g e = (ltb-true at (length s) d, ltb-true (get_or s at 0) b g, cc, cc)

  module _ (rec : ℕ → Parsed) (up : (m : ℕ) (φ : Formula) (n : ℕ) → rec m ≡ formula φ n → Read φ m n) where
    operands_read : (c : Code) (at : ℕ) → at < length s → Byte (get_or s at 0) c → (φ : Formula) (n : ℕ) → operands v a s c rec at ≡ formula φ n → Read φ at n
    unfolding operands size
    operands_read (Leaf c) at l b φ n e =
        let d : constant c ≡ φ = cc in
        let g : at + 1 ≡ n = cc in
        subst (λ (ψ : Formula). Read ψ at n) d ((l, b), omega arith)
    operands_read Fact at l b φ n e =
        let x = numbered_from fact v (at + 1) φ n e in
        subst (λ (ψ : Formula). Read ψ at n) x.2 ((l, b, x.0, refl, x.1), omega arith)
    operands_read Action at l b φ n e =
        let x = numbered_from action a (at + 1) φ n e in
        subst (λ (ψ : Formula). Read ψ at n) x.2 ((l, b, x.0, refl, x.1), omega arith)
    operands_read (One o) at l b φ n e =
        let x = then_from (unary o) (rec (at + 1)) φ n e in
        let y = up (at + 1) x.0 n x.1 in
        subst (λ (ψ : Formula). Read ψ at n) x.2 ((l, b, y.0), omega arith)
    operands_read (Two o) at l b φ n e =
        let x = and_then_from (rec (at + 1)) _ φ n e in
        let y = up (at + 1) x.0 x.1 x.2 in
        let z = then_from (binary o x.0) (rec x.1) φ n x.3 in
        let u = up x.1 z.0 n z.1 in
        subst (λ (ψ : Formula). Read ψ at n) z.2 ((l, b, y.0, subst (Stands z.0) y.1 u.0), omega arith)
    operands_read Unknown at l b φ n e = apart at φ n e

    node_read : (at : ℕ) (φ : Formula) (n : ℕ) → node v a s rec at ≡ formula φ n → Read φ at n
    unfolding node
    node_read at φ n e = go (ltb at (length s)) refl e
      where
        go : (t : Bool) → ltb at (length s) ≡ t → choose t (operands v a s (code_of (get_or s at 0)) rec at) (wrong (length s)) ≡ formula φ n → Read φ at n
        go false d e = apart _ φ n e
        go true d e = operands_read (code_of (get_or s at 0)) at (ltb-true at (length s) d) (code_byte (get_or s at 0)) φ n e

  parse_read : (k at : ℕ) (φ : Formula) (n : ℕ) → parse v a s k at ≡ formula φ n → Read φ at n
  unfolding parse
  parse_read zero at φ n e = apart _ φ n e
  parse_read (suc k) at φ n e = node_read (parse v a s k) (parse_read k) at φ n e

  -- ---- reading goes by one node: enough fuel is enough
  parse_grows : (k at : ℕ) (φ : Formula) (n : ℕ) → parse v a s k at ≡ formula φ n → at < n
  parse_grows k at φ n e = omega (arith, (parse_read k at φ n e).1, size_pos φ)

  -- two readers that agree after a position agree at the position
  module _ (rec rec' : ℕ → Parsed) (up : (m : ℕ) (φ : Formula) (n : ℕ) → rec m ≡ formula φ n → m < n) where
    operands_same : (c : Code) (at : ℕ) → ((m : ℕ) → at < m → rec m ≡ rec' m) → operands v a s c rec at ≡ operands v a s c rec' at
    unfolding operands and_then
    operands_same (Leaf c) at h = refl
    operands_same Fact at h = refl
    operands_same Action at h = refl
    operands_same (One o) at h = ap (then (unary o)) (h (at + 1) (omega arith))
    operands_same (Two o) at h =
        go (rec (at + 1)) refl ∙ ap (λ (p : Parsed). and_then p (λ φ m. then (binary o φ) (rec' m))) (h (at + 1) (omega arith))
      where
        go : (p : Parsed) → rec (at + 1) ≡ p → and_then p (λ φ m. then (binary o φ) (rec m)) ≡ and_then p (λ φ m. then (binary o φ) (rec' m))
        go (formula φ m) e = let d : at + 1 < m = up (at + 1) φ m e in ap (then (binary o φ)) (h m (omega arith))
        go (wrong p) e = refl
    operands_same Unknown at h = refl

    node_same : (at : ℕ) → (at < length s → (m : ℕ) → at < m → rec m ≡ rec' m) → node v a s rec at ≡ node v a s rec' at
    unfolding node
    node_same at h = go (ltb at (length s)) refl
      where
        go : (t : Bool) → ltb at (length s) ≡ t → choose t (operands v a s (code_of (get_or s at 0)) rec at) (wrong (length s))
            ≡ choose t (operands v a s (code_of (get_or s at 0)) rec' at) (wrong (length s))
        go false e = refl
        go true e = operands_same (code_of (get_or s at 0)) at (h (ltb-true at (length s) e))

  node_end : (rec : ℕ → Parsed) (at : ℕ) → length s ≤ at → node v a s rec at ≡ wrong (length s)
  unfolding node
  node_end rec at h = ap (λ (t : Bool). choose t (operands v a s (code_of (get_or s at 0)) rec at) (wrong (length s))) (le-ltb at (length s) h)

  enough : (k j at : ℕ) → length s - at ≤ k → length s - at ≤ j → parse v a s k at ≡ parse v a s j at
  unfolding parse
  enough zero zero at h g = refl
  enough zero (suc j) at h g = sym (node_end (parse v a s j) at (omega arith))
  enough (suc k) zero at h g = node_end (parse v a s k) at (omega arith)
  enough (suc k) (suc j) at h g = node_same (parse v a s k) (parse v a s j) (parse_grows k) at (λ i m l. enough k j m (omega arith) (omega arith))

  -- a formula is read node by node
  pub parsed_is : (at : ℕ) → parsed v a s at ≡ node v a s (parsed v a s) at
  unfolding parsed parse
  parsed_is at =
      enough (length s - at) (suc (length s - at)) at (omega arith) (omega arith)
      ∙ node_same (parse v a s (length s - at)) (parsed v a s) (parse_grows (length s - at)) at
      (λ i m l. enough (length s - at) (length s - m) m (omega arith) (omega arith))

  -- at the end of the bytes nothing is read
  pub at_the_end : (at : ℕ) → length s ≤ at → parsed v a s at ≡ wrong (length s)
  at_the_end at h = parsed_is at ∙ node_end (parsed v a s) at h

  -- at a byte of a code, what follows is read by that code
  pub by_code : (at : ℕ) (c : Code) → at < length s → code_of (get_or s at 0) ≡ c → parsed v a s at ≡ operands v a s c (parsed v a s) at
  unfolding node
  by_code at c h e =
      parsed_is at ∙ ap (λ (t : Bool). choose t (operands v a s (code_of (get_or s at 0)) (parsed v a s) at) (wrong (length s))) (lt-ltb at (length s) h)
      ∙ ap (λ (d : Code). operands v a s d (parsed v a s) at) e

  -- ---- what was read, and what is read
  -- what was read at a position stands there
  pub parsed_stands : (at : ℕ) (φ : Formula) (n : ℕ) → parsed v a s at ≡ formula φ n → Stands φ at
  unfolding parsed
  parsed_stands at φ n e = (parse_read (length s - at) at φ n e).0

  -- the position after a formula is as many bytes on as it has
  pub parsed_size : (at : ℕ) (φ : Formula) (n : ℕ) → parsed v a s at ≡ formula φ n → n ≡ at + size φ
  unfolding parsed
  parsed_size at φ n e = (parse_read (length s - at) at φ n e).1

  -- a formula ends after the position where it starts
  pub parsed_grows : (at : ℕ) (φ : Formula) (n : ℕ) → parsed v a s at ≡ formula φ n → at < n
  parsed_grows at φ n e = omega (arith, parsed_size at φ n e, size_pos φ)

  numbered_is : (f : ℕ → Formula) (b at i : ℕ) → at < length s → get_or s at 0 ≡ i → i < b → numbered v a s f b at ≡ formula (f i) (at + 1)
  unfolding numbered
  numbered_is f b at i l e h = rw (e, lt-ltb at (length s) l, lt-ltb i b h)

  -- what stands at a position is read there
  pub stands_parsed : (φ : Formula) (at : ℕ) → Stands φ at → parsed v a s at ≡ formula φ (at + size φ)
  unfolding operands size then and_then code_of
  stands_parsed (constant c) at h = by_code at (Leaf c) h.0 (ap code_of h.1 ∙ code0 c)
  stands_parsed (fact i) at h =
      by_code at Fact h.0 (ap code_of h.1) ∙ numbered_is fact v (at + 1) i h.2 h.3 h.4 ∙ ap (formula (fact i)) (omega arith)
  stands_parsed (action k) at h =
      by_code at Action h.0 (ap code_of h.1) ∙ numbered_is action a (at + 1) k h.2 h.3 h.4 ∙ ap (formula (action k)) (omega arith)
  stands_parsed (unary o φ) at h =
      by_code at (One o) h.0 (ap code_of h.1 ∙ code1 o) ∙ ap (then (unary o)) (stands_parsed φ (at + 1) h.2)
      ∙ ap (formula (unary o φ)) (omega arith)
  stands_parsed (binary o φ ψ) at h =
      by_code at (Two o) h.0 (ap code_of h.1 ∙ code2 o)
      ∙ ap (λ (p : Parsed). and_then p (λ χ m. then (binary o χ) (parsed v a s m))) (stands_parsed φ (at + 1) h.2)
      ∙ ap (then (binary o φ)) (stands_parsed ψ (at + 1 + size φ) h.3) ∙ ap (formula (binary o φ ψ)) (omega arith)

  -- a formula that stands in the bytes does not reach past their end
  stands_inside : (φ : Formula) (at : ℕ) → Stands φ at → at + size φ ≤ length s
  unfolding size
  stands_inside (constant c) at h = omega arith
  stands_inside (fact i) at h = omega arith
  stands_inside (action k) at h = omega arith
  stands_inside (unary o φ) at h = omega (arith, stands_inside φ (at + 1) h.2)
  stands_inside (binary o φ ψ) at h = omega (arith, stands_inside ψ (at + 1 + size φ) h.3)

  -- what was read does not reach past the end of the bytes
  pub parsed_inside : (at : ℕ) (φ : Formula) (n : ℕ) → parsed v a s at ≡ formula φ n → n ≤ length s
  parsed_inside at φ n e = omega (arith, parsed_size at φ n e, stands_inside φ at (parsed_stands at φ n e))

  -- ---- a whole section
  whole_from : (p : Parsed) (φ : Formula) (n : ℕ) → whole v a s p ≡ formula φ n → (p ≡ formula φ n) × (n ≡ length s)
  unfolding whole
  whole_from (formula ψ m) φ n e = go (eqb m (length s)) refl e
    where
      go : (t : Bool) → eqb m (length s) ≡ t → choose t (formula ψ m) (wrong m) ≡ formula φ n → (formula ψ m ≡ formula φ n) × (n ≡ length s)
      go true d e = let g : m ≡ n = cc in (e, omega (arith, eqb-true m (length s) d))
      go false d e = apart m φ n e
  whole_from (wrong p) φ n e = apart p φ n e

  -- a section holds a formula that is read from the first byte to the last
  pub section_from : (φ : Formula) (n : ℕ) → section v a s ≡ formula φ n → (parsed v a s 0 ≡ formula φ n) × (n ≡ length s)
  unfolding section
  section_from φ n e = whole_from (parsed v a s 0) φ n e

  -- a formula that is read from the first byte to the last is what the section holds
  pub section_is : (φ : Formula) (n : ℕ) → parsed v a s 0 ≡ formula φ n → n ≡ length s → section v a s ≡ formula φ n
  unfolding section whole
  section_is φ n e l = ap (whole v a s) e ∙ rw (eq-eqb n (length s) l)

-- with more facts and actions
module _ (v a v' a' : ℕ) (s : List ℕ) (hv : v ≤ v') (ha : a ≤ a') where
  stands_wider : (φ : Formula) (at : ℕ) → Stands v a s φ at → Stands v' a' s φ at
  stands_wider (constant c) at h = h
  stands_wider (fact i) at h = (h.0, h.1, h.2, h.3, omega arith)
  stands_wider (action k) at h = (h.0, h.1, h.2, h.3, omega arith)
  stands_wider (unary o φ) at h = (h.0, h.1, stands_wider φ (at + 1) h.2)
  stands_wider (binary o φ ψ) at h = (h.0, h.1, stands_wider φ (at + 1) h.2, stands_wider ψ (at + 1 + size φ) h.3)

  -- what is read with fewer facts and actions is read with more
  pub parsed_wider : (at : ℕ) (φ : Formula) (n : ℕ) → parsed v a s at ≡ formula φ n → parsed v' a' s at ≡ formula φ n
  parsed_wider at φ n e =
      stands_parsed v' a' s φ at (stands_wider φ at (parsed_stands v a s at φ n e)) ∙ ap (formula φ) (sym (parsed_size v a s at φ n e))
