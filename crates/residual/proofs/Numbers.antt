-- The numbers of the carried parts on the walk: they rise, and come to the count of the parts.
use Rattle.std.proofs.Common.{◌≡◌, refl, sym, ◌∙◌, ℕ, suc, ◌+◌, ◌<◌, ◌≤◌, Bool, true, false, ◌||◌, List, add-zero, arith, length, get_or, ltb, ltb-true, IfSome}
use Rattle.std.specs.Bool.{then_some}
use Rattle.std.proofs.Math.Decide.{dec_lt}
use Rattle.model.specs.declared.Unary.{Unary}
use Rattle.model.specs.declared.Unary.TheVariants.{Not, Next, Eventually, Always}
use Rattle.model.specs.declared.Binary.{Binary}
use Rattle.model.specs.declared.Binary.TheVariants.{And, Or, Until, Release}
use Rattle.model.specs.declared.Code.{Code}
use Rattle.model.specs.declared.Code.TheVariants.{Leaf, Fact, Action, One, Two, Unknown}
use Rattle.model.specs.logic.Formula.{Formula, constant, fact, action, unary, binary, choose}
use Rattle.model.specs.logic.Reading.{Parsed, formula, wrong, then, and_then, numbered, operands, parsed}
use Rattle.model.specs.logic.Parts.{most_bytes, most_parts, count, temporal, temporal1, temporal2}
use Rattle.model.proofs.logic.ReadingLaws.{at_the_end}
use Rattle.formula.specs.Extent.{carries, is_next}
use Rattle.residual.specs.Node.{after}
use Rattle.residual.specs.Walk.{starts, behind, Few}

-- ---- the numbers rise: at a formula's own, inside it, and after it
pub starts_le : (under carried : Bool) (n : ℕ) → n ≤ starts under carried n
starts_le false carried n = omega arith
starts_le true true n = omega arith
starts_le true false n = omega arith

after_le : (carried : Bool) (n : ℕ) → n ≤ after carried n
after_le true n = omega arith
after_le false n = omega arith

behind_le : (φ : Formula) (under : Bool) (n : ℕ) → n ≤ behind φ under n
unfolding behind
behind_le (constant c) under n = starts_le under false n
behind_le (fact i) under n = starts_le under false n
behind_le (action a) under n = starts_le under false n
behind_le (unary o φ) under n =
    omega (
      arith,
      starts_le under (temporal1 o) n,
      after_le (temporal1 o) (starts under (temporal1 o) n),
      behind_le φ (is_next o) (after (temporal1 o) (starts under (temporal1 o) n)),
    )
behind_le (binary o φ ψ) under n =
    let m : ℕ = after (temporal2 o) (starts under (temporal2 o) n) in
    omega (
      arith,
      starts_le under (temporal2 o) n,
      after_le (temporal2 o) (starts under (temporal2 o) n),
      behind_le φ false m,
      behind_le ψ false (behind φ false m),
    )

-- ---- they come to the count

-- the operand of a next is one part more, if it does not begin with one
behind_under : (φ : Formula) (n : ℕ) → behind φ true n ≡ choose (temporal φ) (behind φ false n) (behind φ false (suc n))
unfolding behind temporal
behind_under (constant c) n = refl
behind_under (fact i) n = refl
behind_under (action a) n = refl
behind_under (unary Not φ) n = refl
behind_under (unary Next φ) n = refl
behind_under (unary Eventually φ) n = refl
behind_under (unary Always φ) n = refl
behind_under (binary And φ ψ) n = refl
behind_under (binary Or φ ψ) n = refl
behind_under (binary Until φ ψ) n = refl
behind_under (binary Release φ ψ) n = refl

-- the same of the count
next_count : (b : Bool) (n x : ℕ) → choose b (n + x) (suc n + x) ≡ n + (elim b [ true ↦ x | false ↦ 1 + x ])
next_count true n x = refl
next_count false n x = omega arith

-- the numbers after a formula start its count of parts further on
pub behind_count : (φ : Formula) (n : ℕ) → behind φ false n ≡ n + count φ
unfolding behind count
behind_count (constant c) n = sym (add-zero n)
behind_count (fact i) n = sym (add-zero n)
behind_count (action a) n = sym (add-zero n)
behind_count (unary Not φ) n = behind_count φ n
behind_count (unary Next φ) n =
    behind_under φ n ∙ rw (behind_count φ n, behind_count φ (suc n)) (next_count (temporal φ) n (count φ))
behind_count (unary Eventually φ) n = omega (arith, behind_count φ (suc n))
behind_count (unary Always φ) n = omega (arith, behind_count φ (suc n))
behind_count (binary And φ ψ) n = omega (arith, behind_count ψ (behind φ false n), behind_count φ n)
behind_count (binary Or φ ψ) n = omega (arith, behind_count ψ (behind φ false n), behind_count φ n)
behind_count (binary Until φ ψ) n = omega (arith, behind_count ψ (behind φ false (suc n)), behind_count φ (suc n))
behind_count (binary Release φ ψ) n = omega (arith, behind_count ψ (behind φ false (suc n)), behind_count φ (suc n))

-- ---- what is asked of the operands

-- a formula that is read ends after its position
abbrev pub Grows : (ℕ → Parsed) → Type 0
Grows rec = (at : ℕ) (φ : Formula) (n : ℕ) → rec at ≡ formula φ n → at < n

module _ (under : Bool) (i : ℕ) where
  -- of one operand
  pub one_few : (o : Unary) (p : Parsed) → Few (then (unary o) p) under i → Few p (is_next o) (after (temporal1 o) (starts under (temporal1 o) i))
  unfolding then behind
  one_few o (formula φ n) h = h
  one_few o (wrong p) h = h

  -- of the first of two operands
  pub two_few : (o : Binary) (rec : ℕ → Parsed) → Grows rec → (p : Parsed) → Few (and_then p (λ φ m. then (binary o φ) (rec m))) under i
      → Few p false (after (temporal2 o) (starts under (temporal2 o) i))
  unfolding then and_then behind
  two_few o rec g (wrong p) h = h
  two_few o rec g (formula φ m) h = go (rec m) refl h
    where
      go : (q : Parsed) → rec m ≡ q → Few (then (binary o φ) q) under i
          → (behind φ false (after (temporal2 o) (starts under (temporal2 o) i)) ≤ most_parts) × (m ≤ most_bytes)
      go (formula ψ n) e h =
          (omega (arith, h.0, behind_le ψ false (behind φ false (after (temporal2 o) (starts under (temporal2 o) i)))), omega (arith, h.1, g m ψ n e))
      go (wrong q) e h = absurd h

-- what is asked of a number holds of those before
few_le : (p : Parsed) (u : Bool) (n : ℕ) → Few p u n → n ≤ most_parts
few_le (formula φ m) u n h = omega (arith, h.0, behind_le φ u n)
few_le (wrong p) u n h = absurd h

-- ---- what is asked at a position
module _ (v a : ℕ) (s : List ℕ) (under : Bool) (i : ℕ) where
  -- where something was read, bytes are left
  pub few_inside : (at : ℕ) → Few (parsed v a s at) under i → at < length s
  few_inside at h = go (dec_lt at (length s))
    where
      go : Dec (at < length s) → at < length s
      go (yes l) = l
      go (no g) = absurd (rw (at_the_end v a s at (omega arith)) at h)

  -- a number that was read is there, and below its bound
  pub few_number : (f : ℕ → Formula) (b at : ℕ) → Few (numbered v a s f b at) under i
      → (at < length s) × (get_or s at 0 < b) × (numbered v a s f b at ≡ formula (f (get_or s at 0)) (at + 1))
  unfolding numbered
  few_number f b at h = go (ltb at (length s)) (ltb (get_or s at 0) b) refl refl h
    where
      go : (t u : Bool) → ltb at (length s) ≡ t → ltb (get_or s at 0) b ≡ u
          → Few (choose t (choose u (formula (f (get_or s at 0)) (at + 1)) (wrong at)) (wrong (length s))) under i
          → (at < length s) × (get_or s at 0 < b)
          × (choose t (choose u (formula (f (get_or s at 0)) (at + 1)) (wrong at)) (wrong (length s)) ≡ formula (f (get_or s at 0)) (at + 1))
      go false u e d h = absurd h
      go true false e d h = absurd h
      go true true e d h = (ltb-true at (length s) e, ltb-true (get_or s at 0) b d, refl)

  -- a fact and an action have no number inside
  numbered_le : (f : ℕ → Formula) → ((n : ℕ) → behind (f n) under i ≡ starts under false i) → (b at : ℕ)
      → Few (numbered v a s f b at) under i → starts under false i ≤ most_parts
  numbered_le f e b at h = omega (arith, e (get_or s at 0), (rw (few_number f b at h).2 at h).0)

  -- the first number inside a formula is at most the most parts that there may be
  pub inner_le : (c : Code) (rec : ℕ → Parsed) → Grows rec → (at : ℕ) → Few (operands v a s c rec at) under i
      → after (carries c) (starts under (carries c) i) ≤ most_parts
  unfolding operands behind
  inner_le (Leaf c) rec g at h = h.0
  inner_le Fact rec g at h = numbered_le fact (λ n. refl) v (at + 1) h
  inner_le Action rec g at h = numbered_le action (λ n. refl) a (at + 1) h
  inner_le (One o) rec g at h = few_le (rec (at + 1)) (is_next o) _ (one_few under i o (rec (at + 1)) h)
  inner_le (Two o) rec g at h = few_le (rec (at + 1)) false _ (two_few under i o rec g (rec (at + 1)) h)
  inner_le Unknown rec g at h = absurd h

-- a formula that is a part has the number of an unknown, if those inside have
pub part_below : (under carried : Bool) (i : ℕ) → after carried (starts under carried i) ≤ most_parts
    → IfSome (then_some (under || carried) i) (λ k. k < most_parts)
part_below true true i h = omega arith
part_below true false i h = omega arith
part_below false true i h = omega arith
part_below false false i h = tt

-- the numbers from the start of a formula on are those of unknowns, if those inside are
pub first_le : (under carried : Bool) (i : ℕ) → after carried (starts under carried i) ≤ most_parts → i ≤ most_parts
first_le under carried i h = omega (arith, starts_le under carried i, after_le carried (starts under carried i))
