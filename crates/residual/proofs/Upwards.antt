-- The table of part i has only the unknowns i and above: the tables that the walk leaves can be put for the unknowns one after the other.
use Rattle.std.proofs.Common.{◌≡◌, refl, sym, ap, ap₂, ◌∙◌, ℕ, zero, suc, ◌+◌, ◌<◌, ◌≤◌, Bool, true, false, ◌||◌, List, [], ◌∷◌, arith, get_or, set, replicate}
use Rattle.std.specs.Bool.{then_some}
use Rattle.model.specs.Bits.{bit}
use Rattle.model.specs.logic.Formula.{Formula, constant, fact, action, unary, binary}
use Rattle.model.specs.logic.Parts.{most_parts, size, count, temporal1, temporal2}
use Rattle.model.proofs.bits.Bits.{bit_zero}
use Rattle.bits.specs.Tables.{Upward}
use Rattle.formula.specs.Extent.{is_next}
use Rattle.residual.specs.Facts.{Valuation}
use Rattle.residual.specs.Node.{after, truth, truth1, truth2, ahead, of_nothing1, of_nothing2, table_of}
use Rattle.residual.specs.Walk.{starts, put, behind, filled}
use Rattle.residual.proofs.Nodes.{bit_table}
use Rattle.residual.proofs.Numbers.{starts_le}

-- ---- a formula's truth goes by the parts from its first on
abbrev SameFrom : ℕ → (ℕ → Bool) → (ℕ → Bool) → Type 0
SameFrom n s s' = (j : ℕ) → n ≤ j → s j ≡ s' j

-- the number inside is not below a formula's own
after_from : (carried : Bool) (n m : ℕ) (s s' : ℕ → Bool) → SameFrom n s s' → SameFrom (after carried n + m) s s'
after_from true n m s s' h j l = h j (omega arith)
after_from false n m s s' h j l = h j (omega arith)

module _ (closing : Bool) (v : Valuation) (s s' : ℕ → Bool) where
  truth_from : (φ : Formula) (at n : ℕ) → SameFrom n s s' → truth closing v φ at n s ≡ truth closing v φ at n s'
  unfolding truth
  truth_from (constant c) at n h = refl
  truth_from (fact i) at n h = refl
  truth_from (action a) at n h = refl
  truth_from (unary o φ) at n h =
      ap₂ (truth1 o) (truth_from φ (suc at) (after (temporal1 o) n) (λ j l. after_from (temporal1 o) n 0 s s' h j (omega arith)))
      (ap (ahead closing (of_nothing1 o)) (h n (omega arith)))
  truth_from (binary o φ ψ) at n h = λ j.
      truth2 o
      (truth_from φ (suc at) (after (temporal2 o) n) (λ i l. after_from (temporal2 o) n 0 s s' h i (omega arith)) j)
      (truth_from ψ (suc at + size φ) (after (temporal2 o) n + count φ) (after_from (temporal2 o) n (count φ) s s' h) j)
      (ahead closing (of_nothing2 o) (h n (omega arith) j))

-- ---- tables that go by the unknowns from i on
abbrev From : ℕ → ℕ → Type 0
From i x = (k l : ℕ) → k < 64 → l < 64 → SameFrom i (bit k) (bit l) → bit x k ≡ bit x l

-- what holds of an entry that is stored and of all before holds of all after
set_every : (P : ℕ → ℕ → Type 0) (t : List ℕ) (n x : ℕ) → P n x → ((i : ℕ) → P i (get_or t i 0)) → (i : ℕ) → P i (get_or (set t n x) i 0)
set_every P [] n x p h i = h i
set_every P (y ∷ t) zero x p h zero = p
set_every P (y ∷ t) zero x p h (suc i) = h (suc i)
set_every P (y ∷ t) (suc n) x p h zero = h zero
set_every P (y ∷ t) (suc n) x p h (suc i) = set_every (λ j. P (suc j)) t n x p (λ j. h (suc j)) i

-- tables of which none is filled
pub zeros_at : (n i : ℕ) → ◌≡◌ {A = ℕ} (get_or (replicate n 0) i 0) 0
zeros_at zero i = refl
zeros_at (suc n) zero = refl
zeros_at (suc n) (suc i) = zeros_at n i

abbrev AllFrom : List ℕ → Type 0
AllFrom t = (i : ℕ) → From i (get_or t i 0)

-- AllFrom stays true where a part's table is put in its place
put_every : (part : Bool) (n x : ℕ) (t : List ℕ) → From n x → AllFrom t → AllFrom (put (then_some part n) x t)
put_every true n x t p h = set_every From t n x p h
put_every false n x t p h = h

module _ (closing : Bool) (v : Valuation) where
  -- a formula's table goes by the unknowns from its first part on
  table_from : (φ : Formula) (at n i : ℕ) → i ≤ n → From i (table_of closing v φ at n)
  table_from φ at n i h k l hk hl e =
      bit_table closing v φ at n k hk ∙ truth_from closing v (bit k) (bit l) φ at n (λ j g. e j (omega arith)) ∙ sym (bit_table closing v φ at n l hl)

  -- a part is not numbered above those
  own_from : (φ : Formula) (at : ℕ) (under carried : Bool) (n : ℕ) → From n (table_of closing v φ at (starts under carried n))
  own_from φ at under carried n = table_from φ at (starts under carried n) n (starts_le under carried n)

  -- the walk leaves such tables
  filled_from : (φ : Formula) (at : ℕ) (under : Bool) (n : ℕ) (t : List ℕ) → AllFrom t → AllFrom (filled closing v φ at under n t)
  unfolding filled
  filled_from (constant c) at under n t h = put_every (under || false) n _ t (own_from (constant c) at under false n) h
  filled_from (fact i) at under n t h = put_every (under || false) n _ t (own_from (fact i) at under false n) h
  filled_from (action a) at under n t h = put_every (under || false) n _ t (own_from (action a) at under false n) h
  filled_from (unary o φ) at under n t h =
      put_every (under || temporal1 o) n _ _ (own_from (unary o φ) at under (temporal1 o) n)
      (filled_from φ (suc at) (is_next o) (after (temporal1 o) (starts under (temporal1 o) n)) t h)
  filled_from (binary o φ ψ) at under n t h =
      let m : ℕ = after (temporal2 o) (starts under (temporal2 o) n) in
      put_every (under || temporal2 o) n _ _ (own_from (binary o φ ψ) at under (temporal2 o) n)
      (filled_from ψ (suc at + size φ) false (behind φ false m) (filled closing v φ (suc at) false m t) (filled_from φ (suc at) false m t h))

  -- the tables that the walk leaves, from none on
  pub filled_upward : (φ : Formula) → Upward most_parts (filled closing v φ 0 false 0 (replicate most_parts 0))
  filled_upward φ i l = filled_from φ 0 false 0 (replicate most_parts 0) (λ j k l hk hl e. rw (zeros_at most_parts j) (bit_zero k ∙ sym (bit_zero l))) i
