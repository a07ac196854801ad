-- The tables that the walk leaves are those of the formula's carried parts, in their order: at a setting they make the number of the parts' truths.
use Rattle.std.proofs.Common.{◌≡◌, refl, sym, ap, ◌∙◌, ℕ, zero, suc, ◌+◌, ◌<◌, ◌≤◌, Bool, true, false, List, [], ◌∷◌, ◌++◌, add-zero, zero-add, lt_of_lt_of_le}
use Rattle.std.proofs.Common.{arith, length, get_or, set, replicate, length-set, get_or-set_same, get_or-set_other, pow_mono}
use Rattle.std.proofs.Math.Seq.{set_comm}
use Rattle.model.specs.declared.Unary.TheVariants.{Not, Next, Eventually, Always}
use Rattle.model.specs.declared.Binary.TheVariants.{And, Or, Until, Release}
use Rattle.model.specs.Bits.{bit, bits_of}
use Rattle.model.specs.logic.Formula.{Formula, constant, fact, action, unary, binary, choose}
use Rattle.model.specs.logic.Parts.{most_parts, size, count, temporal, Part, parts, parts_of}
use Rattle.model.proofs.bits.Bits.{of_bits_lt, bit_of_bits, bits_ext, bit_zero}
use Rattle.model.proofs.bits.BitsOf.{bits_of_lt, bits_of_head, bits_of_tail}
use Rattle.model.proofs.logic.PartsLaws.{length-parts}
use Rattle.bits.specs.Tables.{setting_at}
use Rattle.residual.specs.Facts.{Valuation}
use Rattle.residual.specs.Node.{truth, table_of}
use Rattle.residual.specs.Walk.{behind, filled}
use Rattle.residual.proofs.Nodes.{bit_table}
use Rattle.residual.proofs.Numbers.{behind_count}
use Rattle.residual.proofs.Upwards.{zeros_at}

module _ (closing : Bool) (v : Valuation) where
  abbrev table_at : Part → ℕ
  table_at p = table_of closing v p.shape p.position p.first

  -- the tables of a list of parts, stored from n on
  unfoldable stored : List ℕ → ℕ → List Part → List ℕ
  stored t n [] = t
  stored t n (p ∷ ps) = stored (set t n (table_at p)) (suc n) ps

  -- two lists are stored in turn
  stored_append : (t : List ℕ) (n : ℕ) (ps qs : List Part) → stored t n (ps ++ qs) ≡ stored (stored t n ps) (n + length ps) qs
  unfolding stored
  stored_append t n [] qs = ap (λ (m : ℕ). stored t m qs) (sym (add-zero n))
  stored_append t n (p ∷ ps) qs =
      let e : suc n + length ps ≡ n + suc (length ps) = omega arith in
      stored_append (set t n (table_at p)) (suc n) ps qs ∙ ap (λ (m : ℕ). stored (stored (set t n (table_at p)) (suc n) ps) m qs) e

  -- a table below can be stored before or after
  stored_set : (t : List ℕ) (m n x : ℕ) (ps : List Part) → n < m → set (stored t m ps) n x ≡ stored (set t n x) m ps
  unfolding stored
  stored_set t m n x [] h = refl
  stored_set t m n x (p ∷ ps) h =
      stored_set (set t m (table_at p)) (suc m) n x ps (omega arith)
      ∙ ap (λ (l : List ℕ). stored l (suc m) ps) (set_comm t m n (table_at p) x (λ e. omega arith))

  -- ---- the walk stores the parts' tables

  -- the operand of a next is stored, if it is not stored anyway
  filled_under : (φ : Formula) (at n : ℕ) (t : List ℕ)
      → filled closing v φ at true n t
      ≡ choose (temporal φ) (filled closing v φ at false n t) (set (filled closing v φ at false (suc n) t) n (table_of closing v φ at (suc n)))
  unfolding filled temporal
  filled_under (constant c) at n t = refl
  filled_under (fact i) at n t = refl
  filled_under (action a) at n t = refl
  filled_under (unary Not φ) at n t = refl
  filled_under (unary Next φ) at n t = refl
  filled_under (unary Eventually φ) at n t = refl
  filled_under (unary Always φ) at n t = refl
  filled_under (binary And φ ψ) at n t = refl
  filled_under (binary Or φ ψ) at n t = refl
  filled_under (binary Until φ ψ) at n t = refl
  filled_under (binary Release φ ψ) at n t = refl

  -- the operand of a next is among the parts, if it is not among them anyway
  stored_next : (b : Bool) (p : Part) (t : List ℕ) (n : ℕ) (xs ys : List Part) {x y : List ℕ} → y ≡ stored t n ys → x ≡ stored t (suc n) xs
      → choose b y (set x n (table_at p)) ≡ stored t n (elim b [ true ↦ ys | false ↦ p ∷ xs ])
  unfolding stored
  stored_next true p t n xs ys e f = e
  stored_next false p t n xs ys e f = ap (λ (l : List ℕ). set l n (table_at p)) f ∙ stored_set t (suc n) n (table_at p) xs (omega arith)

  -- what the walk leaves of a formula are its parts' tables, wherever it stands
  abbrev FilledParts : Formula → Type 0
  FilledParts φ = (n at : ℕ) (t : List ℕ) → filled closing v φ at false n t ≡ stored t n (parts φ n at)

  abbrev both_parts : Formula → Formula → ℕ → ℕ → List Part
  both_parts φ ψ n at = parts φ n at ++ parts ψ (n + count φ) (at + size φ)

  -- two operands' tables are stored in turn
  in_turn_lem : (φ ψ : Formula) → FilledParts φ → FilledParts ψ → (n at : ℕ) (t : List ℕ)
      → filled closing v ψ (at + size φ) false (behind φ false n) (filled closing v φ at false n t) ≡ stored t n (both_parts φ ψ n at)
  in_turn_lem φ ψ e f n at t =
      let qs : List Part = parts ψ (n + count φ) (at + size φ) in
      ap (λ (m : ℕ). filled closing v ψ (at + size φ) false m (filled closing v φ at false n t)) (behind_count φ n)
      ∙ f (n + count φ) (at + size φ) (filled closing v φ at false n t)
      ∙ ap (λ (l : List ℕ). stored l (n + count φ) qs) (e n at t)
      ∙ ap (λ (m : ℕ). stored (stored t n (parts φ n at)) (n + m) qs) (sym (length-parts φ n at))
      ∙ sym (stored_append t n (parts φ n at) qs)

  -- a formula that begins with 21 to 24 is stored after the parts inside it
  part_last : (φ : Formula) (n at : ℕ) (t : List ℕ) (ps : List Part) {x : List ℕ} → x ≡ stored t (suc n) ps
      → set x n (table_of closing v φ at n) ≡ stored t n (record { shape = φ; position = at; first = n } ∷ ps)
  part_last φ n at t ps e = stored_next false (record { shape = φ; position = at; first = n }) t n ps [] refl e

  -- that holds of every formula
  filled_parts : (φ : Formula) → FilledParts φ
  unfolding filled parts stored
  filled_parts (constant c) n at t = refl
  filled_parts (fact i) n at t = refl
  filled_parts (action a) n at t = refl
  filled_parts (unary Not φ) n at t = filled_parts φ n (suc at) t
  filled_parts (unary Next φ) n at t =
      filled_under φ (suc at) n t ∙ stored_next (temporal φ) _ t n _ _ (filled_parts φ n (suc at) t) (filled_parts φ (suc n) (suc at) t)
  filled_parts (unary Eventually φ) n at t =
      part_last (unary Eventually φ) n at t (parts φ (suc n) (suc at)) (filled_parts φ (suc n) (suc at) t)
  filled_parts (unary Always φ) n at t = part_last (unary Always φ) n at t (parts φ (suc n) (suc at)) (filled_parts φ (suc n) (suc at) t)
  filled_parts (binary And φ ψ) n at t = in_turn_lem φ ψ (filled_parts φ) (filled_parts ψ) n (suc at) t
  filled_parts (binary Or φ ψ) n at t = in_turn_lem φ ψ (filled_parts φ) (filled_parts ψ) n (suc at) t
  filled_parts (binary Until φ ψ) n at t =
      part_last (binary Until φ ψ) n at t (both_parts φ ψ (suc n) (suc at)) (in_turn_lem φ ψ (filled_parts φ) (filled_parts ψ) (suc n) (suc at) t)
  filled_parts (binary Release φ ψ) n at t =
      part_last (binary Release φ ψ) n at t (both_parts φ ψ (suc n) (suc at)) (in_turn_lem φ ψ (filled_parts φ) (filled_parts ψ) (suc n) (suc at) t)

  -- ---- the entries that were stored

  -- the entries below stay
  stored_below : (t : List ℕ) (n i : ℕ) (ps : List Part) → i < n → get_or (stored t n ps) i 0 ≡ get_or t i 0
  unfolding stored
  stored_below t n i [] h = refl
  stored_below t n i (p ∷ ps) h =
      stored_below (set t n (table_at p)) (suc n) i ps (omega arith) ∙ get_or-set_other t n i (table_at p) 0 (λ e. omega arith)

  module _ (k : ℕ) (hk : k < 64) where
    -- a part's truth at the setting k
    abbrev truth_at : Part → Bool
    truth_at p = truth closing v p.shape p.position p.first (bit k)

    -- at the setting k the entries from n on are the parts' truths, and false after the last
    stored_bits : (ps : List Part) (t : List ℕ) (n : ℕ) → n + length ps ≤ length t → ((j : ℕ) → n ≤ j → get_or t j 0 ≡ 0)
        → (i : ℕ) → bit (get_or (stored t n ps) (n + i) 0) k ≡ bit (bits_of truth_at ps) i
    unfolding stored bits_of
    stored_bits [] t n h z i = ap (λ (x : ℕ). bit x k) (z (n + i) (omega arith)) ∙ bit_zero k ∙ sym (bit_zero i)
    stored_bits (p ∷ ps) t n h z zero =
        ap (λ (m : ℕ). bit (get_or (stored (set t n (table_at p)) (suc n) ps) m 0) k) (add-zero n)
        ∙ ap (λ (x : ℕ). bit x k)
        (stored_below (set t n (table_at p)) (suc n) n ps (omega arith) ∙ get_or-set_same t n (table_at p) 0 (omega arith))
        ∙ bit_table closing v p.shape p.position p.first k hk ∙ sym (bits_of_head truth_at p ps)
    stored_bits (p ∷ ps) t n h z (suc i) =
        let e : n + suc i ≡ suc n + i = omega arith in
        ap (λ (m : ℕ). bit (get_or (stored (set t n (table_at p)) (suc n) ps) m 0) k) e
        ∙ stored_bits ps (set t n (table_at p)) (suc n) (simp length-set (omega arith))
        (λ j l. get_or-set_other t n j (table_at p) 0 (λ d. omega arith) ∙ z j (omega arith)) i
        ∙ sym (bits_of_tail truth_at p ps i)

    -- the setting that the tables make at k
    pub setting_parts : (φ : Formula) → count φ ≤ most_parts
        → setting_at most_parts (filled closing v φ 0 false 0 (replicate most_parts 0)) k ≡ bits_of truth_at (parts_of φ)
    unfolding setting_at parts_of
    setting_parts φ h =
        let f : ℕ → Bool = λ j. bit (get_or (filled closing v φ 0 false 0 (replicate most_parts 0)) j 0) k in
        let few : length (parts φ 0 0) ≤ most_parts = omega (arith, length-parts φ 0 0) in
        bits_ext most_parts _ _ (of_bits_lt most_parts f) (lt_of_lt_of_le (bits_of_lt truth_at (parts φ 0 0)) (pow_mono few))
        (λ i l. bit_of_bits most_parts f i l
        ∙ ap (λ (x : List ℕ). bit (get_or x i 0) k) (filled_parts φ 0 0 (replicate most_parts 0))
        ∙ ap (λ (m : ℕ). bit (get_or (stored (replicate most_parts 0) 0 (parts φ 0 0)) m 0) k) (sym (zero-add i))
        ∙ stored_bits (parts φ 0 0) (replicate most_parts 0) 0 (omega arith) (λ j g. zeros_at most_parts j) i)
