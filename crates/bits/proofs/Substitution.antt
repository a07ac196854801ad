-- Tables put for all n unknowns one after the other, the last first, are put for all at once.
use Rattle.std.proofs.Common.{◌≡◌, refl, sym, ap, ◌∙◌, ℕ, zero, suc, ◌+◌, ◌-◌, ◌*◌, ◌^◌, ◌≤◌, ◌<◌, Bool, true, false, not, ◌&&◌, List, get_or, arith}
use Rattle.std.proofs.Math.Decide.{dec_lt, ℕ_discrete}
use Rattle.std.proofs.Math.Nat.{pow-suc}
use Rattle.std.proofs.Math.Pow.{pow_pos}
use Rattle.std.proofs.Math.Bool.{and-false, or-false, not-not}
use Rattle.std.specs.Int.Bits.{bit_and, or_disjoint, and_le_r}
use Rattle.model.specs.Bits.{bit}
use Rattle.model.proofs.bits.Bits.{of_bits_lt, bit_of_bits, bits_ext, bit_suc, bit_zero}
use Rattle.model.proofs.bits.Bitwise.{bit_and_lem, bit_or_lem}
use Rattle.bits.specs.Tables.{with_bit, selected, setting_at, substituted, Upward, select_down}
use Rattle.bits.proofs.BitLaws.{bit_shl, bit_shl_low, bit_add}
use Rattle.bits.proofs.TableLaws.{room, on_least}

-- ---- one bit of a number changed

-- a power of 2 has one bit
power_bit : (i j : ℕ) → (j ≡ i → ⊥) → bit (2 ^ i) j ≡ false
power_bit i j ne = ap (λ (x : ℕ). bit x j) (omega arith) ∙ go (dec_lt j i)
  where
    one_bit : (d : ℕ) → bit 1 (suc d) ≡ false
    one_bit d = bit_suc 1 d ∙ bit_zero d

    go : Dec (j < i) → bit (1 * 2 ^ i) j ≡ false
    go (yes l) = bit_shl_low 1 i j l
    go (no g) = let e : j ≡ i + suc (j - suc i) = omega arith in ap (bit (1 * 2 ^ i)) e ∙ bit_shl 1 i (suc (j - suc i)) ∙ one_bit (j - suc i)

-- a number without bit i has nothing in common with 2 ^ i
apart_from : (k i : ℕ) → bit k i ≡ false → bit_and k (2 ^ i) ≡ 0
apart_from k i e =
    let h : bit_and k (2 ^ i) < 2 ^ suc i = omega (arith, and_le_r k (2 ^ i), pow-suc 2 i, positive) in
    bits_ext (suc i) (bit_and k (2 ^ i)) 0 h (omega (arith, pow-suc 2 i, positive)) (λ j l. bit_and_lem k (2 ^ i) j ∙ go j (dec_eq j) ∙ sym (bit_zero j))
  where
    positive : 0 < 2 ^ i
    positive = pow_pos i

    dec_eq : (j : ℕ) → Dec (j ≡ i)
    dec_eq j = ℕ_discrete j i

    go : (j : ℕ) → Dec (j ≡ i) → bit k j && bit (2 ^ i) j ≡ false
    go j (yes p) = rw (p, e)
    go j (no ne) = rw (power_bit i j ne, and-false)

-- the other bits stay when 2 ^ i is added
bit_plus : (k i j : ℕ) → bit k i ≡ false → (j ≡ i → ⊥) → bit (k + 2 ^ i) j ≡ bit k j
bit_plus k i j e ne =
    ap (λ (x : ℕ). bit x j) (sym (or_disjoint k (2 ^ i) (apart_from k i e))) ∙ bit_or_lem k (2 ^ i) j ∙ rw (power_bit i j ne, or-false)

-- a number with bit i is 2 ^ i more than one without
taken_off : (k i : ℕ) → bit k i ≡ true → (bit (k - 2 ^ i) i ≡ false) × (k - 2 ^ i + 2 ^ i ≡ k)
taken_off k i e =
    let l : 2 ^ i ≤ k = on_least k i e in
    let d : k - 2 ^ i + 2 ^ i ≡ k = omega arith in
    let f : not (bit (k - 2 ^ i) i) ≡ true = sym (bit_add (k - 2 ^ i) i) ∙ ap (λ (x : ℕ). bit x i) d ∙ e in
    (sym (not-not (bit (k - 2 ^ i) i)) ∙ ap not f, d)

module _ (k i : ℕ) where
  pub with_here : (b : Bool) → bit (with_bit k i b) i ≡ b
  unfolding with_bit
  with_here b = go b (bit k i) refl
    where
      go : (b a : Bool) → bit k i ≡ a → bit (with_bit k i b) i ≡ b
      go true true e = rw (e, with_bit) e
      go true false e = rw (e, with_bit) (bit_add k i ∙ ap not e)
      go false true e = rw (e, with_bit) (taken_off k i e).0
      go false false e = rw (e, with_bit) e

  pub with_there : (b : Bool) (j : ℕ) → (j ≡ i → ⊥) → bit (with_bit k i b) j ≡ bit k j
  unfolding with_bit
  with_there b j ne = go b (bit k i) refl
    where
      go : (b a : Bool) → bit k i ≡ a → bit (with_bit k i b) j ≡ bit k j
      go true true e = rw (e, with_bit)
      go true false e = rw (e, with_bit) (bit_plus k i j e ne)
      go false true e = let t = taken_off k i e in rw (e, with_bit) (sym (bit_plus (k - 2 ^ i) i j t.0 ne) ∙ ap (λ (x : ℕ). bit x j) t.1)
      go false false e = rw (e, with_bit)

  pub with_lt : (n : ℕ) (b : Bool) → i < n → k < 2 ^ n → with_bit k i b < 2 ^ n
  unfolding with_bit
  with_lt n b hi hk = go b (bit k i) refl
    where
      go : (b a : Bool) → bit k i ≡ a → with_bit k i b < 2 ^ n
      go true true e = rw (e, with_bit) hk
      go true false e = rw (e, with_bit) (room n i k hi hk e)
      go false true e = rw (e, with_bit) (omega arith)
      go false false e = rw (e, with_bit) hk

-- ---- all unknowns

-- the setting k with the unknowns below m replaced by what the tables say there
setting_down : ℕ → List ℕ → ℕ → ℕ
setting_down zero t k = k
setting_down (suc m) t k = with_bit (setting_down m t k) m (bit (get_or t m 0) k)

module _ (n : ℕ) (t : List ℕ) (k : ℕ) (hk : k < 2 ^ n) where
  down_lt : (m : ℕ) → m ≤ n → setting_down m t k < 2 ^ n
  unfolding setting_down
  down_lt zero h = hk
  down_lt (suc m) h = with_lt (setting_down m t k) m n _ (omega arith) (down_lt m (omega arith))

  -- the unknowns from m on are as they were
  down_kept : (m j : ℕ) → m ≤ j → bit (setting_down m t k) j ≡ bit k j
  unfolding setting_down
  down_kept zero j h = refl
  down_kept (suc m) j h = with_there (setting_down m t k) m _ j (omega arith) ∙ down_kept m j (omega arith)

  -- those below m are what the tables say
  down_put : (m j : ℕ) → j < m → bit (setting_down m t k) j ≡ bit (get_or t j 0) k
  unfolding setting_down
  down_put zero j h = absurd (omega arith)
  down_put (suc m) j h = go (ℕ_discrete j m) (down_put m j)
    where
      go : Dec (j ≡ m) → (j < m → bit (setting_down m t k) j ≡ bit (get_or t j 0) k)
          → bit (with_bit (setting_down m t k) m (bit (get_or t m 0) k)) j ≡ bit (get_or t j 0) k
      go (yes e) ih = rw e (with_here (setting_down m t k) m _)
      go (no ne) ih = with_there (setting_down m t k) m _ j ne ∙ ih (omega arith)

  down_all : setting_down n t k ≡ setting_at n t k
  unfolding setting_at
  down_all = bits_ext n _ _ (down_lt n (omega arith)) (of_bits_lt n _) (λ j h. down_put n j h ∙ sym (bit_of_bits n _ j h))

module _ (n : ℕ) (t : List ℕ) (up : Upward n t) where
  -- the unknowns below m replaced one after the other
  down_bit : (m : ℕ) → m ≤ n → (r k : ℕ) → k < 2 ^ n → bit (select_down n m t r) k ≡ bit r (setting_down m t k)
  unfolding select_down setting_down selected
  down_bit zero h r k hk = refl
  down_bit (suc m) h r k hk =
      let s : ℕ = setting_down m t k in
      let same : bit (get_or t m 0) s ≡ bit (get_or t m 0) k = up m (omega arith) s k (down_lt n t k hk m (omega arith)) hk (λ j l. down_kept n t k hk m j l) in
      down_bit m (omega arith) (selected n m (get_or t m 0) r) k hk ∙ bit_of_bits (2 ^ n) _ s (down_lt n t k hk m (omega arith))
      ∙ ap (λ (b : Bool). bit r (with_bit s m b)) same

  down_below : (m r : ℕ) → r < 2 ^ (2 ^ n) → select_down n m t r < 2 ^ (2 ^ n)
  unfolding select_down selected
  down_below zero r h = h
  down_below (suc m) r h = down_below m (selected n m (get_or t m 0) r) (of_bits_lt (2 ^ n) _)

  pub substitute_law : (r : ℕ) → r < 2 ^ (2 ^ n) → select_down n n t r ≡ substituted n t r
  unfolding substituted
  substitute_law r h = bits_ext (2 ^ n) _ _ (down_below n r h) (of_bits_lt (2 ^ n) _)
      (λ k hk. down_bit n (omega arith) r k hk ∙ ap (bit r) (down_all n t k hk) ∙ sym (bit_of_bits (2 ^ n) _ k hk))
