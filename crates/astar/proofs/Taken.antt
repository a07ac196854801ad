-- The number of taken slots, which each turn makes larger by one and no turn makes less.
use mathlib.Core.Path.{◌≡◌, refl, sym, ap, ◌∙◌}
use Prim.Native.Nat.{ℕ, zero, suc, ◌≤◌}
use native.Mathlib.Omega.{arith}
use mathlib.Core.Bool.{Bool, true, false, true≢false}
use mathlib.Core.List.{[], ◌∷◌}
use lib.ListN.{length, set}
use Rattle.model.specs.exploration.System.{System}
use Rattle.astar.specs.Records.{Held, Table, take-it}
use Rattle.astar.proofs.Slots.{Holds}
use Rattle.astar.proofs.Invariant.{Keeps}

-- one more, if so
abbrev with_one : Bool → ℕ → ℕ
with_one true n = suc n
with_one false n = n

module _ (S : System) where
  unfoldable pub taken_in : Table S → ℕ
  taken_in [] = 0
  taken_in (r ∷ rs) = with_one r.taken (taken_in rs)

  pub taken_le : (t : Table S) → taken_in t ≤ length t
  unfolding taken_in
  taken_le [] = omega arith
  taken_le (r ∷ t) = go r.taken (taken_le t)
    where
      go : (b : Bool) → taken_in t ≤ length t → with_one b (taken_in t) ≤ suc (length t)
      go true l = omega arith
      go false l = omega arith

  -- A table that keeps the taken records has at least as many.
  pub taken_keeps : (t u : Table S) → Keeps S t u → taken_in t ≤ taken_in u
  unfolding taken_in
  taken_keeps [] u k = omega arith
  taken_keeps (x ∷ t) [] k = go x.taken refl (taken_keeps t [] (λ s q y h. k (suc s) q y h))
    where
      go : (b : Bool) → x.taken ≡ b → taken_in t ≤ 0 → with_one b (taken_in t) ≤ 0
      go true e l = let h = k 0 x e refl in let z : ◌≡◌ {A = ℕ} 0 1 = cc in absurd (omega arith)
      go false e l = l
  taken_keeps (x ∷ t) (y ∷ u) k = go x.taken y.taken refl refl (taken_keeps t u (λ s q z h. k (suc s) q z h))
    where
      go : (b c : Bool) → x.taken ≡ b → y.taken ≡ c → taken_in t ≤ taken_in u → with_one b (taken_in t) ≤ with_one c (taken_in u)
      go true true e f l = omega arith
      go true false e f l = let h = k 0 x e refl in let d : y ≡ x = cc in absurd (true≢false (sym e ∙ ap (λ (r : Held S). r.taken) (sym d) ∙ f))
      go false true e f l = omega arith
      go false false e f l = l

  -- To take an open slot makes one more.
  pub taken_take : (t : Table S) (i : ℕ) (r : Held S) → Holds t i r → r.taken ≡ false → taken_in (set t i (take-it S r)) ≡ suc (taken_in t)
  unfolding taken_in take-it
  taken_take [] i r h o = let z : ◌≡◌ {A = ℕ} 0 1 = cc in absurd (omega arith)
  taken_take (x ∷ t) zero r h o = let d : x ≡ r = cc in ap (λ (b : Bool). suc (with_one b (taken_in t))) (sym o ∙ ap (λ (q : Held S). q.taken) (sym d))
  taken_take (x ∷ t) (suc i) r h o = go x.taken (taken_take t i r h o)
    where
      go : (b : Bool) → taken_in (set t i (take-it S r)) ≡ suc (taken_in t) → with_one b (taken_in (set t i (take-it S r))) ≡ suc (with_one b (taken_in t))
      go true e = ap suc e
      go false e = e
