-- The soonest gain is one of the actions' gains, and none is sooner.
use Rattle.std.proofs.Common.{Option, None, Some}
use mathlib.Core.Path.{◌≡◌, refl, sym, ap, ◌∙◌, subst}
use mathlib.Core.Logic.{◌⊎◌, inl, inr}
use Prim.Native.Nat.{ℕ, zero, suc, ◌≤◌, ◌<◌}
use native.Mathlib.Omega.{arith}
use native.Mathlib.Decide.{dec_lt}
use mathlib.Core.Bool.{Bool, true, false}
use lib.Dec.{ltb}
use lib.ListN.{get_or}
use borrow.Author.Tests.{ltb-true, ltb-false}
use Rattle.model.specs.job.Job.{Job, action_of}
use Rattle.model.specs.task.State.{within}
use Rattle.model.specs.search.Estimate.{Ends, Gain, gain_of, sooner, soonest}
use Rattle.model.proofs.Tests.{none_some}

-- ---- of two gains

-- what the sooner of two is
abbrev SoonerOf : Option Gain → Option Gain → Option Gain → Type 0
SoonerOf x y None = (x ≡ None) × (y ≡ None)
SoonerOf x y (Some g) = ((x ≡ Some g) ⊎ (y ≡ Some g)) × ((h : Gain) → (x ≡ Some h) ⊎ (y ≡ Some h) → g.level ≤ h.level)

same_level : (a b : Gain) → Some a ≡ Some b → a.level ≤ b.level
same_level a b e = let p : a ≡ b = cc in omega (arith, ap (λ (y : Gain). y.level) p)

sooner_of : (x y : Option Gain) → SoonerOf x y (sooner x y)
unfolding sooner
sooner_of None None = (refl, refl)
sooner_of None (Some b) = (inr refl, go)
  where
    go : (h : Gain) → (None ≡ Some h) ⊎ (Some b ≡ Some h) → b.level ≤ h.level
    go h (inl e) = none_some e
    go h (inr e) = same_level b h e
sooner_of (Some a) None = (inl refl, go)
  where
    go : (h : Gain) → (Some a ≡ Some h) ⊎ (None ≡ Some h) → a.level ≤ h.level
    go h (inl e) = same_level a h e
    go h (inr e) = none_some e
sooner_of (Some a) (Some b) = by (ltb b.level a.level) refl
  where
    by : (c : Bool) → ltb b.level a.level ≡ c → SoonerOf (Some a) (Some b) (sooner (Some a) (Some b))
    by true e = rw (e, sooner) (inr refl, go)
      where
        go : (h : Gain) → (Some a ≡ Some h) ⊎ (Some b ≡ Some h) → b.level ≤ h.level
        go h (inl f) = omega (arith, ltb-true b.level a.level e, same_level a h f)
        go h (inr f) = same_level b h f
    by false e = rw (e, sooner) (inl refl, go)
      where
        go : (h : Gain) → (Some a ≡ Some h) ⊎ (Some b ≡ Some h) → a.level ≤ h.level
        go h (inl f) = same_level a h f
        go h (inr f) = omega (arith, ltb-false b.level a.level e, same_level b h f)

-- ---- of all gains

module _ (j : Job) (built : ℕ) (ends : Ends) where
  abbrev pub gain : ℕ → Option Gain
  gain i = gain_of j built (get_or ends i None) i

  -- the gain of action i that ends at e
  abbrev pub gain_at : ℕ → ℕ → Gain
  gain_at i e = record { level = e; adds = (action_of j i).add }

  pub gain_some : (i e : ℕ) → get_or ends i None ≡ Some e → within (action_of j i).add built ≡ false → gain i ≡ Some (gain_at i e)
  unfolding gain_of
  gain_some i e h w = rw (h, gain_of, w)

  -- what is known of action i where its gain is g
  pub record Gains (i : ℕ) (g : Gain) : Type 0 where
    pub ends_there : get_or ends i None ≡ Some g.level
    pub adds_are : g.adds ≡ (action_of j i).add
    pub not_built : within (action_of j i).add built ≡ false

  -- The gain of an action is at its end, and adds something.
  pub gain_is : (i : ℕ) (g : Gain) → gain i ≡ Some g → Gains i g
  unfolding gain_of
  gain_is i g h = go (get_or ends i None) refl (within (action_of j i).add built) refl
    where
      go : (o : Option ℕ) → get_or ends i None ≡ o → (w : Bool) → within (action_of j i).add built ≡ w → Gains i g
      go None e w f = none_some (rw (e, gain_of) at h)
      go (Some x) e true f = none_some (rw (e, gain_of, f) at h)
      go (Some x) e false f =
          let q : ◌≡◌ {A = Option Gain} (Some (gain_at i x)) (Some g) = rw (e, gain_of, f) at h in
          let p : gain_at i x ≡ g = cc in
          record { ends_there = e ∙ ap (λ (y : Gain). Some y.level) p; adds_are = ap (λ (y : Gain). y.adds) (sym p); not_built = f }

  -- what the soonest gain of the actions below n is
  abbrev pub Soonest : ℕ → Option Gain → Type 0
  Soonest n None = (i : ℕ) → i < n → gain i ≡ None
  Soonest n (Some g) = ((i : ℕ) × (i < n) × (gain i ≡ Some g)) × ((i : ℕ) (h : Gain) → i < n → gain i ≡ Some h → g.level ≤ h.level)

  abbrev first : ℕ → Option Gain
  first n = soonest j built ends n

  -- One action more.
  module _ (n : ℕ) (ih : Soonest n (first n)) where
    none_more : (first n ≡ None) × (gain n ≡ None) → Soonest (suc n) None
    none_more p i l = at (dec_lt i n)
      where
        at : Dec (i < n) → gain i ≡ None
        at (yes m) = (subst (Soonest n) p.0 ih) i m
        at (no m) = let q : i ≡ n = omega arith in subst (λ (k : ℕ). gain k ≡ None) (sym q) p.1

    some_more : (g : Gain) → SoonerOf (first n) (gain n) (Some g) → Soonest (suc n) (Some g)
    some_more g p = (found p.0, least)
      where
        found : (first n ≡ Some g) ⊎ (gain n ≡ Some g) → (i : ℕ) × (i < suc n) × (gain i ≡ Some g)
        found (inl d) = let f = (subst (Soonest n) d ih).0 in (f.0, omega (arith, f.1), f.2)
        found (inr d) = (n, omega arith, d)

        least : (i : ℕ) (h : Gain) → i < suc n → gain i ≡ Some h → g.level ≤ h.level
        least i h l f = at (dec_lt i n) (first n) refl
          where
            at : Dec (i < n) → (y : Option Gain) → first n ≡ y → g.level ≤ h.level
            at (yes m) None d = none_some (sym ((subst (Soonest n) d ih) i m) ∙ f)
            at (yes m) (Some k) d = omega (arith, p.1 k (inl d), (subst (Soonest n) d ih).1 i h m f)
            at (no m) y d = let q : i ≡ n = omega arith in p.1 h (inr (subst (λ (z : ℕ). gain z ≡ Some h) q f))

    soonest_more : (z : Option Gain) → SoonerOf (first n) (gain n) z → Soonest (suc n) z
    soonest_more None o = none_more o
    soonest_more (Some g) o = some_more g o

  pub soonest_is : (n : ℕ) → Soonest n (first n)
  unfolding soonest
  soonest_is zero = λ i l. absurd (omega arith)
  soonest_is (suc n) = soonest_more n (soonest_is n) (sooner (first n) (gain n)) (sooner_of (first n) (gain n))
