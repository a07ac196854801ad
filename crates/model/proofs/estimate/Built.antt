-- What can be built from a state, and at which cost: the meaning of the max estimate as an inductive type.
use mathlib.Core.Path.{◌≡◌, refl, sym, ◌∙◌}
use mathlib.Core.Logic.{◌⊎◌, inl, inr}
use Prim.Native.Nat.{ℕ, ◌+◌, ◌≤◌, ◌<◌}
use native.Mathlib.Omega.{arith}
use native.Mathlib.Decide.{dec_lt}
use mathlib.Core.Bool.{Bool, true, false, not, ◌&&◌, true≢false}
use lib.ListN.{length}
use Rattle.model.specs.Bits.{bit}
use Rattle.model.specs.job.Job.{Job, Action, action_of}
use Rattle.model.specs.task.State.{within, after}
use Rattle.model.proofs.Tests.{and_both, or_cases}
use Rattle.model.proofs.task.StateLaws.{within_facts, after_facts}

-- Where xs is not within ys, what holds of each fact of xs that is not of ys holds, if it is a bound between numbers.
pub outside : (xs ys : ℕ) → within xs ys ≡ false → (l t : ℕ) → ((g : ℕ) → bit xs g ≡ true → bit ys g ≡ false → l ≤ t) → l ≤ t
outside xs ys w l t h = go (dec_lt t l)
  where
    all_in : t < l → (g : ℕ) → bit xs g ≡ true → bit ys g ≡ true
    all_in m g p = at (bit ys g) refl
      where
        at : (c : Bool) → bit ys g ≡ c → bit ys g ≡ true
        at true e = e
        at false e = absurd (omega (arith, h g p e))

    go : Dec (t < l) → l ≤ t
    go (yes m) = absurd (true≢false (sym ((within_facts xs ys).1 (all_in m)) ∙ w))
    go (no m) = omega arith

module _ (j : Job) where
  abbrev act : ℕ → Action
  act i = action_of j i

  -- From the facts of s, fact f can be built at a cost of at most t: it is true, or an action adds it whose needed facts can be built before.
  pub data Built (s : ℕ) : ℕ → ℕ → Type 0 where
    stands : {f t : ℕ} → bit s f ≡ true → Built s f t
    made : {f t u : ℕ} (i : ℕ) → i < length j.actions → bit (action_of j i).add f ≡ true → ((g : ℕ) → bit (action_of j i).pre g ≡ true → Built s g t)
        → (action_of j i).cost + t ≤ u → Built s f u

  -- All facts of a set can be built at a cost of at most t.
  abbrev pub AllBuilt : ℕ → ℕ → ℕ → Type 0
  AllBuilt s xs t = (g : ℕ) → bit xs g ≡ true → Built s g t

  -- What can be built at a cost can be at a greater one.
  pub later : {s f t u : ℕ} → Built s f t → t ≤ u → Built s f u
  later (stands e) l = stands e
  later {u = u} (made i b a n c) l = made {u = u} i b a n (omega arith)

  module _ (s i : ℕ) (b : i < length j.actions) (pre : within (act i).pre s ≡ true) where
    -- What can be built after an action can be built before it, for the action's cost more.
    pub before_it : {f t : ℕ} → Built (after (act i) s) f t → Built s f ((act i).cost + t)
    before_it {f} {t} (stands e) = go (or_cases _ _ (sym (after_facts (act i) s f) ∙ e))
      where
        go : (bit s f && not (bit (act i).del f) ≡ true) ⊎ (bit (act i).add f ≡ true) → Built s f ((act i).cost + t)
        go (inl h) = stands ((and_both (bit s f) _).0 h).0
        go (inr h) = made {t = t} {u = (act i).cost + t} i b h (λ g p. stands ((within_facts (act i).pre s).0 pre g p)) (omega arith)
    before_it {t = u} (made k d a n c) = made {u = (act i).cost + u} k d a (λ g p. before_it (n g p)) (omega arith)
