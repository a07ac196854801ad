-- Definition 1 of source document 003 and truth as a function agree at every position.
use Rattle.std.proofs.Common.{None}
use mathlib.Core.Path.{◌≡◌, refl, sym, ap, ap₂, ◌∙◌, subst}
use mathlib.Core.Logic.{◌↔◌}
use Prim.Native.Nat.{ℕ, zero, suc, ◌+◌, ◌-◌, ◌≤◌, ◌<◌}
use native.Mathlib.Omega.{arith}
use native.Mathlib.Decide.{dec_lt}
use mathlib.Core.Bool.{Bool, true, false, not, ◌&&◌, ◌||◌, or-true, false≢true}
use mathlib.Core.List.{List, ◌∷◌}
use lib.ListN.{length, get_or, drop, drop_of_length-le}
use lib.Seq.{drop-cons}
use Rattle.model.specs.declared.Constant.TheVariants.{False, True, Last}
use Rattle.model.specs.declared.Unary.TheVariants.{Not, Next, Eventually, Always}
use Rattle.model.specs.declared.Binary.TheVariants.{And, Or, Until, Release}
use Rattle.model.specs.Bits.{bit}
use Rattle.model.specs.logic.Formula.{Formula, constant, fact, action, unary, binary}
use Rattle.model.specs.logic.Truth.{World, is_made, in_first, is_last, on_next, some_until, holds}
use Rattle.model.specs.logic.Sat.{UntilAt, Sat}
use Rattle.model.proofs.logic.TruthLaws.{Test, last_is, some_is, all_is, release_is}

abbrev no_world : World
no_world = record { state = 0; made = None }

-- ---- statements and tests
module _ {A : Type 0} where
  -- if a test decides A, the negated test decides its denial
  not_iff : (b : Bool) → A ↔ (b ≡ true) → (A → ⊥) ↔ (not b ≡ true)
  not_iff true h = (λ f. absurd (f (h.1 refl)), λ e a. absurd (false≢true e))
  not_iff false h = (λ f. refl, λ e a. absurd (false≢true (h.0 a)))

  iff_test : (b c : Bool) → c ≡ b → A ↔ (b ≡ true) → A ↔ (c ≡ true)
  iff_test b c e h = (λ a. e ∙ h.0 a, λ d. h.1 (sym e ∙ d))

module _ {A B : Type 0} where
  and_iff : (a b : Bool) → A ↔ (a ≡ true) → B ↔ (b ≡ true) → (A × B) ↔ (a && b ≡ true)
  and_iff true b h k = (λ p. k.0 p.1, λ e. (h.1 refl, k.1 e))
  and_iff false b h k = (λ p. h.0 p.0, λ e. absurd (false≢true e))

  or_iff : (a b : Bool) → A ↔ (a ≡ true) → B ↔ (b ≡ true) → ((A → ⊥) × (B → ⊥) → ⊥) ↔ (a || b ≡ true)
  or_iff true b h k = (λ f. refl, λ e p. p.0 (h.1 refl))
  or_iff false true h k = (λ f. refl, λ e p. p.1 (k.1 refl))
  or_iff false false h k = (λ f. absurd (f (λ a. absurd (false≢true (h.0 a)), λ b. absurd (false≢true (k.0 b)))), λ e. absurd (false≢true e))

module _ (w : List World) where
  -- a statement about positions is a test of what follows from there
  abbrev Means : (ℕ → Type 0) → Test → Type 0
  Means P p = (i : ℕ) → i < length w → P i ↔ (p (drop i w) ≡ true)

  means_not : (P : ℕ → Type 0) (p : Test) → Means P p → Means (λ i. P i → ⊥) (λ r. not (p r))
  means_not P p h i l = not_iff (p (drop i w)) (h i l)

  means_unit : Means (λ i. Unit {0}) (λ r. true)
  means_unit i l = (λ u. refl, λ e. tt)

  -- what follows from position i on begins with world i
  here : (i : ℕ) → i < length w → drop i w ≡ get_or w i no_world ∷ drop (suc i) w
  here i l = drop-cons w i no_world l

  -- ---- next
  module _ (P : ℕ → Type 0) (p : Test) (h : Means P p) where
    -- where there is a next position, next looks there; where there is none, it is false
    on_next_lem : (i : ℕ) → suc i < length w → on_next p (drop i w) ≡ p (drop (suc i) w)
    unfolding on_next
    on_next_lem i l =
        ap (on_next p) (here i (omega arith)) ∙ ap (λ (r : List World). on_next p (get_or w i no_world ∷ r)) (here (suc i) l)
        ∙ ap p (sym (here (suc i) l))

    no_next : (i : ℕ) → i < length w → length w ≤ suc i → on_next p (drop i w) ≡ false
    unfolding on_next
    no_next i l g =
        ap (on_next p) (here i l) ∙ ap (λ (r : List World). on_next p (get_or w i no_world ∷ r)) (drop_of_length-le w g)

    means_next : Means (λ i. (suc i < length w) × P (suc i)) (on_next p)
    means_next i l = go (dec_lt (suc i) (length w))
      where
        go : Dec (suc i < length w) → ((suc i < length w) × P (suc i)) ↔ (on_next p (drop i w) ≡ true)
        go (yes g) = (λ x. on_next_lem i g ∙ (h (suc i) g).0 x.1, λ e. (g, (h (suc i) g).1 (sym (on_next_lem i g) ∙ e)))
        go (no g) = (λ x. absurd (g x.0), λ e. absurd (false≢true (sym (no_next i l (omega arith)) ∙ e)))

  -- ---- until
  module _ (P Q : ℕ → Type 0) (p q : Test) (hp : Means P p) (hq : Means Q q) where
    -- the test by its first world
    until_step : (i : ℕ) → i < length w → some_until p q (drop i w) ≡ q (drop i w) || (p (drop i w) && some_until p q (drop (suc i) w))
    unfolding some_until
    until_step i l = ap (some_until p q) (here i l) ∙ ap (λ (r : List World). q r || (p r && some_until p q (drop (suc i) w))) (sym (here i l))

    past_end : (i : ℕ) → length w ≤ i → some_until p q (drop i w) ≡ false
    unfolding some_until
    past_end i g = ap (some_until p q) (drop_of_length-le w g)

    -- where Q holds d positions on, and P at all before, the test finds it
    until_found : (d i j : ℕ) → j ≡ i + d → j < length w → Q j → ((k : ℕ) → i ≤ k → k < j → P k) → some_until p q (drop i w) ≡ true
    until_found zero i j e l y f =
        let g : j ≡ i = omega arith in
        until_step i (omega arith)
        ∙ ap (λ (b : Bool). b || (p (drop i w) && some_until p q (drop (suc i) w))) (subst (λ (m : ℕ). q (drop m w) ≡ true) g ((hq j l).0 y))
    until_found (suc d) i j e l y f =
        until_step i (omega arith)
        ∙ ap₂ (λ (b c : Bool). q (drop i w) || (b && c)) ((hp i (omega arith)).0 (f i (omega arith) (omega arith)))
        (until_found d (suc i) j (omega arith) l y (λ k g m. f k (omega arith) m))
        ∙ or-true (q (drop i w))

    -- P here and an until from the next position on make an until from here
    until_later : (i : ℕ) → P i → UntilAt w P Q (suc i) → UntilAt w P Q i
    until_later i x u = (u.0, omega arith, u.2, u.3, λ k a b. go k a b (dec_lt i k))
      where
        go : (k : ℕ) → i ≤ k → k < u.0 → Dec (i < k) → P k
        go k a b (yes g) = u.4 k g b
        go k a b (no g) = let e : i ≡ k = omega arith in subst P e x

    -- where the test finds something, at most n positions on, Q holds there and P before
    until_where : (n i : ℕ) → length w ≤ i + n → some_until p q (drop i w) ≡ true → UntilAt w P Q i
    until_where zero i g e = absurd (false≢true (sym (past_end i (omega arith)) ∙ e))
    until_where (suc n) i g e = go (dec_lt i (length w)) (until_where n (suc i) (omega arith))
      where
        found : (l : i < length w) (a b c : Bool) → q (drop i w) ≡ a → p (drop i w) ≡ b → some_until p q (drop (suc i) w) ≡ c → a || (b && c) ≡ true
            → (some_until p q (drop (suc i) w) ≡ true → UntilAt w P Q (suc i)) → UntilAt w P Q i
        found l true b c ea eb ec t ih = (i, omega arith, l, (hq i l).1 ea, λ k a b. absurd (omega arith))
        found l false true c ea eb ec t ih = until_later i ((hp i l).1 eb) (ih (ec ∙ t))
        found l false false c ea eb ec t ih = absurd (false≢true t)

        go : Dec (i < length w) → (some_until p q (drop (suc i) w) ≡ true → UntilAt w P Q (suc i)) → UntilAt w P Q i
        go (yes l) ih = found l (q (drop i w)) (p (drop i w)) (some_until p q (drop (suc i) w)) refl refl refl (sym (until_step i l) ∙ e) ih
        go (no l) ih = absurd (false≢true (sym (past_end i (omega arith)) ∙ e))

    means_until : Means (UntilAt w P Q) (some_until p q)
    means_until i l = (λ u. until_found (u.0 - i) i u.0 (omega arith) u.2 u.3 u.4, until_where (length w) i (omega arith))

  -- ---- leaves
  means_first : (t : World → Bool) → Means (λ i. t (get_or w i no_world) ≡ true) (in_first t)
  unfolding in_first
  means_first t i l = iff_test _ _ (ap (in_first t) (here i l)) (λ e. e, λ e. e)

  last_at : (i : ℕ) → i < length w → is_last (drop i w) ≡ not (on_next (λ r. true) (drop i w))
  last_at i l = rw (here i l) (last_is _ _)

  -- w, i satisfies a formula by definition 1 where the formula holds from world i on
  pub sat_holds : (φ : Formula) (i : ℕ) → i < length w → Sat w i φ ↔ (holds φ (drop i w) ≡ true)
  unfolding Sat holds
  sat_holds (constant False) i l = (λ f. absurd f, λ e. absurd (false≢true e))
  sat_holds (constant True) i l = means_unit i l
  sat_holds (constant Last) i l = iff_test _ _ (last_at i l) (not_iff _ (means_next (λ k. Unit {0}) (λ r. true) means_unit i l))
  sat_holds (fact f) i l = means_first (λ v. bit v.state f) i l
  sat_holds (action a) i l = means_first (λ v. is_made v.made a) i l
  sat_holds (unary Not φ) i l = means_not (λ k. Sat w k φ) (holds φ) (sat_holds φ) i l
  sat_holds (unary Next φ) i l = means_next (λ k. Sat w k φ) (holds φ) (sat_holds φ) i l
  sat_holds (unary Eventually φ) i l =
      iff_test _ _ (some_is (holds φ) (drop i w)) (means_until (λ k. Unit {0}) (λ k. Sat w k φ) (λ r. true) (holds φ) means_unit (sat_holds φ) i l)
  sat_holds (unary Always φ) i l =
      iff_test _ _ (all_is (holds φ) (drop i w))
      (not_iff _ (means_until (λ k. Unit {0}) (λ k. Sat w k φ → ⊥) (λ r. true) (λ r. not (holds φ r)) means_unit (means_not (λ k. Sat w k φ) (holds φ) (sat_holds φ)) i l))
  sat_holds (binary And φ ψ) i l = and_iff (holds φ (drop i w)) (holds ψ (drop i w)) (sat_holds φ i l) (sat_holds ψ i l)
  sat_holds (binary Or φ ψ) i l = or_iff (holds φ (drop i w)) (holds ψ (drop i w)) (sat_holds φ i l) (sat_holds ψ i l)
  sat_holds (binary Until φ ψ) i l = means_until (λ k. Sat w k φ) (λ k. Sat w k ψ) (holds φ) (holds ψ) (sat_holds φ) (sat_holds ψ) i l
  sat_holds (binary Release φ ψ) i l =
      iff_test _ _ (release_is (holds φ) (holds ψ) (drop i w))
      (not_iff _ (means_until (λ k. Sat w k φ → ⊥) (λ k. Sat w k ψ → ⊥) (λ r. not (holds φ r)) (λ r. not (holds ψ r))
      (means_not (λ k. Sat w k φ) (holds φ) (sat_holds φ)) (means_not (λ k. Sat w k ψ) (holds ψ) (sat_holds ψ)) i l))
