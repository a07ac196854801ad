-- What the slots of a table hold, and a table with one slot put anew.
use Rattle.std.proofs.Common.{Some}
use mathlib.Core.Path.{◌≡◌, refl, sym, ap, ◌∙◌, subst}
use Prim.Native.Nat.{ℕ, zero, suc, ◌<◌}
use native.Mathlib.Omega.{arith}
use native.Mathlib.Decide.{ℕ_discrete}
use mathlib.Core.List.{List, [], ◌∷◌, ◌++◌}
use lib.ListN.{length, set}
use Rattle.std.specs.List.{slice_get}
use Rattle.model.proofs.exploration.Each.{All}

module _ {A : Type 0} where
  -- slot i of the table holds r
  abbrev pub Holds : List A → ℕ → A → Type 0
  Holds t i r = slice_get t i ≡ Some r

  pub holds_one : (t : List A) (i : ℕ) {r q : A} → Holds t i r → Holds t i q → r ≡ q
  holds_one t i p q = cc

  pub holds_lt : (t : List A) (i : ℕ) {r : A} → Holds t i r → i < length t
  holds_lt [] i p = let z : ◌≡◌ {A = ℕ} 0 1 = cc in absurd (omega arith)
  holds_lt (x ∷ t) zero p = omega arith
  holds_lt (x ∷ t) (suc i) p = omega (arith, holds_lt t i p)

  -- What every slot's content has, all of the table have.
  pub all_held : (P : A → Type 0) (t : List A) → ((i : ℕ) (r : A) → Holds t i r → P r) → All P t
  all_held P [] f = tt
  all_held P (x ∷ t) f = (f 0 x refl, all_held P t (λ i r h. f (suc i) r h))

  -- u is t with v in slot j, which may be the first slot after t
  pub record Put (t u : List A) (j : ℕ) (v : A) : Type 0 where
    pub new : Holds u j v
    pub old : (s : ℕ) → (s ≡ j → ⊥) → slice_get u s ≡ slice_get t s

  -- What the new content has, and the old of every other slot, every slot's content has.
  pub put_each : {t u : List A} {j : ℕ} {v : A} → Put t u j v → (Q : ℕ → A → Type 0) → Q j v → ((s : ℕ) (r : A) → (s ≡ j → ⊥) → Holds t s r → Q s r)
      → (s : ℕ) (r : A) → Holds u s r → Q s r
  put_each {t} {u} {j} {v} p Q a f s r h = go (ℕ_discrete s j)
    where
      go : Dec (s ≡ j) → Q s r
      go (yes e) =
          let q : v ≡ r = holds_one u j p.new (subst (λ (i : ℕ). Holds u i r) e h) in
          subst (λ (i : ℕ). Q i r) (sym e) (subst (Q j) q a)
      go (no n) = f s r n (sym (p.old s n) ∙ h)

  pub put_set : (t : List A) (j : ℕ) (v : A) → j < length t → Put t (set t j v) j v
  put_set [] j v l = absurd (omega arith)
  put_set (x ∷ t) zero v l = record { new = refl; old = go }
    where
      go : (s : ℕ) → (s ≡ 0 → ⊥) → slice_get (v ∷ t) s ≡ slice_get (x ∷ t) s
      go zero n = absurd (n refl)
      go (suc s) n = refl
  put_set (x ∷ t) (suc j) v l = go (put_set t j v (omega arith))
    where
      go : Put t (set t j v) j v → Put (x ∷ t) (set (x ∷ t) (suc j) v) (suc j) v
      go p = record { new = p.new; old = old }
        where
          old : (s : ℕ) → (s ≡ suc j → ⊥) → slice_get (set (x ∷ t) (suc j) v) s ≡ slice_get (x ∷ t) s
          old zero n = refl
          old (suc s) n = p.old s (λ e. n (ap suc e))

  pub put_append : (t : List A) (v : A) → Put t (t ++ (v ∷ [])) (length t) v
  put_append [] v = record { new = refl; old = go }
    where
      go : (s : ℕ) → (s ≡ 0 → ⊥) → slice_get (v ∷ []) s ≡ slice_get {X = A} [] s
      go zero n = absurd (n refl)
      go (suc s) n = refl
  put_append (x ∷ t) v = go (put_append t v)
    where
      go : Put t (t ++ (v ∷ [])) (length t) v → Put (x ∷ t) ((x ∷ t) ++ (v ∷ [])) (length (x ∷ t)) v
      go p = record { new = p.new; old = old }
        where
          old : (s : ℕ) → (s ≡ suc (length t) → ⊥) → slice_get ((x ∷ t) ++ (v ∷ [])) s ≡ slice_get (x ∷ t) s
          old zero n = refl
          old (suc s) n = p.old s (λ e. n (ap suc e))

  -- To put what a slot holds changes nothing.
  pub set_held : (t : List A) (j : ℕ) (v : A) → Holds t j v → set t j v ≡ t
  set_held [] j v h = refl
  set_held (x ∷ t) zero v h = cc
  set_held (x ∷ t) (suc j) v h = ap (λ (z : List A). x ∷ z) (set_held t j v h)
