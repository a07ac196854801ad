-- Truth's operators follow their operands' truth, and each is the negation of its dual.
use mathlib.Core.Path.{◌≡◌, refl, sym, ap, ap₂, ◌∙◌}
use mathlib.Core.Bool.{Bool, true, false, not, ◌&&◌, ◌||◌, not-not}
use mathlib.Core.List.{List, [], ◌∷◌}
use Rattle.model.specs.logic.Truth.{World, on_next, is_last, some_of, all_of, some_until, all_unless}

pub not_and : (a b : Bool) → not (a && b) ≡ not a || not b
not_and true b = refl
not_and false b = refl

pub not_or : (a b : Bool) → not (a || b) ≡ not a && not b
not_or true b = refl
not_or false b = refl

abbrev pub Test : Type 0
Test = List World → Bool

-- p is g of q wherever there is a world
abbrev pub Pointwise : (Bool → Bool) → Test → Test → Type 0
Pointwise g p q = (w : World) (ws : List World) → p (w ∷ ws) ≡ g (q (w ∷ ws))

abbrev pub same : Bool → Bool
same b = b

module _ (p q : Test) where
  pub next_same : Pointwise same p q → (w : World) (ws : List World) → on_next p (w ∷ ws) ≡ on_next q (w ∷ ws)
  unfolding on_next
  next_same e w [] = refl
  next_same e w (v ∷ ws) = e v ws

  -- "not next ψ becomes last or next not ψ"
  pub next_not : Pointwise not p q → (w : World) (ws : List World) → is_last (w ∷ ws) || on_next p (w ∷ ws) ≡ not (on_next q (w ∷ ws))
  unfolding on_next is_last
  next_not e w [] = refl
  next_not e w (v ∷ ws) = e v ws

  pub some_same : Pointwise same p q → (ws : List World) → some_of p ws ≡ some_of q ws
  unfolding some_of
  some_same e [] = refl
  some_same e (w ∷ ws) = ap₂ ◌||◌ (e w ws) (some_same e ws)

  pub all_same : Pointwise same p q → (ws : List World) → all_of p ws ≡ all_of q ws
  unfolding all_of
  all_same e [] = refl
  all_same e (w ∷ ws) = ap₂ ◌&&◌ (e w ws) (all_same e ws)

  pub some_not : Pointwise not p q → (ws : List World) → some_of p ws ≡ not (all_of q ws)
  unfolding some_of all_of
  some_not e [] = refl
  some_not e (w ∷ ws) = simp (e w ws, some_not e ws, not_and)

  pub all_not : Pointwise not p q → (ws : List World) → all_of p ws ≡ not (some_of q ws)
  unfolding some_of all_of
  all_not e [] = refl
  all_not e (w ∷ ws) = simp (e w ws, all_not e ws, not_or)

module _ (p q p' q' : Test) where
  pub until_same : Pointwise same p q → Pointwise same p' q' → (ws : List World) → some_until p p' ws ≡ some_until q q' ws
  unfolding some_until
  until_same e f [] = refl
  until_same e f (w ∷ ws) = ap₂ ◌||◌ (f w ws) (ap₂ ◌&&◌ (e w ws) (until_same e f ws))

  pub release_same : Pointwise same p q → Pointwise same p' q' → (ws : List World) → all_unless p p' ws ≡ all_unless q q' ws
  unfolding all_unless
  release_same e f [] = refl
  release_same e f (w ∷ ws) = ap₂ ◌&&◌ (f w ws) (ap₂ ◌||◌ (e w ws) (release_same e f ws))

  pub until_not : Pointwise not p q → Pointwise not p' q' → (ws : List World) → some_until p p' ws ≡ not (all_unless q q' ws)
  unfolding some_until all_unless
  until_not e f [] = refl
  until_not e f (w ∷ ws) = simp (e w ws, f w ws, until_not e f ws, not_or, not_and)

  pub release_not : Pointwise not p q → Pointwise not p' q' → (ws : List World) → all_unless p p' ws ≡ not (some_until q q' ws)
  unfolding some_until all_unless
  release_not e f [] = refl
  release_not e f (w ∷ ws) = simp (e w ws, f w ws, release_not e f ws, not_or, not_and)

-- last is: not next true
pub last_is : (w : World) (ws : List World) → is_last (w ∷ ws) ≡ not (on_next (λ r. true) (w ∷ ws))
unfolding is_last on_next
last_is w [] = refl
last_is w (v ∷ ws) = refl

-- eventually φ is: true until φ
pub some_is : (q : Test) (ws : List World) → some_of q ws ≡ some_until (λ r. true) q ws
unfolding some_of some_until
some_is q [] = refl
some_is q (w ∷ ws) = ap (λ (b : Bool). q (w ∷ ws) || b) (some_is q ws)

-- always φ is: not (true until not φ)
pub all_is : (q : Test) (ws : List World) → all_of q ws ≡ not (some_until (λ r. true) (λ r. not (q r)) ws)
all_is q ws = all_not q (λ r. not (q r)) (λ v vs. sym (not-not _)) ws ∙ ap not (some_is (λ r. not (q r)) ws)

-- φ release ψ is: not (not φ until not ψ)
pub release_is : (p q : Test) (ws : List World) → all_unless p q ws ≡ not (some_until (λ r. not (p r)) (λ r. not (q r)) ws)
release_is p q ws = release_not p (λ r. not (p r)) q (λ r. not (q r)) (λ v vs. sym (not-not _)) (λ v vs. sym (not-not _)) ws
