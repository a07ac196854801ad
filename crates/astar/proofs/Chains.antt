-- Chains of parents, for code that follows them: different slots have different paths.
use Rattle.std.proofs.Common.{Option, Some}
use mathlib.Core.Path.{◌≡◌, refl, sym, ap, ◌∙◌, subst}
use Prim.Native.Nat.{ℕ, zero, suc}
use native.Mathlib.Omega.{arith}
use mathlib.Core.List.{List, [], ◌∷◌, ◌++◌}
use lib.ListN.{length, length-append}
use Rattle.model.specs.exploration.System.{System}
use Rattle.model.specs.exploration.Explore.{Entry}
use Rattle.astar.specs.Records.{Held, Table, path_of}
use Rattle.astar.proofs.Slots.{Holds, holds_one}
use Rattle.astar.proofs.Invariant.{Inv, linked_steps, path_suc, steps_linked, zero_slot}

-- Sequences with one more action are equal where both parts are.
snoc_parts : (p q : List ℕ) (a b : ℕ) → p ++ (a ∷ []) ≡ q ++ (b ∷ []) → (p ≡ q) × (a ≡ b)
snoc_parts [] [] a b e = (refl, (cc))
snoc_parts [] (y ∷ q) a b e = absurd (omega (arith, simp length-append at (ap length e)))
snoc_parts (x ∷ p) [] a b e = absurd (omega (arith, simp length-append at (ap length e)))
snoc_parts (x ∷ p) (y ∷ q) a b e =
    let h : x ≡ y = cc in
    let t : p ++ (a ∷ []) ≡ q ++ (b ∷ []) = cc in
    let r = snoc_parts p q a b t in
    let s = r.0 in
    ((cc), r.1)

module _ (S : System) {m0 : S.Node} {t : Table S} {P : Entry S → Type 0} (inv : Inv S m0 t P) where
  -- Of the same path is the same slot.
  pub path_slot : (n i j : ℕ) (r q : Held S) → Holds t i r → Holds t j q → r.key.steps ≡ n → q.key.steps ≡ n → path_of S t n i ≡ path_of S t n j → i ≡ j
  path_slot zero i j r q h k e f p = zero_slot S inv i r h e ∙ sym (zero_slot S inv j q k f)
  path_slot (suc n) i j r q h k e f p =
      let a = steps_linked S inv i r h e in
      let b = steps_linked S inv j q k f in
      let s = snoc_parts _ _ r.action q.action (sym (path_suc S t n i h) ∙ p ∙ path_suc S t n j k) in
      let d : r.parent ≡ q.parent = path_slot n r.parent q.parent a.source b.source a.held b.held (omega (arith, linked_steps S a)) (omega (arith, linked_steps S b)) s.0 in
      let c : a.source ≡ b.source = holds_one t q.parent (subst (λ (z : ℕ). Holds t z a.source) d a.held) b.held in
      let m : ◌≡◌ {A = Option S.Node} (Some r.node) (Some q.node) = sym a.leads ∙ (λ z. S.step (c z).node (s.1 z)) ∙ b.leads in
      let o : r.node ≡ q.node = cc in
      inv.distinct i j r q h k o
