-- How many steps a record has: a taken one fewer than there are taken records, so that one step more fits a slot.
use Rattle.std.proofs.Common.{◌≡◌, refl, ap, ◌∙◌, subst, Bool, true, false, ◌⊎◌, inl, inr, List, [], ◌∷◌, ℕ, zero, suc, ◌+◌, ◌≤◌, ◌<◌, arith, eqb, length, set}
use Rattle.std.proofs.Common.{length-set, eqb-true, eq-eqb, ne_eqb}
use mathlib.Core.List.{Memᴰ}
use mathlib.Core.List.Memᴰ.{head as here, tail as there}
use Rattle.model.specs.exploration.System.{System}
use Rattle.model.specs.exploration.Explore.{Entry}
use Rattle.model.specs.search.Node.{Node}
use Rattle.model.specs.search.Query.{Query}
use Rattle.model.proofs.exploration.Each.{All, all_map}
use Rattle.model.proofs.exploration.Counting.{Apart, apart_length}
use Rattle.astar.specs.Records.{Held, Table, take-it}
use Rattle.astar.proofs.Slots.{Holds, holds_one}
use Rattle.astar.proofs.Invariant.{Linked, Inv, linked_steps, steps_linked}
use Rattle.astar.proofs.Taken.{taken_in, taken_le, taken_take}
use Rattle.table.specs.declared.Slot.{Slot}
use Rattle.table.specs.Slots.{slot_in}
use Rattle.held.specs.Held.{sys, held_is, held_in}
use Rattle.held.proofs.HeldLaws.{length-held, held_at}

module _ (S : System) where
  -- ---- the taken slots

  -- their numbers, the slots being numbered from k on
  unfoldable taken_from : Table S → ℕ → List ℕ
  taken_from [] k = []
  taken_from (r ∷ rs) k = elim r.taken [ true ↦ k ∷ taken_from rs (suc k) | false ↦ taken_from rs (suc k) ]

  taken_length : (t : Table S) (k : ℕ) → length (taken_from t k) ≡ taken_in S t
  unfolding taken_from taken_in
  taken_length [] k = refl
  taken_length (r ∷ t) k = go r.taken refl (taken_length t (suc k))
    where
      go : (b : Bool) → r.taken ≡ b → length (taken_from t (suc k)) ≡ taken_in S t → length (taken_from (r ∷ t) k) ≡ taken_in S (r ∷ t)
      go true e ih = rw (e, taken_from, taken_in) (ap suc ih)
      go false e ih = rw (e, taken_from, taken_in) ih

  taken_mem : (t : Table S) (k d j : ℕ) (r : Held S) → Holds t d r → r.taken ≡ true → j ≡ k + d → Memᴰ j (taken_from t k)
  unfolding taken_from
  taken_mem [] k d j r h y e = let z : ◌≡◌ {A = ℕ} 0 1 = cc in absurd (omega arith)
  taken_mem (x ∷ t) k zero j r h y e =
      let q : x ≡ r = cc in
      let w : x.taken ≡ true = ap (λ (p : Held S). p.taken) q ∙ y in
      let a : j ≡ k = omega arith in
      rw (w, taken_from) (here a)
  taken_mem (x ∷ t) k (suc d) j r h y e = go x.taken refl (taken_mem t (suc k) d j r h y (omega arith))
    where
      go : (b : Bool) → x.taken ≡ b → Memᴰ j (taken_from t (suc k)) → Memᴰ j (taken_from (x ∷ t) k)
      go true f ih = rw (f, taken_from) (there ih)
      go false f ih = rw (f, taken_from) ih

  -- Where a record is open, not all are taken.
  pub open_taken : (t : Table S) (i : ℕ) (r : Held S) → Holds t i r → r.taken ≡ false → taken_in S t < length t
  open_taken t i r h o =
      let e = taken_take S t i r h o in
      let l = taken_le S (set t i (take-it S r)) in
      omega (arith, length-set t i (take-it S r))

  -- ---- the chain of a taken record

  module _ {m0 : S.Node} {t : Table S} {P : Entry S → Type 0} (inv : Inv S m0 t P) where
    abbrev Taken-within : ℕ → ℕ → Type 0
    Taken-within n s = (q : Held S) × Holds t s q × (q.taken ≡ true) × (q.key.steps ≤ n)

    -- its slots, which are different and taken
    abbrev Line : ℕ → Type 0
    Line n = (xs : List ℕ) × (length xs ≡ suc n) × All (Taken-within n) xs × Apart eqb xs

    line : (n i : ℕ) (r : Held S) → Holds t i r → r.taken ≡ true → r.key.steps ≡ n → Line n
    line zero i r h y e = (i ∷ [], refl, ((r, h, y, omega arith), tt), (tt, tt))
    line (suc n) i r h y e = go (line n r.parent l.source l.held l.taken (omega (arith, linked_steps S l)))
      where
        l : Linked S t r
        l = steps_linked S inv i r h e

        other : (s : ℕ) → Taken-within n s → eqb i s ≡ false
        other s w = ne_eqb i s (λ d.
            let p : r ≡ w.0 = holds_one t s (subst (λ (k : ℕ). Holds t k r) d h) w.1 in
            let f : r.key.steps ≡ w.0.key.steps = ap (λ (z : Held S). z.key.steps) p in
            omega (arith, w.3))

        go : Line n → Line (suc n)
        go a = (
          i ∷ a.0,
          omega (arith, a.1),
          ((r, h, y, omega arith), all_map _ _ (λ s w. (w.0, w.1, w.2, omega (arith, w.3))) a.0 a.2),
          (all_map _ _ other a.0 a.2, a.3),
        )

    -- A taken record has fewer steps than there are taken records.
    pub taken_steps : (i : ℕ) (r : Held S) → Holds t i r → r.taken ≡ true → r.key.steps < taken_in S t
    taken_steps i r h y =
        let a = line r.key.steps i r h y refl in
        let l = apart_length eqb eqb-true (λ n. eq-eqb n n refl) (taken_from t 0) a.0
        (all_map _ _ (λ s w. taken_mem t 0 s s w.0 w.1 w.2 (omega arith)) a.0 a.2) a.3 in
        omega (arith, a.1, taken_length t 0)

    -- Where a record is open or a slot is free, one step more has 16 bits.
    pub next_steps : {places : ℕ} (i : ℕ) (r : Held S) → Holds t i r → r.taken ≡ true
        → ((j : ℕ) × (q : Held S) × Holds t j q × (q.taken ≡ false)) ⊎ (length t < places) → length t ≤ places → places ≤ 65536 → r.key.steps + 1 < 65536
    next_steps i r h y (inl o) l m = omega (arith, taken_steps i r h y, open_taken t o.0 o.1 o.2 o.3)
    next_steps i r h y (inr f) l m = omega (arith, taken_steps i r h y, taken_le S t)

-- ---- the same of slots

module _ (job : Query) {m0 : Node} (ss : List Slot) {P : Entry (sys job) → Type 0} (inv : Inv (sys job) m0 (held_in job.bytes ss) P) where
  -- Slot i is taken, and another is open or free: one step more has 16 bits.
  pub next_fits : {places : ℕ} (i : ℕ) → i < length ss → (slot_in ss i).taken ≡ true
      → ((j : ℕ) × (j < length ss) × ((slot_in ss j).taken ≡ false)) ⊎ (length ss < places)
      → length ss ≤ places → places ≤ 65536
      → (slot_in ss i).key.steps + 1 < 65536
  unfolding held_is
  next_fits {places} i l y o h m =
      next_steps (sys job) inv {places = places} i (held_is job.bytes (slot_in ss i)) (held_at job.bytes ss i l) y (go o)
      (omega (arith, length-held job.bytes ss)) m
    where
      go : ((j : ℕ) × (j < length ss) × ((slot_in ss j).taken ≡ false)) ⊎ (length ss < places)
          → ((j : ℕ) × (q : Held (sys job)) × Holds (held_in job.bytes ss) j q × (q.taken ≡ false)) ⊎ (length (held_in job.bytes ss) < places)
      go (inl p) = inl (p.0, held_is job.bytes (slot_in ss p.0), held_at job.bytes ss p.0 p.1, p.2)
      go (inr p) = inr (omega (arith, length-held job.bytes ss))
