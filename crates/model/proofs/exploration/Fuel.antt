-- Enough fuel: with as many entries allowed as there are codes of nodes, `explore` comes to its end.
use Rattle.std.proofs.Common.{Option, None, Some}
use mathlib.Core.Path.{◌≡◌, refl, sym, ap, ◌∙◌, subst}
use Prim.Native.Nat.{ℕ, zero, suc, ◌+◌, ◌≤◌, ◌<◌}
use native.Mathlib.Omega.{arith}
use mathlib.Core.Bool.{false, true≢false}
use mathlib.Core.List.{List, [], ◌∷◌, map}
use lib.ListN.{length, length-map}
use lib.Dec.{eqb}
use borrow.Author.Tests.{ne_eqb}
use Rattle.model.specs.exploration.System.{System}
use Rattle.model.specs.exploration.Equations.{Starts}
use Rattle.model.specs.exploration.Explore.{Entry, arrivals, frontier, least, gather, Explored, all_of, no_more, explore, start_entry, reached}
use Rattle.model.proofs.exploration.Laws.{Laws, Finite}
use Rattle.model.proofs.exploration.Each.{All, all_map, all_at}
use Rattle.model.proofs.exploration.Counting.{Apart, pigeonhole}
use Rattle.model.proofs.exploration.Arrivals.{arrivals_all, new_apart, fresh_to, least_mem}
use Rattle.model.proofs.exploration.Gather.{gather_same}
use Rattle.model.proofs.exploration.Invariant.{Distinct, Complete, Inv, inv_next, start_inv, explore_inv}

-- `reached`, by what the start is
by_start : (S : System) {o : Option S.Node} → S.start ≡ o
    → reached S ≡ elim o as (λ x. List (Entry S)) [ None ↦ [] | Some m ↦ elim (explore S S.bound (start_entry S m ∷ [])) [ all_of es ↦ es | no_more ↦ [] ] ]
unfolding reached
by_start S e = ap (λ (o : Option S.Node). elim o as (λ x. List (Entry S)) [ None ↦ [] | Some m ↦ elim (explore S S.bound (start_entry S m ∷ [])) [ all_of es ↦ es | no_more ↦ [] ] ]) e

pub reached_none : (S : System) → S.start ≡ None → reached S ≡ []
reached_none S e = by_start S e

module _ (S : System) (laws : Laws S) (fin : Finite S) where
  abbrev Fine : Entry S → Type 0
  Fine e = fin.Ok e.node

  -- The next entry is at a node that has a code.
  next_fine : (L : List (Entry S)) (x : Entry S) (xs : List (Entry S)) → frontier S L ≡ x ∷ xs → All Fine L → Fine (gather S (least S x xs) (x ∷ xs))
  unfolding frontier
  next_fine L x xs e h =
      let k : All Fine (arrivals S L) = arrivals_all S Fine Fine (λ y n i f c b s. fin.step_ok y.node i f s) L h in
      let a : All Fine (x ∷ xs) = subst (All Fine) e (fresh_to S Fine L (arrivals S L) (all_map _ _ (λ z f n. f) (arrivals S L) k)) in
      subst fin.Ok (sym (gather_same S (least S x xs) (x ∷ xs)).0) (all_at Fine (x ∷ xs) (least_mem S x xs) a)

  -- ---- codes

  abbrev codes : List (Entry S) → List ℕ
  codes L = map (λ (e : Entry S). fin.code e.node) L

  codes_lt : (L : List (Entry S)) → All Fine L → All (λ x. x < S.bound) (codes L)
  codes_lt [] h = tt
  codes_lt (e ∷ L) h = (fin.code_lt e.node h.0, codes_lt L h.1)

  code_apart : (e : Entry S) → Fine e → (L : List (Entry S)) → All Fine L → All (λ y. S.same e.node y.node ≡ false) L
      → All (λ c. eqb (fin.code e.node) c ≡ false) (codes L)
  code_apart e f [] h n = tt
  code_apart e f (y ∷ L) h n = (
    ne_eqb _ _ (λ q. true≢false (sym (laws.same_refl e.node) ∙ ap (S.same e.node) (fin.code_eq _ _ f h.0 q) ∙ n.0)),
    code_apart e f L h.1 n.1,
  )

  codes_apart : (L : List (Entry S)) → All Fine L → Distinct S L → Apart eqb (codes L)
  codes_apart [] h d = tt
  codes_apart (e ∷ L) h d = (code_apart e h.0 L h.1 (new_apart S L e d.0), codes_apart L h.1 d.1)

  few : (L : List (Entry S)) → All Fine L → Distinct S L → length L ≤ S.bound
  few L f d = let p = pigeonhole S.bound (codes L) (codes_lt L f) (codes_apart L f d) in rw (← length-map L (λ (e : Entry S). fin.code e.node)) p

  -- ---- the end

  module _ (s0 : Entry S) where
    -- a list as long as L and the fuel
    abbrev Longer : List (Entry S) → ℕ → Type 0
    Longer L n = (K : List (Entry S)) × All Fine K × Inv S s0 K × (length K ≡ length L + n)

    longer : (n : ℕ) (L : List (Entry S)) → All Fine L → Inv S s0 L → explore S n L ≡ no_more → Longer L n
    unfolding explore
    longer zero L f h r = (L, f, h, omega arith)
    longer (suc n) L f h r = go (frontier S L) refl (λ K. longer n K)
      where
        go : (o : List (Entry S)) → frontier S L ≡ o → ((K : List (Entry S)) → All Fine K → Inv S s0 K → explore S n K ≡ no_more → Longer K n) → Longer L (suc n)
        go [] e ih = let p : ◌≡◌ {A = Explored S} (all_of L) no_more = rw (e, explore) at r in let z : ◌≡◌ {A = ℕ} 0 1 = cc in absurd (omega arith)
        go (x ∷ xs) e ih =
            let k = ih (gather S (least S x xs) (x ∷ xs) ∷ L) (next_fine L x xs e f, f) (inv_next S laws s0 L h x xs e) (rw (e, explore) at r) in
            (k.0, k.1, k.2, omega (arith, k.3))

  module _ {m : S.Node} (starts : Starts S m) where
    ends : explore S S.bound (start_entry S m ∷ []) ≡ no_more → ⊥
    unfolding start_entry
    ends r =
        let k = longer (start_entry S m) S.bound (start_entry S m ∷ []) (fin.start_ok starts, tt) (start_inv S laws m) r in
        let l = few k.0 k.1 k.2.distinct in
        omega (arith, k.3)

    reached_is : explore S S.bound (start_entry S m ∷ []) ≡ all_of (reached S)
    reached_is = go (explore S S.bound (start_entry S m ∷ [])) refl
      where
        go : (o : Explored S) → explore S S.bound (start_entry S m ∷ []) ≡ o → explore S S.bound (start_entry S m ∷ []) ≡ all_of (reached S)
        go (all_of es) e = e ∙ ap all_of (sym (by_start S starts ∙ ap (λ (o : Explored S). elim o as (λ x. List (Entry S)) [ all_of es ↦ es | no_more ↦ [] ]) e))
        go no_more e = absurd (ends e)

    -- The entries of all nodes reached satisfy the invariant, and every arrival is at one of their nodes.
    pub reached_inv : Inv S (start_entry S m) (reached S) × Complete S (reached S)
    reached_inv = explore_inv S laws (start_entry S m) S.bound (start_entry S m ∷ []) (reached S) (start_inv S laws m) reached_is
