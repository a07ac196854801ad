-- Paths through uncut entries: their ends, their runs, their lengths, and that they depend on entries of no higher rank alone.
use mathlib.Core.Path.{◌≡◌, subst}
use Prim.Native.Nat.{ℕ}
use native.Mathlib.Omega.{arith}
use mathlib.Core.List.{List}
use lib.ListN.{length}
use Rattle.model.specs.exploration.Key.{Key, zero_key, extend, Le}
use Rattle.model.specs.exploration.System.{System, rank_of}
use Rattle.model.specs.exploration.Equations.{Entries, Starts, Uncut, Path, begin, onward}
use Rattle.model.proofs.exploration.KeyLaws.{le_refl, le_trans, lt_le, rank_step}
use Rattle.model.proofs.exploration.Laws.{Laws}
use Rattle.model.proofs.exploration.Runs.{Run, stop, on, run_append, run_steps}

module _ (S : System) where
  module _ {L : Entries S} where
    -- A path ends at an uncut entry.
    pub path_end : {p : List ℕ} {n : S.Node} {k : Key} → Path S L p n k → Uncut S L n k
    path_end (begin s u) = u
    path_end (onward i q b s u) = u

    -- A path is a run from the start node.
    pub path_run : {p : List ℕ} {n : S.Node} {k : Key} → Path S L p n k → (m : S.Node) × Starts S m × Run S m zero_key p n k
    path_run (begin {n = n} s u) = (n, s, stop)
    path_run (onward i q b s u) = let r = path_run q in (r.0, r.1, run_append S r.2 (on i b s stop))

    -- A path has as many actions as its key says.
    pub path_steps : {p : List ℕ} {n : S.Node} {k : Key} → Path S L p n k → k.steps ≡ length p
    unfolding zero_key
    path_steps q = let r = path_run q in omega (arith, run_steps S r.2)

    pub path_cast : {p q : List ℕ} {m n : S.Node} {j k : Key} → p ≡ q → m ≡ n → j ≡ k → Path S L p m j → Path S L q n k
    path_cast {p} {q} {m} {n} {j} {k} a b c r =
        subst (λ (z : List ℕ). Path S L z n k) a (subst (λ (z : S.Node). Path S L p z k) b (subst (λ (z : Key). Path S L p m z) c r))

  -- Entries up to a rank are enough for a path to a node of that rank.
  pub path_map : Laws S → (L M : Entries S) {p : List ℕ} {n : S.Node} {k : Key}
      → ((j : Key) (m : S.Node) → Le (rank_of S m j) (rank_of S n k) → (h : S.Hints) → L m j h → M m j h)
      → Path S L p n k → Path S M p n k
  path_map laws L M f (begin {n = n} s u) = begin s (u.0, f zero_key n (le_refl _) u.0 u.1, u.2)
  path_map laws L M f (onward {m = m} {n = n} {k = k} i q b s u) =
      let c = extend k (S.cost i) in
      let l = lt_le _ _ (rank_step k (S.cost i) _ _ (laws.consistent m n i b s)) in
      onward i (path_map laws L M (λ j x le. f j x (le_trans _ _ _ le l)) q) b s (u.0, f c n (le_refl _) u.0 u.1, u.2)
