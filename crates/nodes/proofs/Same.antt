-- Two clean arrays are equal exactly if their nodes are: a search may compare arrays.
use Rattle.std.proofs.Common.{◌≡◌, refl, ap, ap₂, ◌∙◌, ℕ, ◌-◌, ◌≤◌, Bool, true, false, List, [], ◌∷◌, ◌++◌, eqb, length, take, drop, replicate, arith}
use Rattle.model.specs.search.Node.{same_numbers, same_node}
use Rattle.model.proofs.job.NodeLaws.{numbers_same}
use Rattle.progression.specs.Padded.{padded}
use Rattle.nodes.specs.Meaning.{node_is, Clean}
use Rattle.nodes.proofs.Hints.{clean_length}

-- What is the same after both decides nothing.
same_append : (a b c : List ℕ) → length a ≡ length b → same_numbers (a ++ c) (b ++ c) ≡ same_numbers a b
unfolding same_numbers
same_append [] [] c e = numbers_same c
same_append [] (y ∷ b) c e = absurd (omega arith)
same_append (x ∷ a) [] c e = absurd (omega arith)
same_append (x ∷ a) (y ∷ b) c e = go (eqb x y) refl (same_append a b c (omega arith))
  where
    go : (t : Bool) → eqb x y ≡ t → same_numbers (a ++ c) (b ++ c) ≡ same_numbers a b → same_numbers (x ∷ a ++ c) (y ∷ b ++ c) ≡ same_numbers (x ∷ a) (y ∷ b)
    go true q ih = rw (q, same_numbers) ih
    go false q ih = rw (q, same_numbers)

same_padded : (a b : List ℕ) → length a ≡ length b → same_numbers (padded a) (padded b) ≡ same_numbers a b
unfolding padded
same_padded a b e = rw e (same_append a b (replicate (8 - length b) 0) e)

-- A clean node has a residual for each constraint.
one_each : (n : ℕ) (node : List ℕ) → Clean n node → n ≤ 8 → length (take n (drop 1 node)) ≡ n
one_each n node e l = clean_length n (drop 1 node) (ap (λ (x : List ℕ). drop 1 x) e) l

-- The state decides first.
same_front : (x y : ℕ) (a b c d : List ℕ) → same_numbers a b ≡ same_numbers c d
    → same_numbers (x ∷ a) (y ∷ b) ≡ same_node (record { state = x; residuals = c }) (record { state = y; residuals = d })
unfolding same_numbers same_node
same_front x y a b c d e = ap (λ (t : Bool). elim (eqb x y) [ true ↦ t | false ↦ false ]) e

pub same_nodes : (n : ℕ) (a b : List ℕ) → Clean n a → Clean n b → n ≤ 8 → same_numbers a b ≡ same_node (node_is n a) (node_is n b)
unfolding node_is
same_nodes n a b p q l =
    let k : length (take n (drop 1 a)) ≡ length (take n (drop 1 b)) = omega (arith, one_each n a p l, one_each n b q l) in
    ap₂ (λ (x y : List ℕ). same_numbers x y) p q ∙ same_front _ _ _ _ _ _ (same_padded _ _ k)
