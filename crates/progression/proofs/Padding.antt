-- Laws of the array of eight entries.
use Rattle.std.proofs.Common.{◌≡◌, refl, sym, ap, ap₂, ◌∙◌, ℕ, zero, suc, ◌-◌, ◌≤◌, ◌<◌, List, [], ◌∷◌, ◌++◌, length, take, get_or, set, replicate, arith}
use Rattle.std.proofs.Common.{append_assoc, length-append}
use Rattle.std.specs.Int.Bits.{bit_and}
use Rattle.std.proofs.Math.ListN.{length-replicate, get_or-append}
use Rattle.std.proofs.Math.Seq.{set_at, take-append_seam}
use Rattle.model.specs.search.Node.{meet_all}
use Rattle.model.proofs.job.ResidualLists.{length-meet_all}
use Rattle.progression.specs.Padded.{padded}

-- The array that is filled with 0 has no entry.
pub padded_none : replicate 8 0 ≡ padded []
unfolding padded
padded_none = refl

pub length-padded : (l : List ℕ) → length l ≤ 8 → length (padded l) ≡ 8
unfolding padded
length-padded l h = simp (length-append, length-replicate) (omega arith)

-- The entries of the list come first.
pub take-padded : (l : List ℕ) (n : ℕ) → length l ≡ n → take n (padded l) ≡ l
unfolding padded
take-padded l n e = rw (← e) (take-append_seam l _)

pub get_or-padded : (l : List ℕ) (i : ℕ) → i < length l → get_or (padded l) i 0 ≡ get_or l i 0
unfolding padded
get_or-padded l i h = get_or-append l _ 0 i h

-- The entry after the last is stored.
pub set_padded : (l : List ℕ) (n x : ℕ) → length l ≡ n → n < 8 → set (padded l) n x ≡ padded (l ++ (x ∷ []))
unfolding padded
set_padded l n x e h =
    let p : 8 - length l ≡ suc (8 - suc n) = omega arith in
    let q : 8 - length (l ++ (x ∷ [])) ≡ 8 - suc n = simp length-append (omega arith) in
    rw (p, q) (set_at l 0 (replicate (8 - suc n) 0) x n e ∙ sym (append_assoc l (x ∷ []) (replicate (8 - suc n) 0)))

-- ---- the conjunction
-- So many entries of the conjunction are that of so many entries.
pub take-meet_all : (n : ℕ) (a b : List ℕ) → take n (meet_all a b) ≡ meet_all (take n a) (take n b)
unfolding meet_all
take-meet_all zero a b = refl
take-meet_all (suc n) [] b = refl
take-meet_all (suc n) (x ∷ a) [] = refl
take-meet_all (suc n) (x ∷ a) (y ∷ b) = ap (λ (l : List ℕ). bit_and x y ∷ l) (take-meet_all n a b)

-- Entries after the last formula stay 0.
meet_all_zeros : (n : ℕ) → meet_all (replicate n 0) (replicate n 0) ≡ replicate n 0
unfolding meet_all
meet_all_zeros zero = refl
meet_all_zeros (suc n) = ap (λ (l : List ℕ). 0 ∷ l) (meet_all_zeros n)

meet_all_append : (a b c d : List ℕ) → length a ≡ length b → meet_all (a ++ c) (b ++ d) ≡ meet_all a b ++ meet_all c d
unfolding meet_all
meet_all_append [] [] c d e = refl
meet_all_append [] (y ∷ b) c d e = absurd (omega arith)
meet_all_append (x ∷ a) [] c d e = absurd (omega arith)
meet_all_append (x ∷ a) (y ∷ b) c d e = ap (λ (l : List ℕ). bit_and x y ∷ l) (meet_all_append a b c d (omega arith))

pub meet_all_padded : (a b : List ℕ) → length a ≡ length b → meet_all (padded a) (padded b) ≡ padded (meet_all a b)
unfolding padded
meet_all_padded a b e =
    rw (length-meet_all a b e, ← e) (meet_all_append a b _ _ e ∙ ap (λ (l : List ℕ). meet_all a b ++ l) (meet_all_zeros (8 - length a)))

-- An array whose entries are those of the conjunction.
pub met_is : (xs a b : List ℕ) → length xs ≡ length a → length a ≡ length b
    → ((i : ℕ) → i < length a → get_or xs i 0 ≡ bit_and (get_or a i 0) (get_or b i 0)) → xs ≡ meet_all a b
unfolding meet_all
met_is [] [] b l m e = refl
met_is [] (y ∷ a) b l m e = absurd (omega arith)
met_is (x ∷ xs) [] b l m e = absurd (omega arith)
met_is (x ∷ xs) (y ∷ a) [] l m e = absurd (omega arith)
met_is (x ∷ xs) (y ∷ a) (z ∷ b) l m e =
    ap₂ (λ (h : ℕ) (t : List ℕ). h ∷ t) (e 0 (omega arith)) (met_is xs a b (omega arith) (omega arith) (λ i h. e (suc i) (omega arith)))
