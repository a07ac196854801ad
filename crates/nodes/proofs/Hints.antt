-- Laws of the arrays that hold the hints' residuals.
use Rattle.std.proofs.Common.{◌≡◌, sym, ap, ap₂, ◌∙◌, ℕ, ◌≤◌, Bool, Some, List, length, take, get_or, arith, length-take}
use Rattle.model.specs.job.Job.{Job}
use Rattle.model.specs.search.Node.{progressed_all, meet_all, some_dead}
use Rattle.model.specs.search.JobSystem.{carry_hints}
use Rattle.progression.specs.Padded.{padded}
use Rattle.progression.proofs.Padding.{length-padded, take-padded, take-meet_all, meet_all_padded}
use Rattle.nodes.specs.Meaning.{node_is, hints_is, CleanHints, Carries}
use Rattle.nodes.proofs.Fields.{length-left}

-- The residuals of all hints and nothing else are clean.
pub padded_carries : {n : ℕ} {h : List ℕ} (l : List ℕ) → h ≡ padded l → length l ≡ n → Carries n l h
unfolding hints_is
padded_carries {n} {h} l e k =
    let t : take n h ≡ l = rw e (take-padded l n k) in
    record { carries = t; clean = rw t e }

-- What the hints leave after an action: the world is that of the node that it led to.
pub carried : (j : Job) (n : ℕ) (hints : List ℕ) (m : ℕ) (node : List ℕ) (i : ℕ) {h : List ℕ}
    → h ≡ padded (progressed_all j.hints (take n hints) (record { state = get_or node 0 0; made = Some i })) → length j.hints ≡ n → n ≤ length hints
    → Carries n (carry_hints j (hints_is n hints) (node_is m node) i) h
unfolding carry_hints hints_is node_is
carried j n hints m node i e k l = padded_carries _ e (length-left j.hints n hints _ k l)

-- As many residuals were looked at as there are hints.
pub cut_told : (n count : ℕ) (hints : List ℕ) (b : Bool) → count ≡ n → b ≡ some_dead (take count hints) → b ≡ some_dead (hints_is n hints)
unfolding hints_is
cut_told n count hints b e d = d ∙ ap (λ (k : ℕ). some_dead (take k hints)) e

-- A clean array has eight entries, so a residual for each formula.
pub clean_length : (n : ℕ) (a : List ℕ) → CleanHints n a → n ≤ 8 → length (take n a) ≡ n
clean_length n a e l =
    let p = length-take n a in
    let q = length-padded (take n a) (omega arith) in
    omega (arith, ap length e)

-- ---- the conjunction

pub hints_met : (n : ℕ) (a b : List ℕ) → hints_is n (meet_all a b) ≡ meet_all (hints_is n a) (hints_is n b)
unfolding hints_is
hints_met n a b = take-meet_all n a b

-- The conjunction of clean arrays is clean.
pub clean_met : (n : ℕ) (a b : List ℕ) → CleanHints n a → CleanHints n b → n ≤ 8 → CleanHints n (meet_all a b)
clean_met n a b p q l =
    let k : length (take n a) ≡ length (take n b) = omega (arith, clean_length n a p l, clean_length n b q l) in
    ap₂ (λ (x y : List ℕ). meet_all x y) p q ∙ meet_all_padded (take n a) (take n b) k ∙ ap padded (sym (take-meet_all n a b))
