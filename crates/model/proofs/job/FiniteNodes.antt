-- A proper job has finitely many nodes: a state and at most 8 residuals of 64 bits each, as digits of one number.
use Rattle.std.proofs.Common.{Some}
use mathlib.Core.Path.{◌≡◌, refl, sym, ap, ap₂, ◌∙◌, subst}
use Prim.Native.Nat.{ℕ, suc, ◌+◌, ◌-◌, ◌*◌, ◌^◌, ◌≤◌, ◌<◌}
use native.Mathlib.Omega.{arith}
use native.Mathlib.Nat.{lt_of_lt_of_le}
use mathlib.Core.List.{List, [], ◌∷◌}
use lib.Bits.{bit_and, or_lt}
use lib.ListN.{length}
use lib.Pow.{pow-add, pow_mono}
use Rattle.model.specs.job.Job.{Job, Action, action_of}
use Rattle.model.specs.task.State.{after}
use Rattle.model.specs.search.Node.{Node}
use Rattle.model.specs.search.JobSystem.{start_node, next_node, most_nodes, plain_system}
use Rattle.model.proofs.exploration.Laws.{Finite}
use Rattle.model.proofs.job.Accepted.{ProperJob}
use Rattle.model.proofs.job.NodeLaws.{start_some, next_some}
use Rattle.model.proofs.job.ResidualLists.{Words, length-residuals, residuals_words, length-progressed_all, progressed_all_words}

-- ---- numbers as digits of one number

unfoldable digits_of : List ℕ → ℕ
digits_of [] = 0
digits_of (r ∷ rs) = r + 2 ^ 64 * digits_of rs

digits_lt : (rs : List ℕ) → Words rs → digits_of rs < 2 ^ (64 * length rs)
unfolding digits_of
digits_lt [] h = omega arith
digits_lt (r ∷ rs) h =
    let l = digits_lt rs h.1 in
    let p : 2 ^ (64 + 64 * length rs) ≡ 2 ^ 64 * 2 ^ (64 * length rs) = pow-add 2 64 (64 * length rs) in
    let e : 64 * suc (length rs) ≡ 64 + 64 * length rs = omega arith in
    rw e (omega (arith, h.0))

-- As many digits that make the same number are the same.
digits_eq : (rs qs : List ℕ) → Words rs → Words qs → length rs ≡ length qs → digits_of rs ≡ digits_of qs → rs ≡ qs
unfolding digits_of
digits_eq [] [] h k l e = refl
digits_eq [] (q ∷ qs) h k l e = absurd (omega arith)
digits_eq (r ∷ rs) [] h k l e = absurd (omega arith)
digits_eq (r ∷ rs) (q ∷ qs) h k l e =
    let a : r ≡ q = omega (arith, h.0, k.0) in
    let b : digits_of rs ≡ digits_of qs = omega (arith, h.0, k.0) in
    ap₂ (λ (x : ℕ) (xs : List ℕ). x ∷ xs) a (digits_eq rs qs h.1 k.1 (omega arith) b)

-- ---- nodes as numbers

-- An action keeps a state in 64 bits.
after_lt : (a : Action) (s : ℕ) → s < 2 ^ 64 → a.add < 2 ^ 64 → after a s < 2 ^ 64
unfolding after
after_lt a s h k = or_lt 64 (s - bit_and s a.del) a.add (omega arith) k

module _ (j : Job) where
  -- a state of 64 bits, and a residual of 64 bits for each constraint
  abbrev pub Sized : Node → Type 0
  Sized n = (n.state < 2 ^ 64) × (length n.residuals ≡ length j.constraints) × Words n.residuals

  code : Node → ℕ
  code n = digits_of (n.state ∷ n.residuals)

  module _ (proper : ProperJob j) where
    pub start_sized : {m : Node} → start_node j ≡ Some m → Sized m
    start_sized {m} e =
        subst (λ (n : Node). Sized n) ((start_some j m).0 e).1 (proper.start_lt, length-residuals j.constraints _, residuals_words j.constraints _)

    pub step_sized : (m : Node) {n : Node} (i : ℕ) → Sized m → next_node j m i ≡ Some n → Sized n
    step_sized m {n} i h e =
        subst (λ (k : Node). Sized k) ((next_some j m i n).0 e).2 (
          after_lt (action_of j i) m.state h.0 (proper.add_lt i),
          length-progressed_all j.constraints m.residuals _ h.1,
          progressed_all_words j.constraints m.residuals _,
        )

    code_lt : (m : Node) → Sized m → code m < most_nodes
    unfolding code most_nodes
    code_lt m h =
        let few = proper.few_constraints in
        let l = h.1 in
        let b : 64 * suc (length m.residuals) ≤ 64 * 9 = omega arith in
        lt_of_lt_of_le (digits_lt (m.state ∷ m.residuals) (h.0, h.2)) (pow_mono b)

    code_eq : (m n : Node) → Sized m → Sized n → code m ≡ code n → m ≡ n
    unfolding code
    code_eq m n h k e =
        let d : m.state ∷ m.residuals ≡ n.state ∷ n.residuals =
        digits_eq (m.state ∷ m.residuals) (n.state ∷ n.residuals) (h.0, h.2) (k.0, k.2) (ap suc (h.1 ∙ sym k.1)) e
        in
        let p : m.state ≡ n.state = cc in
        let q : m.residuals ≡ n.residuals = cc in
        λ i. record { state = p i; residuals = q i }

    pub plain_finite : Finite (plain_system j)
    plain_finite = record { Ok = Sized; start_ok = start_sized; step_ok = step_sized; code = code; code_lt = code_lt; code_eq = code_eq }
