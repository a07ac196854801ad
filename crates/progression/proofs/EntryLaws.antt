-- The entries of a memo: one that is found is right, and one that is right can be written.
use Rattle.std.proofs.Common.{◌≡◌, refl, sym, ap, ◌∙◌, subst, subst₂, ℕ, ◌+◌, ◌*◌, ◌-◌, ◌/◌, ◌%◌, ◌≤◌, ◌<◌, Option, Some, List, length, get_or, set, arith}
use Rattle.std.proofs.Common.{length-set, get_or-set_same, get_or-set_other}
use native.Mathlib.Decide.{dec_lt}
use Rattle.model.specs.logic.Names.{Names}
use Rattle.model.specs.job.Layout.{pair_count, formula_at}
use Rattle.progression.specs.declared.entries.Question.{Question}
use Rattle.progression.specs.Workspace.{answer, Entry, Workspace, written, asks, Recalls, Remembers}

-- ---- the words after an entry was written
module _ (w : List ℕ) (at : ℕ) (q : Question) (x : ℕ) where
  abbrev w1 : List ℕ
  w1 = set w at q.key

  abbrev w2 : List ℕ
  w2 = set w1 (at + 1) q.residual

  abbrev w3 : List ℕ
  w3 = set w2 (at + 2) q.facts

  elsewhere : (j : ℕ) → (at ≡ j → ⊥) → (at + 1 ≡ j → ⊥) → (at + 2 ≡ j → ⊥) → (at + 3 ≡ j → ⊥) → get_or (written w at q x) j 0 ≡ get_or w j 0
  elsewhere j n0 n1 n2 n3 =
      get_or-set_other w3 (at + 3) j x 0 (λ e. omega arith) ∙ get_or-set_other w2 (at + 2) j q.facts 0 (λ e. omega arith)
      ∙ get_or-set_other w1 (at + 1) j q.residual 0 (λ e. omega arith) ∙ get_or-set_other w at j q.key 0 (λ e. omega arith)

  module _ (inside : at + 4 ≤ length w) where
    word_key : get_or (written w at q x) at 0 ≡ q.key
    word_key =
        get_or-set_other w3 (at + 3) at x 0 (λ e. omega arith) ∙ get_or-set_other w2 (at + 2) at q.facts 0 (λ e. omega arith)
        ∙ get_or-set_other w1 (at + 1) at q.residual 0 (λ e. omega arith) ∙ get_or-set_same w at q.key 0 (omega arith)

    word_residual : get_or (written w at q x) (at + 1) 0 ≡ q.residual
    word_residual =
        get_or-set_other w3 (at + 3) (at + 1) x 0 (λ e. omega arith) ∙ get_or-set_other w2 (at + 2) (at + 1) q.facts 0 (λ e. omega arith)
        ∙ get_or-set_same w1 (at + 1) q.residual 0 (simp length-set (omega arith))

    word_facts : get_or (written w at q x) (at + 2) 0 ≡ q.facts
    word_facts =
        get_or-set_other w3 (at + 3) (at + 2) x 0 (λ e. omega arith)
        ∙ get_or-set_same w2 (at + 2) q.facts 0 (simp length-set (omega arith))

    word_answer : get_or (written w at q x) (at + 3) 0 ≡ x
    word_answer = get_or-set_same w3 (at + 3) x 0 (simp length-set (omega arith))

-- An entry that is that of a question says its answer.
pub recalled_at : (w : List ℕ) (q : Question) (at e : ℕ) → at ≡ 32 + 4 * e → 36 + 4 * e ≤ length w → asks w at q → Recalls w q (Some (get_or w (at + 3) 0))
recalled_at w q at e d h a = (e, h, subst (λ (n : ℕ). asks w n q) d a, ap (λ (n : ℕ). get_or w (n + 3) 0) d)

module _ (job : List ℕ) where
  -- four words that are those of a right entry
  entry_by : {k r s x k' r' s' x' : ℕ} → k' ≡ k → r' ≡ r → s' ≡ s → x' ≡ x → Entry job k r s x → Entry job k' r' s' x'
  entry_by {k} {r} {s} {x} {k'} {r'} {s'} {x'} e f g h t = λ p. h ∙ t (subst (λ (n : ℕ). 0 < n) e p)
      ∙ (λ i. answer (formula_at job (sym e i / 256)) (sym e i % 256) (sym f i) (sym g i))

  -- the entry that a question about section i in world m is kept in, by its answer
  pub entry_made : (i m : ℕ) (q : Question) {x : ℕ} → m < 256 → q.key ≡ 256 * i + m → x ≡ answer (formula_at job i) m q.residual q.facts
      → Entry job q.key q.residual q.facts x
  entry_made i m q l e t = λ p.
      let ei : i ≡ q.key / 256 = omega arith in
      let em : m ≡ q.key % 256 = omega arith in
      t ∙ (λ j. answer (formula_at job (ei j)) (em j) q.residual q.facts)

  module _ {w : List ℕ} (work : Workspace job w) (few : pair_count job ≤ 17) (room : 40 ≤ length w) where
    -- An answer that is recalled is right.
    pub recalled_right : (i m : ℕ) (q : Question) (r : Option ℕ) (x : ℕ) → 1 ≤ i → m < 256 → q.key ≡ 256 * i + m → Recalls w q r → r ≡ Some x
        → x ≡ answer (formula_at job i) m q.residual q.facts
    recalled_right i m q r x p l k h c =
        let g = subst (Recalls w q) c h in
        let ei : q.key / 256 ≡ i = omega arith in
        let em : q.key % 256 ≡ m = omega arith in
        g.3 ∙ entry_by (sym g.2.0) (sym g.2.1) (sym g.2.2) refl (work.right room g.0 g.1) (omega arith)
        ∙ (λ j. answer (formula_at job (ei j)) (em j) q.residual q.facts)

    -- An entry that is right can be written.
    module _ (e : ℕ) (q : Question) (x : ℕ) (h : 36 + 4 * e ≤ length w) (t : Entry job q.key q.residual q.facts x) where
      abbrev at : ℕ
      at = 32 + 4 * e

      abbrev v : List ℕ
      v = written w at q x

      abbrev Here : ℕ → Type 0
      Here d = Entry job (get_or v (32 + 4 * d) 0) (get_or v (32 + 4 * d + 1) 0) (get_or v (32 + 4 * d + 2) 0) (get_or v (32 + 4 * d + 3) 0)

      same_length : length v ≡ length w
      same_length = simp length-set refl

      before : (j : ℕ) → j < at → get_or v j 0 ≡ get_or w j 0
      before j l = elsewhere w at q x j (λ d. omega arith) (λ d. omega arith) (λ d. omega arith) (λ d. omega arith)

      -- another entry stays
      other : (d : ℕ) → (d ≡ e → ⊥) → 36 + 4 * d ≤ length w → Here d
      other d n l =
          entry_by (word (32 + 4 * d) (omega arith) (omega arith)) (word (32 + 4 * d + 1) (omega arith) (omega arith))
          (word (32 + 4 * d + 2) (omega arith) (omega arith)) (word (32 + 4 * d + 3) (omega arith) (omega arith)) (work.right room d l)
        where
          word : (j : ℕ) → 32 + 4 * d ≤ j → j < 36 + 4 * d → get_or v j 0 ≡ get_or w j 0
          word j f g = elsewhere w at q x j (λ c. n (omega arith)) (λ c. n (omega arith)) (λ c. n (omega arith)) (λ c. n (omega arith))

      all_right : (d : ℕ) → 36 + 4 * d ≤ length v → Here d
      all_right d l = go (dec_lt d e) (dec_lt e d)
        where
          here : Here e
          here =
              entry_by (word_key w at q x (omega arith)) (word_residual w at q x (omega arith))
              (word_facts w at q x (omega arith)) (word_answer w at q x (omega arith)) t

          go : Dec (d < e) → Dec (e < d) → Here d
          go (yes c) n = other d (λ i. omega arith) (omega (arith, same_length))
          go (no c) (yes n) = other d (λ i. omega arith) (omega (arith, same_length))
          go (no c) (no n) = let i : e ≡ d = omega arith in subst Here i here

      pub entry_written : Workspace job (written w (32 + 4 * e) q x)
      entry_written = record {
        short = omega (arith, same_length, work.short);
        named = λ g i p l. subst₂ (λ (f a : ℕ). Names f a (formula_at job i))
            (sym (before (2 * i - 2) (omega arith))) (sym (before (2 * i - 1) (omega arith))) (work.named room i p l);
        right = λ g. all_right;
      }

-- A right answer can be kept in entry e, what was there going to the next.
pub remembered : (w : List ℕ) (e : ℕ) (q old : Question) (x : ℕ) → asks w (32 + 4 * e) old → 40 + 4 * e ≤ length w
    → Remembers w q x (written (written w (32 + 4 * e + 4) old (get_or w (32 + 4 * e + 3) 0)) (32 + 4 * e) q x)
remembered w e q old x a h job work few t =
    entry_written job (subst (λ (n : ℕ). Workspace job (written w n old x₀)) next moved)
    few (simp length-set (omega arith)) e q x (simp length-set (omega arith)) t
  where
    x₀ : ℕ
    x₀ = get_or w (32 + 4 * e + 3) 0

    -- what was there is right as that question's answer
    right : Entry job old.key old.residual old.facts x₀
    right = entry_by job (sym a.0) (sym a.1) (sym a.2) refl (work.right (omega arith) e (omega arith))

    moved : Workspace job (written w (32 + 4 * (e + 1)) old x₀)
    moved = entry_written job work few (omega arith) (e + 1) old x₀ (omega arith) right

    next : 32 + 4 * (e + 1) ≡ 32 + 4 * e + 4
    next = omega arith
