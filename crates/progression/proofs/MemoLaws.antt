-- What the memo answers, and what it keeps, for the formula in one section.
use Rattle.std.proofs.Common.{◌≡◌, refl, sym, ap, ◌∙◌, subst, ℕ, ◌+◌, ◌*◌, ◌-◌, ◌≤◌, ◌<◌, Bool, true, false, Option, Some, None, List, length, get_or, eqb}
use Rattle.std.proofs.Common.{arith}
use Rattle.std.specs.Int.Bits.{bit_and}
use mir.Val.{bool_byte}
use Rattle.model.specs.Bits.{digit}
use Rattle.model.specs.logic.Names.{Names}
use Rattle.model.specs.logic.Parts.{most_parts, parts_of}
use Rattle.model.specs.logic.Progression.{progressed, closing}
use Rattle.model.specs.job.Layout.{pair_count, formula_at}
use Rattle.model.specs.search.Query.{Query}
use Rattle.progression.specs.declared.entries.Question.{Question}
use Rattle.residual.specs.declared.World.{World}
use Rattle.residual.specs.declared.World.TheVariants.{After, Closing}
use Rattle.progression.specs.Workspace.{answer, made_code, named_of, Kept, Recalls, Remembers}
use Rattle.progression.proofs.Lent.{few_sections}
use Rattle.progression.proofs.Questions.{named_code_lt, answer_next, answer_closing}
use Rattle.progression.proofs.EntryLaws.{recalled_right, entry_made}

-- the number of a truth is its digit, which tells it
number_digit : (b : Bool) → bool_byte b ≡ digit b
unfolding digit
number_digit true = refl
number_digit false = refl

digit_is : (b : Bool) → eqb (digit b) 1 ≡ b
unfolding digit
digit_is true = refl
digit_is false = refl

-- what is kept for a query's job, by the view of the query
pub kept_by : {q r : Query} {words : List ℕ} → q ≡ r → Kept q.bytes words → Kept r.bytes words
kept_by {words = words} e k = subst (λ (p : Query). Kept p.bytes words) e k

-- what is asked of the formula in section i
abbrev pub Asked : List ℕ → ℕ → World → ℕ → ℕ → Question → Type 0
Asked words i world r s q = q ≡ record { key = 256 * i + made_code world; residual = r; facts = bit_and s (get_or words (2 * i - 2) 0) }

module _ (job words : List ℕ) (kept : Kept job words) (room : 40 ≤ length words) (i : ℕ) (first : 1 ≤ i) (last : i < pair_count job) (r s : ℕ) where
  names : Names (get_or words (2 * i - 2) 0) (get_or words (2 * i - 1) 0) (formula_at job i)
  names = kept.workspace.named room i first last

  few : pair_count job ≤ 17
  few = few_sections job kept.accepted

  -- the facts of the state that the formula names
  facts : ℕ
  facts = bit_and s (get_or words (2 * i - 2) 0)

  -- ---- in any world
  module _ (world : World) (low : made_code world < 256) (q : Question) (asked : Asked words i world r s q) where
    -- an answer to the question is one to its parts
    answer_asked : answer (formula_at job i) (made_code world) q.residual q.facts ≡ answer (formula_at job i) (made_code world) r facts
    unfolding facts
    answer_asked = ap (λ (p : Question). answer (formula_at job i) (made_code world) p.residual p.facts) asked

    key_asked : q.key ≡ 256 * i + made_code world
    key_asked = ap (λ (p : Question). p.key) asked

    found : (c : Option ℕ) (x : ℕ) → Recalls words q c → c ≡ Some x → x ≡ answer (formula_at job i) (made_code world) r facts
    found c x h e = recalled_right job kept.workspace few room i (made_code world) q c x first low key_asked h e ∙ answer_asked

    stays : (x : ℕ) → x ≡ answer (formula_at job i) (made_code world) r facts → {after : List ℕ} → Remembers words q x after → Kept job after
    stays x t h = record {
      accepted = kept.accepted;
      workspace = h job kept.workspace few (entry_made job i (made_code world) q low key_asked (t ∙ sym answer_asked));
    }

  -- ---- after an action
  module _ (m : ℕ) (h : m < 64) (made : Option ℕ) (is_made : made ≡ named_of (get_or words (2 * i - 1) 0) m) (q : Question)
      (asked : Asked words i (After made) r s q) where
    made_lt : made_code (After made) < 256
    made_lt = rw is_made (named_code_lt (get_or words (2 * i - 1) 0) m h)

    next_asked : answer (formula_at job i) (made_code (After made)) r facts
        ≡ progressed most_parts (parts_of (formula_at job i)) r (record { state = s; made = Some m })
    unfolding facts
    next_asked =
        ap (λ (o : Option ℕ). answer (formula_at job i) (made_code (After o)) r facts) is_made
        ∙ answer_next (get_or words (2 * i - 2) 0) (get_or words (2 * i - 1) 0) s (formula_at job i) names r m h

    pub found_next : (c : Option ℕ) (x : ℕ) → Recalls words q c → c ≡ Some x
        → x ≡ progressed most_parts (parts_of (formula_at job i)) r (record { state = s; made = Some m })
    found_next c x g e = found (After made) made_lt q asked c x g e ∙ next_asked

    pub kept_next : (x : ℕ) → x ≡ progressed most_parts (parts_of (formula_at job i)) r (record { state = s; made = Some m })
        → {after : List ℕ} → Remembers words q x after → Kept job after
    kept_next x t = stays (After made) made_lt q asked x (t ∙ sym next_asked)

  -- ---- in the closing world
  module _ (q : Question) (asked : Asked words i Closing r s q) where
    closing_lt : made_code Closing < 256
    closing_lt = omega arith

    closing_asked : answer (formula_at job i) (made_code Closing) r facts
        ≡ digit (closing (parts_of (formula_at job i)) r (record { state = s; made = None }))
    unfolding facts
    closing_asked = answer_closing (get_or words (2 * i - 2) 0) (get_or words (2 * i - 1) 0) s (formula_at job i) names r

    pub found_closing : (c : Option ℕ) (x : ℕ) → Recalls words q c → c ≡ Some x
        → eqb x 1 ≡ closing (parts_of (formula_at job i)) r (record { state = s; made = None })
    found_closing c x g e = ap (λ (y : ℕ). eqb y 1) (found Closing closing_lt q asked c x g e ∙ closing_asked) ∙ digit_is _

    pub kept_closing : (x : ℕ) (b : Bool) → x ≡ bool_byte b → b ≡ closing (parts_of (formula_at job i)) r (record { state = s; made = None })
        → {after : List ℕ} → Remembers words q x after → Kept job after
    kept_closing x b d t = stays Closing closing_lt q asked x (d ∙ number_digit b ∙ ap digit t ∙ sym closing_asked)
