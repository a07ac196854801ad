-- A rule written back into a lent buffer.
use Rattle.std.specs.Prelude.{Ok, Err, ℕ, true, false, ◌&&◌, List, [], length, leb}
use Rattle.model.specs.Verdict.{Verdict, unless, or_else}
use Rattle.model.specs.Results.{Rewritten}
use Rattle.model.specs.Refusal.{refusal}
use Rattle.model.specs.logic.Formula.{encode}
use Rattle.model.specs.logic.Reading.{Parsed, formula, wrong, section}
use Rattle.model.specs.logic.Parts.{most_bytes}
use Rattle.model.specs.logic.NormalForm.{nnf}
use Rattle.model.specs.job.Decoding.{counts_in_range, formula_verdict}
use Rattle.model.specs.calls.Search.{written_over}

-- the result, and what the buffer holds afterwards
pub record WriteEnd : Type 0 where
  pub result : Rewritten
  pub buffer : List ℕ

-- an end, of its parts
abbrev pub write_end : Rewritten → List ℕ → WriteEnd
write_end r out = record { result = r; buffer = out }

-- "V and A outside their ranges give 1, length 0 or over 128 gives 2 (place 0), then 4 and 5 counted from the rule's start"
unfoldable pub rule_verdict : ℕ → ℕ → List ℕ → Verdict
unfolding or_else unless counts_in_range formula_verdict section
rule_verdict v a rule =
    or_else (unless (counts_in_range v a) 1 0)
    (or_else (unless (leb 1 (length rule) && leb (length rule) most_bytes) 2 0) (formula_verdict 0 (section v a rule)))

-- the bytes of the positive normal form of what a rule holds
unfoldable pub rewritten : Parsed → List ℕ
unfolding encode nnf
rewritten (formula φ n) = encode (nnf φ true)
rewritten (wrong p) = []

-- "then 13. Its buffer is untouched if refused; otherwise bytes behind the written rule keep their values."
unfoldable pub into : List ℕ → List ℕ → WriteEnd
unfolding written_over
into out buffer = elim (leb (length out) (length buffer)) [
  | true ↦ record { result = Ok (length out); buffer = written_over out buffer }
  | false ↦ record { result = Err (refusal 13 (length out)); buffer = buffer }
]

unfoldable pub written_back : ℕ → ℕ → List ℕ → List ℕ → WriteEnd
unfolding rule_verdict section rewritten into
written_back v a rule buffer = elim (rule_verdict v a rule) [
  | Err r ↦ record { result = Err r; buffer = buffer }
  | Ok _ ↦ into (rewritten (section v a rule)) buffer
]
