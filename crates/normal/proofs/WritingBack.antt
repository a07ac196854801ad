-- Writing a rule back, once the verdict on it and the length of its normal form are known.
use Rattle.std.proofs.Common.{Ok, Err, ◌≡◌, sym, ap, ◌∙◌, true, List, ◌++◌, ℕ, ◌+◌, ◌≤◌, zero-add, arith, length, drop, leb, le-leb}
use Rattle.std.proofs.Common.{leb-true}
use Rattle.model.specs.Verdict.{no_refusal, unless}
use Rattle.std.proofs.Math.Path.{subst⁻¹}
use Rattle.std.proofs.lemmas.List.Edits.{sets}
use Rattle.std.proofs.Math.Seq.{sets-eq}
use Rattle.std.proofs.lemmas.Bool.Decides.{nat_tests}
use Rattle.model.specs.Refusal.{Refusal}
use Rattle.model.specs.logic.Formula.{Formula}
use Rattle.model.specs.logic.Parts.{size}
use Rattle.model.specs.logic.Reading.{Parsed, formula, parsed, section}
use Rattle.model.specs.calls.WriteBack.{write_end, rule_verdict, rewritten, into, written_back}
use Rattle.model.proofs.logic.ReadingLaws.{section_from, parsed_size, parsed_wider}
use Rattle.model.proofs.job.VerdictLaws.{unless_fine}
use Rattle.model.proofs.calls.RuleLaws.{rule_fine}
use Rattle.normal.specs.declared.Ends.{Ends}
use Rattle.normal.specs.Writing.{Whole, bytes_of, Room, ends_of}
use Rattle.normal.proofs.Texts.{text_bound}

-- ---- bytes into a buffer
module _ (bytes out : List ℕ) where
  -- 13: the buffer is too short
  into_short : {r : Refusal} → Err r ≡ unless (leb (length bytes) (length out)) 13 (length bytes) → write_end (Err r) out ≡ into bytes out
  unfolding into unless
  into_short e = grind (arith, nat_tests)

  -- the bytes at its start, and the rest as it was
  over : length bytes ≤ length out → sets out 0 bytes ≡ bytes ++ drop (length bytes) out
  over h = let g : 0 + length bytes ≤ length out = omega arith in sets-eq bytes out 0 g ∙ ap (λ (n : ℕ). bytes ++ drop n out) (zero-add (length bytes))

  into_done : length bytes ≤ length out → write_end (Ok (length bytes)) (sets out 0 bytes) ≡ into bytes out
  unfolding into
  into_done h = rw (over h, le-leb (length bytes) (length out) h, into)

-- the buffer is long enough
pub fits : {n m : ℕ} → no_refusal ≡ unless (leb n m) 13 n → n ≤ m
fits {n} {m} h = leb-true n m ((unless_fine (leb n m) 13 n).0 (sym h))

-- written from a buffer's start on, the normal form ends at its length
pub ends_at : (p : Parsed) {m : Ends} → m ≡ ends_of p true 0 → m.to ≡ length (bytes_of p true)
ends_at p e = ap (λ (x : Ends). x.to) e ∙ zero-add _

-- ---- the verdict, and then the bytes
module _ (v a : ℕ) (rule : List ℕ) where
  -- what `write` reads
  abbrev p : Parsed
  p = parsed 64 64 rule 0

  -- a rule that passes is read alike with 64 facts and 64 actions
  passes : no_refusal ≡ rule_verdict v a rule → (φ : Formula) × (n : ℕ) × (section v a rule ≡ formula φ n) × (p ≡ formula φ n) × (size φ ≤ 128)
  passes e =
      let x = rule_fine v a rule (sym e) in
      let y = section_from v a rule x.shape x.bytes x.reads in
      let z = parsed_wider v a 64 64 rule x.few_facts x.few_actions 0 x.shape x.bytes y.0 in
      (x.shape, x.bytes, x.reads, z, omega (arith, x.few_bytes, y.1, parsed_size v a rule 0 x.shape x.bytes y.0))

  -- its normal form has at most 384 bytes
  pub has_room : no_refusal ≡ rule_verdict v a rule → Room p true 0 384
  unfolding Whole bytes_of
  has_room e =
      let x = passes e in
      subst⁻¹ (λ (q : Parsed). Room q true 0 384) x.3 (tt, omega (arith, x.4, text_bound x.0 true))

  -- what is to be written are the bytes that `write` writes
  same_bytes : no_refusal ≡ rule_verdict v a rule → rewritten (section v a rule) ≡ bytes_of p true
  unfolding rewritten bytes_of
  same_bytes e = let x = passes e in ap rewritten x.2 ∙ sym (ap (λ (q : Parsed). bytes_of q true) x.3)

  module _ (out : List ℕ) where
    -- a rule that does not pass
    pub refused : (r : Refusal) → Err r ≡ rule_verdict v a rule → write_end (Err r) out ≡ written_back v a rule out
    unfolding written_back
    refused r e = rw (← e, written_back)

    module _ (e : no_refusal ≡ rule_verdict v a rule) {n : ℕ} (f : n ≡ length (bytes_of p true)) where
      goes_on : into (bytes_of p true) out ≡ written_back v a rule out
      unfolding written_back
      goes_on = rw (← e, written_back) (ap (λ (bytes : List ℕ). into bytes out) (sym (same_bytes e)))

      pub too_short : {r : Refusal} → Err r ≡ unless (leb n (length out)) 13 n → write_end (Err r) out ≡ written_back v a rule out
      too_short h = into_short (bytes_of p true) out (rw f at h) ∙ goes_on

      pub room : n ≤ length out → Room p true 0 (length out)
      room h = ((has_room e).0, omega (arith, f))

      pub done : n ≤ length out → {out' : List ℕ} → out' ≡ sets out 0 (bytes_of p true) → write_end (Ok n) out' ≡ written_back v a rule out
      done h w = rw (w, f) (into_done (bytes_of p true) out (omega (arith, f)) ∙ goes_on)
