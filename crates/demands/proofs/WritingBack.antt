-- Demand 2, writing back: what is written means what the rule means.
use Rattle.std.proofs.Common.{Ok, Err}
use mathlib.Core.Path.{◌≡◌, refl, sym, ap, ◌∙◌, subst}
use mathlib.Core.Bool.{Bool, true, false}
use mathlib.Core.Logic.{◌↔◌}
use mathlib.Core.List.{List, [], ◌∷◌, ◌++◌}
use Prim.Native.Nat.{ℕ, zero, suc, ◌≤◌, ◌<◌}
use native.Mathlib.Omega.{arith}
use lib.Dec.{leb}
use lib.ListN.{length, drop}
use lib.Seq.{take_at, drop_at}
use borrow.Author.Tests.{leb-false, le-leb}
use Rattle.model.specs.Refusal.{Refusal, refusal}
use Rattle.model.specs.Verdict.{no_refusal, Verdict}
use Rattle.model.specs.logic.Formula.{Formula, encode}
use Rattle.model.specs.logic.Reading.{formula}
use Rattle.model.specs.logic.Truth.{World, holds}
use Rattle.model.specs.logic.Sat.{Sat}
use Rattle.model.specs.logic.NormalForm.{nnf}
use Rattle.model.specs.calls.Search.{written_over}
use Rattle.model.specs.calls.WriteBack.{WriteEnd, write_end, rule_verdict, rewritten, into, written_back}
use Rattle.model.proofs.logic.SatLaws.{sat_holds}
use Rattle.model.proofs.logic.NnfLaws.{nnf_holds, nnf_positive, nnf_keeps}
use Rattle.model.proofs.logic.ReadingLaws.{section_from}
use Rattle.model.proofs.logic.EncodingLaws.{length-encode, parsed_fits, section_encode, read_back}
use Rattle.model.proofs.calls.RuleLaws.{FineRule, rule_fine}
use Rattle.demands.specs.Demand1.{Between}
use Rattle.demands.specs.Demand2.{Rewrites, WritesBack}
use Rattle.demands.proofs.Results.{ok_not_err, err_not_ok, same_ok, same_err}
use Rattle.demands.proofs.Numbered.{rule_numbered}

-- Wherever there is a world, the normal form holds exactly where the formula does.
nnf_same : (φ : Formula) (ws : List World) (i : ℕ) → i < length ws → holds (nnf φ true) (drop i ws) ≡ holds φ (drop i ws)
nnf_same φ [] i l = absurd (omega arith)
nnf_same φ (w ∷ ws) zero l = nnf_holds φ true w ws
nnf_same φ (w ∷ ws) (suc i) l = nnf_same φ ws i (omega arith)

nnf_satisfied : (φ : Formula) (ws : List World) (i : ℕ) → i < length ws → Sat ws i φ ↔ Sat ws i (nnf φ true)
nnf_satisfied φ ws i l =
    let e = nnf_same φ ws i l in
    let a = sat_holds ws φ i l in
    let b = sat_holds ws (nnf φ true) i l in
    (λ x. b.1 (e ∙ a.0 x), λ x. a.1 (sym e ∙ b.0 x))

module _ (v a : ℕ) (rule : List ℕ) (fine : FineRule v a rule) where
  abbrev shape : Formula
  shape = fine.shape

  -- the bytes of its normal form
  abbrev bytes : List ℕ
  bytes = encode (nnf shape true)

  rewrites : Rewrites v a rule bytes
  rewrites =
      let x = section_from v a rule shape fine.bytes fine.reads in
      let f = parsed_fits v a rule 0 shape fine.bytes x.0 in
      record {
        given = shape;
        new = nnf shape true;
        reads = fine.reads ∙ ap (formula shape) x.1;
        reads_back = read_back v a shape true f ∙ ap (formula (nnf shape true)) (sym (length-encode (nnf shape true)));
        is_positive = nnf_positive shape true;
        satisfied = nnf_satisfied shape;
        unchanged = λ p. ap encode (nnf_keeps shape p) ∙ sym (section_encode v a rule shape fine.bytes fine.reads);
      }

-- ---- bytes into a buffer

module _ (v a : ℕ) (rule out : List ℕ) (new : Rewrites v a rule out) (is : (long : List ℕ) → written_back v a rule long ≡ into out long) where
  -- A buffer that is long enough is written to.
  long_enough : (long : List ℕ) → length out ≤ length long → into out long ≡ write_end (Ok (length out)) (out ++ drop (length out) long)
  unfolding into written_over
  long_enough long l = rw (le-leb (length out) (length long) l, into)

  goes_in : (buffer : List ℕ) → WritesBack v a rule buffer (into out buffer)
  unfolding into written_over
  goes_in buffer = go (leb (length out) (length buffer)) refl
    where
      go : (b : Bool) → leb (length out) (length buffer) ≡ b → WritesBack v a rule buffer (into out buffer)
      go true e = rw (e, into) (record {
        written = λ {n} h. subst (Rewrites v a rule) (sym (take_at out (drop (length out) buffer) n (same_ok h))) new;
        size = λ {n} h. ap length (take_at out (drop (length out) buffer) n (same_ok h)) ∙ same_ok h;
        rest = λ {n} h. drop_at out (drop (length out) buffer) n (same_ok h) ∙ ap (λ (k : ℕ). drop k buffer) (same_ok h);
        needed = λ h. ok_not_err h;
      })
      go false e = rw (e, into) (record {
        written = λ h. err_not_ok h;
        size = λ h. err_not_ok h;
        rest = λ h. err_not_ok h;
        needed = λ {n} h.
            let d : length out ≡ n = ap (λ (x : Refusal). x.place) (same_err {r = refusal 13 (length out)} {q = refusal 13 n} h) in (
              omega (arith, leb-false (length out) (length buffer) e),
              λ long l. ap (λ (x : WriteEnd). x.result) (is long ∙ long_enough long (omega arith)) ∙ ap Ok d,
            );
      })

module _ (v a : ℕ) (rule : List ℕ) where
  -- A rule that passes is written as the bytes of its normal form, or refused with 13.
  fine_is : (fine : FineRule v a rule) → rule_verdict v a rule ≡ no_refusal → (long : List ℕ) → written_back v a rule long ≡ into (bytes v a rule fine) long
  unfolding written_back rewritten
  fine_is fine e long = rw (e, written_back, fine.reads)

  not_thirteen : (q : Refusal) → rule_verdict v a rule ≡ Err q → {n : ℕ} → q ≡ refusal 13 n → ⊥
  not_thirteen q e d =
      let n =
      rule_numbered (Between 1 5) (omega arith, omega arith) (omega arith, omega arith) (omega arith, omega arith) (omega arith, omega arith) v a rule q e in
      omega (arith, n.1, ap (λ (x : Refusal). x.number) d)

  pub writes_back : (buffer : List ℕ) → WritesBack v a rule buffer (written_back v a rule buffer)
  unfolding written_back
  writes_back buffer = go (rule_verdict v a rule) refl
    where
      go : (x : Verdict) → rule_verdict v a rule ≡ x → WritesBack v a rule buffer (written_back v a rule buffer)
      go (Ok _) e =
          let f = rule_fine v a rule e in
          subst (WritesBack v a rule buffer) (sym (fine_is f e buffer)) (goes_in v a rule (bytes v a rule f) (rewrites v a rule f) (fine_is f e) buffer)
      go (Err q) e = rw (e, written_back) (record {
        written = λ h. err_not_ok h;
        size = λ h. err_not_ok h;
        rest = λ h. err_not_ok h;
        needed = λ h. absurd (not_thirteen q e (same_err h));
      })
