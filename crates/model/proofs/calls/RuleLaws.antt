-- What passes the checks of a rule to write back.
use Rattle.model.specs.Verdict.{no_refusal}
use mathlib.Core.Path.{◌≡◌}
use mathlib.Core.List.{List}
use Prim.Native.Nat.{ℕ, ◌≤◌}
use lib.ListN.{length}
use lib.Dec.{leb}
use borrow.Author.Tests.{leb-true}
use Rattle.model.specs.logic.Formula.{Formula}
use Rattle.model.specs.logic.Reading.{formula, section}
use Rattle.model.specs.calls.WriteBack.{rule_verdict}
use Rattle.model.proofs.Tests.{and_both}
use Rattle.model.proofs.job.VerdictLaws.{or_else_fine, unless_fine}
use Rattle.model.proofs.job.Accepted.{counts_fine, formula_fine}

-- A rule that passes is a formula, and its counts and its length are in range.
pub record FineRule (v a : ℕ) (rule : List ℕ) : Type 0 where
  pub few_facts : v ≤ 64
  pub few_actions : a ≤ 64
  pub few_bytes : length rule ≤ 128
  pub shape : Formula
  pub bytes : ℕ
  pub reads : section v a rule ≡ formula shape bytes

pub rule_fine : (v a : ℕ) (rule : List ℕ) → rule_verdict v a rule ≡ no_refusal → FineRule v a rule
unfolding rule_verdict
rule_fine v a rule e =
    let x = (or_else_fine _ _).0 e in
    let y = (or_else_fine _ _).0 x.1 in
    let c = counts_fine v a ((unless_fine _ 1 0).0 x.0) in
    let l = (and_both (leb 1 (length rule)) (leb (length rule) 128)).0 ((unless_fine _ 2 0).0 y.0) in
    let f = formula_fine 0 (section v a rule) y.1 in
    record { few_facts = c.1; few_actions = c.2; few_bytes = leb-true (length rule) 128 l.1; shape = f.0; bytes = f.1; reads = f.2 }
