-- The system of a job meets the laws of exploration.
use Rattle.std.proofs.Common.{None, Some}
use mathlib.Core.Path.{◌≡◌, refl, sym, ◌∙◌}
use Prim.Native.Nat.{ℕ}
use native.Mathlib.Omega.{arith}
use mathlib.Core.Bool.{◌&&◌}
use mathlib.Core.List.{List}
use lib.ListN.{get_or}
use lib.Seq.{ext_get_or}
use Rattle.model.specs.logic.Truth.{World}
use Rattle.model.specs.job.Job.{Job}
use Rattle.model.specs.search.Node.{Node, meet_all}
use Rattle.model.specs.search.JobSystem.{start_hints, carry_hints, HintSetting, hint_true_at, Tables, plain_system}
use Rattle.model.proofs.bits.Bits.{bits_ext}
use Rattle.model.proofs.exploration.Laws.{Laws}
use Rattle.model.proofs.job.NodeLaws.{node_eq, node_same}
use Rattle.model.proofs.job.ResidualLists.{words_get_or, length-residuals, residuals_words, length-progressed_all, progressed_all_words, length-meet_all}
use Rattle.model.proofs.job.ResidualLists.{bit_meet_all, meet_all_lt}

meet_true : (g h : List ℕ) (s : HintSetting) → hint_true_at (meet_all g h) s ≡ (hint_true_at g s && hint_true_at h s)
unfolding hint_true_at
meet_true g h s = bit_meet_all g h s.hint s.parts

module _ (j : Job) where
  start_tables : Tables j (start_hints j)
  unfolding start_hints
  start_tables =
      let w : World = record { state = j.start; made = None } in
      (length-residuals j.hints w, words_get_or (start_hints j) (residuals_words j.hints w))

  carry_tables : (h : List ℕ) (n : Node) (i : ℕ) → Tables j h → Tables j (carry_hints j h n i)
  unfolding carry_hints
  carry_tables h n i t =
      let w : World = record { state = n.state; made = Some i } in
      (length-progressed_all j.hints h w t.0, words_get_or (carry_hints j h n i) (progressed_all_words j.hints h w))

  meet_tables : (g h : List ℕ) → Tables j g → Tables j h → Tables j (meet_all g h)
  meet_tables g h s t = (length-meet_all g h (s.0 ∙ sym t.0) ∙ s.0, meet_all_lt g h s.1)

  -- Tables that are true at the same settings are equal.
  tables_ext : (g h : List ℕ) → Tables j g → Tables j h → ((s : HintSetting) → hint_true_at g s ≡ hint_true_at h s) → g ≡ h
  unfolding hint_true_at
  tables_ext g h s t e =
      ext_get_or 0 g h (s.0 ∙ sym t.0) (λ i l. bits_ext 64 (get_or g i 0) (get_or h i 0) (s.1 i) (t.1 i) (λ k b. e (record { hint = i; parts = k })))

  pub plain_laws : Laws (plain_system j)
  plain_laws = record {
    same_eq = node_eq;
    same_refl = node_same;
    meet_true = meet_true;
    start_proper = start_tables;
    carry_proper = carry_tables;
    meet_proper = meet_tables;
    consistent = λ m n i b s. omega arith;
    at_goal = λ n g. refl;
    ext = tables_ext;
  }
