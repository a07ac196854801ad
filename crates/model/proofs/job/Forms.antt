-- The two forms of a task: its length tells how many sets each action has, and a task of the old length means what it meant before.
use mathlib.Core.Path.{◌≡◌, refl, ap}
use Prim.Native.Nat.{ℕ, ◌+◌, ◌*◌, ◌≤◌, ◌<◌}
use native.Mathlib.Omega.{arith}
use native.Mathlib.Nat.{add-zero}
use mathlib.Core.Bool.{Bool, true, false, ◌||◌}
use mathlib.Core.List.{List}
use borrow.Author.Tests.{eqb-true, eq-eqb, ne_eqb}
use Rattle.model.specs.logic.Formula.{choose}
use Rattle.model.specs.Verdict.{Verdict, or_else}
use Rattle.model.specs.Bits.{number_at}
use Rattle.model.specs.job.Layout.{set_bytes, plain_sets, all_sets, action_count, pair_offset, pair_length, task_bytes, forbids, set_count, set_offset}
use Rattle.model.specs.job.Layout.{action_at, job_of}
use Rattle.model.specs.job.Decoding.{right_length, set_verdict, action_verdict, task_verdict}
use Rattle.model.specs.job.OldForm.{old_action, old_verdict, OldLength, OldForm}
use Rattle.model.proofs.task.StateLaws.{nothing_forbidden}
use Rattle.model.proofs.job.VerdictLaws.{in_turn_cong, list_of_cong}

module _ (bytes : List ℕ) where
  -- In both forms an action has the needed, the added and the deleted facts.
  pub plain_there : plain_sets ≤ set_count bytes
  unfolding set_count
  plain_there = go (forbids bytes)
    where
      go : (b : Bool) → plain_sets ≤ choose b all_sets plain_sets
      go true = omega arith
      go false = omega arith

  pub sets-forbidding : forbids bytes ≡ true → set_count bytes ≡ all_sets
  unfolding set_count
  sets-forbidding e = rw e

  pub sets-plain : forbids bytes ≡ false → set_count bytes ≡ plain_sets
  unfolding set_count
  sets-plain e = rw e

  -- An action's forbidden facts are its fourth set, if there is one.
  pub forbidden_some : (i : ℕ) → forbids bytes ≡ true → (action_at bytes i).forbidden ≡ number_at set_bytes bytes (set_offset bytes i 3)
  unfolding action_at
  forbidden_some i e = ap (λ (b : Bool). choose b (number_at set_bytes bytes (set_offset bytes i 3)) 0) e

  pub forbidden_none : (i : ℕ) → forbids bytes ≡ false → (action_at bytes i).forbidden ≡ 0
  unfolding action_at
  forbidden_none i e = ap (λ (b : Bool). choose b (number_at set_bytes bytes (set_offset bytes i 3)) 0) e

  -- A task of a right length has as many bytes as its actions fill.
  pub task_length : right_length bytes 0 (pair_length bytes 0) ≡ true → pair_length bytes 0 ≡ task_bytes bytes (set_count bytes)
  unfolding right_length forbids
  task_length h = go (forbids bytes) refl
    where
      or_first : (a b : Bool) → b ≡ false → a || b ≡ true → a ≡ true
      or_first true b e h = refl
      or_first false b e h = rw e at h

      go : (b : Bool) → forbids bytes ≡ b → pair_length bytes 0 ≡ task_bytes bytes (set_count bytes)
      go true e = rw (sets-forbidding e) (eqb-true _ _ e)
      go false e = rw (sets-plain e) (eqb-true _ _ (or_first _ _ e h))

-- ---- the old length
module _ (bytes : List ℕ) (old : OldLength bytes) where
  -- The two lengths differ where there is an action.
  old_plain : 0 < action_count bytes → forbids bytes ≡ false
  unfolding forbids task_bytes
  old_plain l = ne_eqb (pair_length bytes 0) (16 + 34 * action_count bytes) (λ e. omega (arith, old))

  same_action : (i : ℕ) → i < action_count bytes → action_at bytes i ≡ old_action bytes i
  unfolding action_at old_action
  same_action i l = rw (old_plain (omega arith), add-zero)

  same_verdict : (i : ℕ) → i < action_count bytes → action_verdict bytes i ≡ old_verdict bytes i
  unfolding action_verdict old_verdict
  same_verdict i l = rw (old_plain (omega arith))

  pub old_form : OldForm bytes
  unfolding right_length task_bytes task_verdict job_of old_action
  old_form = record {
    right = rw (eq-eqb (pair_length bytes 0) (16 + 26 * action_count bytes) old);
    checked = ap (λ (v : Verdict). or_else (set_verdict bytes (pair_offset bytes 0)) (or_else (set_verdict bytes (pair_offset bytes 0 + 8)) v))
        (in_turn_cong (action_count bytes) _ _ same_verdict);
    actions = list_of_cong _ _ (action_count bytes) same_action;
    applies = λ i s. nothing_forbidden (old_action bytes i) refl s;
  }
