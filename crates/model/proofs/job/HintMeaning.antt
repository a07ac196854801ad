-- The hint residuals of a job say which continuations meet its hints.
use Rattle.std.proofs.Common.{None, Some}
use mathlib.Core.Path.{◌≡◌, refl, ap, ◌∙◌, subst}
use mathlib.Core.Logic.{◌↔◌}
use Prim.Native.Nat.{ℕ, ◌<◌}
use mathlib.Core.Bool.{Bool, true, false}
use mathlib.Core.List.{List, ◌∷◌}
use lib.ListN.{length, get_or}
use Rattle.model.specs.Bits.{bit}
use Rattle.model.specs.declared.Constant.TheVariants.{True}
use Rattle.model.specs.logic.Formula.{constant}
use Rattle.model.specs.job.Job.{Job, action_of}
use Rattle.model.specs.task.State.{after}
use Rattle.model.specs.task.Plan.{worlds_after, worlds, meets_hints}
use Rattle.model.specs.search.Node.{Node, some_dead}
use Rattle.model.specs.search.JobSystem.{start_node, next_node, start_hints, carry_hints, HintSetting, hint_true_at, Tables, plain_system}
use Rattle.model.proofs.exploration.Laws.{HintLaws}
use Rattle.model.proofs.job.Accepted.{ProperJob}
use Rattle.model.proofs.job.NodeLaws.{world_after, start_some, next_some}
use Rattle.model.proofs.job.ResidualsHold.{residuals_hold, dead_right, right_first, right_next, setting_of, TrueThere, hold_there}

module _ (j : Job) where
  -- the hint residuals are true of the worlds that the actions lead through from a node
  unfoldable pub meets : Node → List ℕ → List ℕ → Bool
  meets n h p = residuals_hold j.hints h (worlds_after j n.state p)

  -- a hint's number, and the setting of its parts that is their truth on those worlds
  abbrev pub Made : Node → List ℕ → HintSetting → Type 0
  Made n p s = (s.hint < length j.hints) × (s.parts ≡ setting_of (get_or j.hints s.hint (constant True)) (worlds_after j n.state p))

  meets_made : (n : Node) (h p : List ℕ) → Tables j h → (meets n h p ≡ true) ↔ ((s : HintSetting) → Made n p s → hint_true_at h s ≡ true)
  unfolding meets hint_true_at
  meets_made n h p t = (
    λ e s m. ap (bit (get_or h s.hint 0)) m.1 ∙ there.0 e s.hint m.0,
    λ f. there.1 (λ i l. f (record { hint = i; parts = setting_of (get_or j.hints i (constant True)) (worlds_after j n.state p) }) (l, refl)),
  )
    where
      there : (residuals_hold j.hints h (worlds_after j n.state p) ≡ true) ↔ TrueThere j.hints h (worlds_after j n.state p)
      there = hold_there j.hints h (worlds_after j n.state p) t.0

  -- A cut node's hint residuals are met by no continuation.
  meets_dead : (n : Node) (h p : List ℕ) → Tables j h → some_dead h ≡ true → meets n h p ≡ false
  unfolding meets
  meets_dead n h p t d = dead_right j.hints h (worlds_after j n.state p) t.0 d

  module _ (proper : ProperJob j) where
    -- What is carried to the next node is met by the rest of what meets the residuals before.
    meets_carried : (m : Node) {n : Node} (h : List ℕ) (i : ℕ) (p : List ℕ) → Tables j h → next_node j m i ≡ Some n
        → meets n (carry_hints j h n i) p ≡ meets m h (i ∷ p)
    unfolding meets carry_hints worlds_after
    meets_carried m {n} h i p t e =
        subst (λ (k : Node). meets k (carry_hints j h k i) p ≡ meets m h (i ∷ p)) ((next_some j m i n).0 e).2
        (right_next j j.hints proper.hint_parts h (world_after j m.state i) (after (action_of j i) m.state) p)

    pub plain_hints : HintLaws (plain_system j)
    plain_hints = record { meets = meets; made = Made; meets_made = meets_made; carried = meets_carried; dead = meets_dead }

    -- A plan meets what the start leaves of the hints exactly if it meets the hints.
    pub meets_start : (m : Node) (p : List ℕ) → start_node j ≡ Some m → plain_hints.meets m (start_hints j) p ≡ meets_hints j p
    unfolding plain_hints meets start_hints meets_hints worlds
    meets_start m p e =
        subst (λ (k : Node). meets k (start_hints j) p ≡ meets_hints j p) ((start_some j m).0 e).1
        (right_first j j.hints proper.hint_parts (record { state = j.start; made = None }) j.start p)
