-- The slot that an arrival with an equal key makes: both ways' hint residuals are conjoined, and the way whose path comes first is kept.
use Rattle.std.proofs.Common.{◌≡◌, refl, sym, ◌∙◌, subst, Bool, true, false, List, ℕ, ◌<◌}
use Rattle.model.specs.job.Layout.{hint_count}
use Rattle.model.specs.logic.Formula.{choose}
use Rattle.model.specs.search.Node.{meet_all}
use Rattle.task.specs.Meaning.{key_is}
use Rattle.table.specs.declared.Slot.{Slot}
use Rattle.nodes.specs.Meaning.{Carries}
use Rattle.paths.specs.Chain.{order_by}
use Rattle.held.proofs.JobLaws.{few_hints}
use Rattle.expansion.specs.Arrivals.{hints_by, both, joined, Extends, Joins, Reaches, Makes}
use Rattle.expansion.proofs.Making.{action_fits, open_slot, met_carries, opened_makes}

module _ (job : List ℕ) {ss : List Slot} {i : ℕ} {from : Slot} {a : ℕ} (x : Extends job from a) {old : Slot} (joins : Joins job ss i old) where
  -- The old slot's key is kept.
  key_kept : Reaches (key_is old.key) old.key
  key_kept = record { is = refl; summed = joins.formed.summed; short = joins.narrow.steps }

  -- the slot, by a parent and an action
  abbrev stored : List ℕ → ℕ → ℕ → Slot
  stored hints p b = open_slot old.node hints old.key old.estimate p b old.goal

  module _ (node : List ℕ) {g hints : List ℕ} (carried : Carries (hint_count job) (hints_by job from a node) g) (met : hints ≡ meet_all old.hints g) where
    makes_both : (first : Bool) → choose first i old.parent < 65536 → choose first a old.action < 256
        → Makes job (both job i from a node old first) old.estimate (stored hints (choose first i old.parent) (choose first a old.action))
    makes_both first l m =
        opened_makes job key_kept
        (met_carries (hint_count job) old.hints g met joins.formed.clean_hints carried (few_hints job x.accepted))
        joins.formed.clean joins.formed.marked joins.narrow.estimate l m

    -- What is made by the order of the paths.
    by_order : {s : Slot} {b c : Bool} → b ≡ order_by ss i a old.parent old.action → b ≡ c
        → Makes job (both job i from a node old c) old.estimate s → Makes job (joined job ss i from a node old) old.estimate s
    by_order {s} q o m = subst (λ (c : Bool). Makes job (both job i from a node old c) old.estimate s) (sym o ∙ q) m

    -- Where the new path comes first, the merged record has its parent and action.
    pub merged_new : {b : Bool} → b ≡ order_by ss i a old.parent old.action → b ≡ true
        → Makes job (joined job ss i from a node old) old.estimate (stored hints i a)
    merged_new q o = by_order q o (makes_both true joins.small (action_fits job x))

    -- Where the old path comes first, the merged record keeps its parent and action.
    pub merged_old : {b : Bool} → b ≡ order_by ss i a old.parent old.action → b ≡ false
        → Makes job (joined job ss i from a node old) old.estimate (stored hints old.parent old.action)
    merged_old q o = by_order q o (makes_both false joins.narrow.parent joins.narrow.action)
