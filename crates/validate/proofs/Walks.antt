-- Laws of the walk: one step more, and the facts, cost and residuals that it comes to.
use Rattle.std.proofs.Common.{◌≡◌, refl, sym, ◌∙◌, ℕ, ◌+◌, ◌<◌, add_assoc, add-zero, zero-add, add-one, Some, List, [], ◌∷◌, ◌++◌, length, take, get_or}
use Rattle.std.proofs.Math.Seq.{take-suc}
use Rattle.model.specs.logic.Formula.{Formula}
use Rattle.model.specs.job.Job.{Action, Job, action_of}
use Rattle.model.specs.task.State.{after}
use Rattle.model.specs.task.Plan.{state_after, cost_of}
use Rattle.model.specs.search.Node.{residuals, progressed_all}
use Rattle.progression.specs.Padded.{padded}
use Rattle.validate.specs.declared.walk.Walk.{Walk}
use Rattle.validate.specs.Walk.{still, carried, started, reached, stepped, walk_from, walk_of}

module _ (j : Job) where
  walk_from_snoc : (w : Walk) (p : List ℕ) (a : ℕ) → walk_from j w (p ++ (a ∷ [])) ≡ stepped j (walk_from j w p) a
  unfolding walk_from
  walk_from_snoc w [] a = refl
  walk_from_snoc w (b ∷ p) a = walk_from_snoc (stepped j w b) p a

  pub walk_none : started j ≡ walk_of j []
  unfolding walk_of
  walk_none = refl

  -- One step of a list more.
  pub walk_more : (p : List ℕ) (i : ℕ) (w : Walk) → w ≡ walk_of j (take i p) → i < length p → stepped j w (get_or p i 0) ≡ walk_of j (take (i + 1) p)
  unfolding walk_of
  walk_more p i w e l = rw (add-one i, take-suc p i 0 l, e) (sym (walk_from_snoc (started j) (take i p) (get_or p i 0)))

  -- ---- its parts
  walk_from_facts : (w : Walk) (p : List ℕ) → (walk_from j w p).facts ≡ state_after j w.facts p
  unfolding walk_from state_after stepped reached
  walk_from_facts w [] = refl
  walk_from_facts w (a ∷ p) = walk_from_facts (stepped j w a) p

  walk_from_cost : (w : Walk) (p : List ℕ) → (walk_from j w p).cost ≡ w.cost + cost_of j p
  unfolding walk_from cost_of stepped
  walk_from_cost w [] = sym (add-zero w.cost)
  walk_from_cost w (a ∷ p) = walk_from_cost (stepped j w a) p ∙ add_assoc w.cost (action_of j a).cost (cost_of j p)

  -- what formulas have left along steps, from facts s and residuals rs on
  unfoldable pub tracked : List Formula → ℕ → List ℕ → List ℕ → List ℕ
  unfolding carried reached
  tracked φs s rs [] = rs
  tracked φs s rs (a ∷ p) = tracked φs (after (action_of j a) s) (carried φs rs (reached j s a)) p

  walk_from_constraints : (w : Walk) (p : List ℕ) → (walk_from j w p).constraints ≡ tracked j.constraints w.facts w.constraints p
  unfolding walk_from tracked stepped reached
  walk_from_constraints w [] = refl
  walk_from_constraints w (a ∷ p) = walk_from_constraints (stepped j w a) p

  walk_from_hints : (w : Walk) (p : List ℕ) → (walk_from j w p).hints ≡ tracked j.hints w.facts w.hints p
  unfolding walk_from tracked stepped reached
  walk_from_hints w [] = refl
  walk_from_hints w (a ∷ p) = walk_from_hints (stepped j w a) p

  -- what formulas have left of a whole step list
  abbrev pub left_by : List Formula → List ℕ → List ℕ
  left_by φs p = tracked φs j.start (padded (residuals φs (still j.start))) p

  module _ (p : List ℕ) where
    pub walk_facts : (walk_of j p).facts ≡ state_after j j.start p
    unfolding walk_of started
    walk_facts = walk_from_facts (started j) p

    pub walk_cost : (walk_of j p).cost ≡ cost_of j p
    unfolding walk_of started
    walk_cost = walk_from_cost (started j) p ∙ zero-add (cost_of j p)

    pub walk_constraints : (walk_of j p).constraints ≡ left_by j.constraints p
    unfolding walk_of started
    walk_constraints = walk_from_constraints (started j) p

    pub walk_hints : (walk_of j p).hints ≡ left_by j.hints p
    unfolding walk_of started
    walk_hints = walk_from_hints (started j) p

-- ---- what the code makes

module _ (j : Job) where
  pub start_made : (s : ℕ) (cs hs : List ℕ) → s ≡ j.start → cs ≡ padded (residuals j.constraints (still s))
      → hs ≡ padded (residuals j.hints (still s)) → record { facts = s; cost = 0; constraints = cs; hints = hs } ≡ started j
  unfolding started
  start_made s cs hs e p q = rw (p, q, e)

  -- x is the action that was read, n and m are the numbers of constraints and hints.
  pub step_made : (w : Walk) (a s n m : ℕ) (x : Action) (cs hs : List ℕ) → x ≡ action_of j a → s ≡ after x w.facts
      → cs ≡ padded (progressed_all j.constraints (take n w.constraints) (record { state = s; made = Some a }))
      → hs ≡ padded (progressed_all j.hints (take m w.hints) (record { state = s; made = Some a }))
      → n ≡ length j.constraints → m ≡ length j.hints
      → record { facts = s; cost = w.cost + x.cost; constraints = cs; hints = hs } ≡ stepped j w a
  unfolding stepped carried reached
  step_made w a s n m x cs hs ex es p q en em = rw (p, q, es, ex, en, em)
