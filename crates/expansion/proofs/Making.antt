-- Laws of the slots that arrivals make: what they stand for, and that they fit.
use Rattle.std.proofs.Common.{◌≡◌, refl, ap, ◌∙◌, subst, sym, Bool, false, List, ℕ, suc, ◌+◌, ◌≤◌, ◌<◌, arith}
use Rattle.model.specs.exploration.Key.{Key, extend}
use Rattle.model.specs.job.Layout.{constraint_count, hint_count, job_of}
use Rattle.model.specs.search.Node.{Node, meet_all}
use Rattle.model.specs.search.JobSystem.{is_goal}
use Rattle.model.specs.search.Query.{Query}
use Rattle.task.specs.declared.Key as code
use Rattle.task.specs.Meaning.{key_is}
use Rattle.table.specs.declared.Slot.{Slot}
use Rattle.nodes.specs.Meaning.{Clean, hints_is, CleanHints, Costs, Carries}
use Rattle.nodes.proofs.Hints.{hints_met, clean_met}
use Rattle.astar.specs.Records.{HeldOf}
use Rattle.held.specs.Held.{node_for, held_is, FitsSlot, HasEstimate, Sound}
use Rattle.held.proofs.JobLaws.{few_actions, same_estimated}
use Rattle.expansion.specs.Arrivals.{key_by, Extends, Reaches, Makes}

-- The conjunction of a slot's hint residuals and an arrival's.
pub met_carries : (n : ℕ) (a b : List ℕ) {h r : List ℕ} → r ≡ meet_all a b → CleanHints n a → Carries n h b → n ≤ 8 → Carries n (meet_all (hints_is n a) h) r
met_carries n a b e p k l = record {
  carries = ap (hints_is n) e ∙ hints_met n a b ∙ ap (meet_all (hints_is n a)) k.carries;
  clean = rw e (clean_met n a b p k.clean l);
}

-- an open slot of its parts
abbrev pub open_slot : List ℕ → List ℕ → code.Key → ℕ → ℕ → ℕ → Bool → Slot
open_slot node hints key estimate parent action goal =
    record { node = node; hints = hints; key = key; estimate = estimate; parent = parent; action = action; taken = false; goal = goal }

module _ (job : List ℕ) where
  -- One action more makes a key that fits.
  pub key_reached : (from : Slot) (a c : ℕ) (r : code.Key) → key_is r ≡ extend (key_is from.key) c → Costs (job_of job) a c
      → Extends job from a → Reaches (key_by job from a) r
  unfolding extend
  key_reached from a c r e k x =
      let p : r.cost ≡ from.key.cost + c = ap (λ (z : Key). z.cost) e in
      let q : r.steps ≡ suc from.key.steps = ap (λ (z : Key). z.steps) e in
      record { is = e ∙ ap (extend (key_is from.key)) k.costs; summed = omega arith; short = omega arith }

  -- The number of an action fits a slot.
  pub action_fits : {from : Slot} {a : ℕ} → Extends job from a → a < 256
  action_fits x = omega (arith, x.known, few_actions job x.accepted)

  -- A slot of right parts.
  pub opened_makes : {node hints : List ℕ} {key : code.Key} {estimate parent action : ℕ} {goal : Bool} {k : Key} {h : List ℕ}
      → Reaches k key → Carries (hint_count job) h hints → Clean (constraint_count job) node → goal ≡ is_goal (job_of job) (node_for job node)
      → FitsSlot estimate → parent < 65536 → action < 256
      → Makes job (record { node = node_for job node; key = k; hints = h; parent = parent; action = action; taken = false }) estimate
      (open_slot node hints key estimate parent action goal)
  unfolding held_is
  opened_makes {node} {parent = parent} {action = action} r c n g left p a = record {
    stands = λ d. record { node = node_for job node; key = r.is d; hints = c.carries d; parent = parent; action = action; taken = false };
    formed = record { clean = n; clean_hints = c.clean; marked = g; summed = r.summed };
    estimated = refl;
    narrow = record { cost = omega (arith, r.summed, r.short); steps = r.short; estimate = left; parent = p; action = a };
  }

-- A slot that was made is sound if its estimate is its node's.
pub made_sound : (job : Query) {r : HeldOf Node (List ℕ)} {e : ℕ} {s : Slot} {a : List ℕ} → Makes job.bytes r e s → r.node ≡ node_for job.bytes a
    → HasEstimate job a e → Sound job s
unfolding held_is
made_sound job {s = s} m d x = record {
  formed = m.formed;
  estimated = subst (HasEstimate job s.node) (sym m.estimated)
      (same_estimated job (ap (λ (y : HeldOf Node (List ℕ)). y.node) m.stands ∙ d) x);
}
