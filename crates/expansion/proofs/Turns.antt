-- All actions in order: what holds when those below a were followed, and how it comes out.
use Rattle.std.proofs.Common.{◌≡◌, refl, sym, ap, ◌∙◌, subst, true, false, Ok, Err, IsErr, ℕ, suc, ◌+◌, ◌≤◌, ◌<◌, add-one, arith, length}
use Rattle.model.specs.exploration.System.{System}
use Rattle.model.specs.job.Job.{action_of}
use Rattle.model.specs.job.Layout.{action_count}
use Rattle.model.specs.search.Node.{Node}
use Rattle.model.specs.task.State.{applicable}
use Rattle.model.specs.search.Query.{Query, job_for}
use Rattle.table.specs.declared.Slot.{Slot}
use Rattle.table.specs.Slots.{slot_in}
use Rattle.table.specs.Tables.{Table}
use Rattle.astar.specs.Records as search
use Rattle.astar.specs.Records.{take-it}
use Rattle.astar.specs.Search.{Filled, goes_on, follow, expand}
use Rattle.astar.proofs.Sending.{Expanding}
use Rattle.astar.proofs.Following.{Went}
use Rattle.astar.proofs.Expansion.{follow_taken}
use Rattle.held.specs.Held.{sys, node_for, held_is, held_in}
use Rattle.held.specs.Running.{Running, Busy}
use Rattle.held.proofs.JobLaws.{sys_laws, sys_actions}
use Rattle.held.proofs.HeldLaws.{held_one}
use Rattle.expansion.specs.declared.Full.{Full}
use Rattle.expansion.specs.Arrivals.{Arriving}
use Rattle.expansion.specs.Growth.{Grown, grown_is, Grew}
use Rattle.expansion.proofs.Cases as cases
use Rattle.expansion.proofs.Growing.{grew_past}
use Rattle.expansion.proofs.GrowthLaws.{grew_none, grew_held, grew_running}

-- To take what is taken changes nothing.
take_again : (S : System) (r : search.Held S) → r.taken ≡ true → take-it S r ≡ r
unfolding take-it
take_again S r e = λ d. record { node = r.node; key = r.key; hints = r.hints; parent = r.parent; action = r.action; taken = sym e d }

-- The actions below a were followed: the table was t0 at first, and is t now.
pub record Going (job : Query) (t0 : Table) (i : ℕ) (from : Slot) (t : Table) (a : ℕ) : Type 0 where
  pub m0 : Node
  pub running : Running job m0 t
  pub expanding : Expanding (sys job) m0 (held_in job.bytes t.slots) i (held_is job.bytes from) a
  pub inside : i < length t.slots
  pub up_to : a ≤ action_count job.bytes
  pub followed : expand (sys job) t0.room (held_in job.bytes t0.slots) (held_is job.bytes from) i a ≡ goes_on (held_in job.bytes t.slots)
  pub same_room : t.room ≡ t0.room

-- At first, none was.
pub going_start : {job : Query} {t : Table} {i : ℕ} {from : Slot} → Busy job t i 0 → from ≡ slot_in t.slots i → Going job t i from t 0
unfolding expand
going_start {job} {t} {i} b e =
    subst (λ (s : Slot). Going job t i s t 0) (sym e)
    (record { m0 = b.0; running = b.1; expanding = b.3; inside = b.2; up_to = omega arith; followed = refl; same_room = refl })

module _ {job : Query} {t0 : Table} {i : ℕ} {from : Slot} {t : Table} {a : ℕ} (g : Going job t0 i from t a) where
  -- what all actions come to
  abbrev all : Filled (sys job)
  all = expand (sys job) t0.room (held_in job.bytes t0.slots) (held_is job.bytes (slot_in t0.slots i)) i (sys job).actions

  all_from : from ≡ slot_in t0.slots i → expand (sys job) t0.room (held_in job.bytes t0.slots) (held_is job.bytes from) i (sys job).actions ≡ all
  all_from e = ap (λ (s : Slot). expand (sys job) t0.room (held_in job.bytes t0.slots) (held_is job.bytes s) i (sys job).actions) e

  -- After the last action, the table goes on.
  pub going_end : {v : Unit {0}} → from ≡ slot_in t0.slots i → action_count job.bytes ≤ a → Grew job t0.room all (Ok v) t
  unfolding grown_is
  going_end e l =
      let z : (sys job).actions ≡ a = omega (arith, sys_actions job, g.up_to) in
      record {
        grows = sym (all_from e) ∙ ap (expand (sys job) t0.room (held_in job.bytes t0.slots) (held_is job.bytes from) i) z ∙ g.followed;
        fits = (g.running.used, g.running.sound);
        same_room = g.same_room;
      }

  -- ---- the next action

  module _ (l : a < action_count job.bytes) where
    pub going_next : Arriving job t i from a
    going_next = record { m0 = g.m0; running = g.running; expanding = g.expanding; inside = g.inside; known = l }

    abbrev next : Filled (sys job)
    next = follow (sys job) t.room (held_in job.bytes t.slots) (held_is job.bytes from) i a

    more : expand (sys job) t0.room (held_in job.bytes t0.slots) (held_is job.bytes from) i (suc a) ≡ next
    more =
        cases.expand_on (sys job) t0.room (held_is job.bytes from) i (held_in job.bytes t0.slots) (held_in job.bytes t.slots) a g.followed
        ∙ ap (λ (m : ℕ). follow (sys job) m (held_in job.bytes t.slots) (held_is job.bytes from) i a) (sym g.same_room)

    -- A full table stays full.
    pub going_full : {r r' : Grown} {u : Table} {w : Full} → from ≡ slot_in t0.slots i → r ≡ Err w → IsErr r' → Grew job t.room next r u
        → Grew job t0.room all r' u
    unfolding grown_is
    going_full {r' = Err w} e d h k = record {
      grows = sym (all_from e)
          ∙ cases.expand_full (sys job) t0.room (held_is job.bytes from) i (held_in job.bytes t0.slots) (suc a) (sys job).actions
          (more ∙ grew_none k d) (omega (arith, sys_actions job));
      fits = tt;
      same_room = k.same_room ∙ g.same_room;
    }
    going_full {r' = Ok v} e d h k = absurd (cc)

    went : Went (sys job) (sys_laws job) t.room g.m0 (held_in job.bytes t.slots) i (held_is job.bytes from) (suc a) next
    went =
        let e = take_again (sys job) (held_is job.bytes from) g.expanding.taken in
        subst (λ (r : search.Held (sys job)). Went (sys job) (sys_laws job) t.room g.m0 (held_in job.bytes t.slots) i r (suc a) next) e
        (follow_taken (sys job) (sys_laws job) t.room (held_is job.bytes from)
        (subst (λ (r : search.Held (sys job)). Expanding (sys job) g.m0 (held_in job.bytes t.slots) i r a) (sym e) g.expanding)
        (omega (arith, sys_actions job)))

    -- A table that is not full goes on to the next action.
    pub going_on : {r : Grown} {u : Table} {v : Unit {0}} → r ≡ Ok v → Grew job t.room next r u → Going job t0 i from u (a + 1)
    going_on {r} {u} d k =
        let e : next ≡ goes_on (held_in job.bytes u.slots) = grew_held k d in
        let x : Went (sys job) (sys_laws job) t.room g.m0 (held_in job.bytes t.slots) i (held_is job.bytes from) (suc a)
        (goes_on (held_in job.bytes u.slots)) =
        subst (Went (sys job) (sys_laws job) t.room g.m0 (held_in job.bytes t.slots) i (held_is job.bytes from) (suc a)) e went in
        rw (add-one a)
        (record {
          m0 = g.m0;
          running = grew_running k g.running refl d;
          expanding = x.expanding;
          inside = (held_one job.bytes u.slots i x.expanding.held).0;
          up_to = l;
          followed = more ∙ e;
          same_room = k.same_room ∙ g.same_room;
        })

    -- It goes on, too, where the action is not applicable.
    pub going_past : applicable (action_of (job_for job) a) (node_for job.bytes from.node).state ≡ false → Going job t0 i from t (a + 1)
    going_past e = going_on {v = tt} refl (grew_past going_next e)
