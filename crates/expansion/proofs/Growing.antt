-- How the table grows by one arrival, and by one action.
use Rattle.std.proofs.Common.{◌≡◌, refl, sym, ap, ◌∙◌, subst, Bool, false, not, bytes_eq, Option, None, Some, Ok, Err, List, [], ◌∷◌, ◌++◌, ℕ, ◌≤◌, ◌<◌, arith}
use Rattle.std.proofs.Common.{length, length-append, length-set}
use Rattle.std.proofs.lemmas.Bool.{not-false}
use Rattle.std.proofs.lemmas.Slice.Eq.{bytes_eq-Decides}
use Rattle.model.specs.exploration.Key.{extend}
use Rattle.model.specs.job.Job.{Action, action_of}
use Rattle.model.specs.job.Layout.{constraint_count, job_of}
use Rattle.model.specs.task.State.{applicable}
use Rattle.model.specs.search.JobSystem.{next_node, node_estimate}
use Rattle.model.specs.search.Query.{Query, job_for}
use Rattle.model.proofs.job.NodeLaws.{next_some}
use Rattle.model.proofs.rights.Steps.{carry_same}
use Rattle.table.specs.declared.Slot.{Slot}
use Rattle.table.specs.Slots.{slot_in}
use Rattle.table.specs.Lookup.{find_in}
use Rattle.table.specs.Tables.{Table, pushed}
use Rattle.nodes.specs.Meaning.{Leads}
use Rattle.nodes.proofs.Arrivals.{leads_some, next_none}
use Rattle.astar.specs.Records as search
use Rattle.astar.specs.Search.{Filled, goes_on, arrive, follow}
use Rattle.astar.proofs.Finding.{find_some, find_own}
use Rattle.held.specs.Held.{sys, node_for, held_is, held_in, HasEstimate}
use Rattle.held.proofs.JobLaws.{few_constraints, sys_laws, own_action, same_estimated, reached_some, reached_hopeless, reached_none}
use Rattle.held.proofs.HeldLaws.{length-held, held_one}
use Rattle.held.proofs.Storing.{append-held, append-sound}
use Rattle.held.proofs.Lookup.{find_held}
use Rattle.expansion.specs.declared.Full.{Full}
use Rattle.expansion.specs.Arrivals.{key_by, hints_by, newcomer, LeadsTo, Arriving, Makes, Relaxes}
use Rattle.expansion.specs.Growth.{grown_is, Grew}
use Rattle.expansion.proofs.Cases as cases
use Rattle.expansion.proofs.Arrival.{held_slot, sound_slot, source}
use Rattle.expansion.proofs.Making.{made_sound}

module _ {job : Query} {t : Table} {i : ℕ} {from : Slot} {a : ℕ} (x : Arriving job t i from a) where
  -- the records of the table, and what following the action makes of them
  abbrev T : search.Table (sys job)
  T = held_in job.bytes t.slots

  abbrev followed : Filled (sys job)
  followed = follow (sys job) t.room T (held_is job.bytes from) i a

  -- The table stays as it is.
  stays : {v : Unit {0}} → followed ≡ goes_on T → Grew job t.room followed (Ok v) t
  unfolding grown_is
  stays e = record { grows = e; fits = (x.running.used, x.running.sound); same_room = refl }

  -- ---- one action

  -- It is not applicable: the table stays as it is.
  pub grew_past : {v : Unit {0}} → applicable (action_of (job_for job) a) (node_for job.bytes from.node).state ≡ false → Grew job t.room followed (Ok v) t
  unfolding held_is
  grew_past e =
      stays (cases.follow_none (sys job) t.room (held_is job.bytes from) i T a
      (reached_none job (next_none (job_for job) (node_for job.bytes from.node) a e)))

  -- It leads nowhere: the table stays as it is.
  pub grew_nowhere : {v : Unit {0}} → next_node (job_for job) (node_for job.bytes from.node) a ≡ None → Grew job t.room followed (Ok v) t
  unfolding held_is
  grew_nowhere e = stays (cases.follow_none (sys job) t.room (held_is job.bytes from) i T a (reached_none job e))

  -- It leads to a node.
  pub leads_to : {o : Option (List ℕ)} {node : List ℕ} → Leads (constraint_count job.bytes) (next_node (job_for job) (node_for job.bytes from.node) a) o
      → o ≡ Some node → LeadsTo job from a node
  leads_to l e = record { leads = leads_some l e; clean = l.clean _ e }

  -- ---- one arrival

  module _ {node : List ℕ} (to : LeadsTo job from a node) where
    -- The action costs what it costs in the job.
    own_cost : (action_of (job_for job) a).cost ≡ (action_of (job_of job.bytes) a).cost
    own_cost = ap (λ (x : Action). x.cost) (own_action job a x.known _ ((next_some (job_for job) (node_for job.bytes from.node) a _).0 to.leads).0)

    -- A node that has an estimate is reached.
    arrives : {e : ℕ} → HasEstimate job node e
        → followed ≡ arrive (sys job) t.room T (node_for job.bytes node) (key_by job.bytes from a) (hints_by job.bytes from a node) i a
    unfolding held_is
    arrives e =
        cases.follow_some (sys job) t.room (held_is job.bytes from) i T a (reached_some job to.leads e)
        ∙ (λ z. arrive (sys job) t.room T (node_for job.bytes node) (extend (held_is job.bytes from).key (own_cost z))
        (carry_same job.usable (job_of job.bytes) (held_is job.bytes from).hints (node_for job.bytes node) a z) i a)

    -- A node that has none is not, and the table stays as it is.
    pub grew_hopeless : {v : Unit {0}} → node_estimate (job_for job) (node_for job.bytes node) ≡ None → Grew job t.room followed (Ok v) t
    unfolding held_is
    grew_hopeless e = stays (cases.follow_none (sys job) t.room (held_is job.bytes from) i T a (reached_hopeless job to.leads e))

    -- It is the node that is expanded, whose slot is taken: the table stays as it is.
    pub grew_self : {v : Unit {0}} {b : Bool} → b ≡ not (bytes_eq node from.node) → b ≡ false → Grew job t.room followed (Ok v) t
    unfolding held_is
    grew_self e f =
        let d = (bytes_eq-Decides node from.node).0 (not-false _ (sym e ∙ f)) in
        let g = x.expanding in
        let o = find_own (sys job) (sys_laws job) T i _ g.held (λ j q p. g.inv.distinct i j _ q g.held p) in
        let w = ap (λ (m : List ℕ). search.find (sys job) (node_for job.bytes m) T 0) d ∙ o in
        let own = ap (node_for job.bytes) d ∙ ap (λ (r : search.Held (sys job)). r.node) (source x) in
        stays (arrives (same_estimated job own (sound_slot x i x.inside).estimated)
        ∙ cases.arrive_taken (sys job) t.room T _ _ _ i a w g.held g.taken)

    module _ {f : Option ℕ} (found : f ≡ find_in node t.slots 0) where
      found_held : search.find (sys job) (node_for job.bytes node) T 0 ≡ f
      found_held = find_held job (few_constraints job.bytes x.running.accepted) node to.clean t.slots x.running.sound 0 ∙ sym found

      -- A slot that was found is in use, and its estimate is the node's.
      held_found : {j : ℕ} → f ≡ Some j → (j < length t.slots) × (node_for job.bytes node ≡ node_for job.bytes (slot_in t.slots j).node)
      unfolding held_is
      held_found {j} e =
          let h = find_some (sys job) (node_for job.bytes node) T (found_held ∙ e) in
          let q = held_one job.bytes t.slots j h.1 in
          (q.0, (sys_laws job).same_eq _ _ h.2 ∙ ap (λ (r : search.Held (sys job)). r.node) q.1)

      pub found_inside : {j : ℕ} → f ≡ Some j → j < length t.slots
      found_inside e = (held_found e).0

      -- The node is held: its slot is relaxed.
      pub grew_relaxed : {v : Unit {0}} {j : ℕ} {u : Table} → f ≡ Some j → Relaxes job t i from a node j u → Grew job t.room followed (Ok v) u
      unfolding grown_is
      grew_relaxed {j = j} {u = u} e r = record {
        grows = arrives (same_estimated job (held_found e).1 (sound_slot x j (found_inside e)).estimated)
            ∙ cases.arrive_held (sys job) t.room T _ _ _ i a (found_held ∙ e) (held_slot x j (found_inside e))
            ∙ ap goes_on (sym r.relaxes);
        fits = (
          omega (arith, x.running.used, r.same_room, length-held job.bytes t.slots, length-held job.bytes u.slots, simp length-set at (ap length r.relaxes)),
          r.sound,
        );
        same_room = r.same_room;
      }

      -- A new node takes the next slot, where one is free.
      pub grew_new : {v : Unit {0}} {u : Table} {s : Slot} {e : ℕ} → f ≡ None → HasEstimate job node e → u ≡ pushed t s
          → Makes job.bytes (newcomer job.bytes i from a node node) e s → length t.slots < t.room → Grew job t.room followed (Ok v) u
      unfolding grown_is
      grew_new {v} {u} {s} e left d m l =
          subst (λ (w : Table). Grew job t.room followed (Ok v) w) (sym d)
          (record {
            grows = arrives left
                ∙ cases.arrive_new (sys job) t.room T _ _ _ i a (found_held ∙ e) (omega (arith, length-held job.bytes t.slots))
                ∙ ap goes_on (ap (λ (r : search.Held (sys job)). T ++ (r ∷ [])) (sym m.stands) ∙ sym (append-held job.bytes t.slots s));
            fits = (simp length-append (omega arith), append-sound job t.slots s (made_sound job m refl left) x.running.sound);
            same_room = refl;
          })

      -- A new node where no slot is free: the table is full.
      pub grew_full : {w : Full} {u : Table} {e : ℕ} → f ≡ None → HasEstimate job node e → t.room ≤ length t.slots → u.room ≡ t.room
          → Grew job t.room followed (Err w) u
      unfolding grown_is
      grew_full e left l k = record {
        grows = arrives left
            ∙ cases.arrive_full (sys job) t.room T _ _ _ i a (found_held ∙ e) (omega (arith, length-held job.bytes t.slots));
        fits = tt;
        same_room = k;
      }
