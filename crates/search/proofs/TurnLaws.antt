-- One turn of the search: what it comes to by what is found, first for any system, then for a job's table.
use Rattle.std.proofs.Common.{◌≡◌, refl, sym, ap, ◌∙◌, subst, Bool, true, false, Option, None, Some, Ok, Err, List, ℕ, zero, suc, ◌-◌, ◌<◌, length, length-set}
use Rattle.std.proofs.Common.{arith, Result, IsErrAnd}
use Rattle.model.specs.declared.Reason.{Reason}
use Rattle.model.specs.declared.Reason.TheVariants.{TableTooSmall}
use Rattle.model.specs.Reason.{number_of, reason_of, reason_is}
use Rattle.model.specs.exploration.System.{System}
use Rattle.model.specs.exploration.Equations.{plan, no_plan}
use Rattle.model.specs.logic.Formula.{choose}
use Rattle.model.specs.search.Query.{Query}
use Rattle.astar.specs.Records as astar
use Rattle.astar.specs.Records.{Held, Open, least_open, take-it, mark}
use Rattle.astar.specs.Search as search
use Rattle.astar.specs.Search.{answered, too_small, Filled, goes_on, full, follow, expand, first_goal, has_cut_in, exhausted, turns}
use Rattle.astar.proofs.Slots.{Holds, holds_one}
use Rattle.astar.proofs.Sending.{Expanding}
use Rattle.astar.proofs.Turning as turning
use Rattle.astar.proofs.Turning.{Ready, turn_cut, turn_uncut, turn_expanded}
use Rattle.job.proofs.TurnLaws.{passed_on}
use Rattle.table.specs.Slots.{slot_in}
use Rattle.table.specs.Tables.{Table, marked}
use Rattle.table.specs.Lookup.{rank_at}
use Rattle.paths.specs.Chain.{slot_path, Chained}
use Rattle.held.specs.Held.{sys, held_is, held_in}
use Rattle.held.specs.Running.{Running, Idle, Busy}
use Rattle.held.proofs.JobLaws.{sys_laws}
use Rattle.held.proofs.HeldLaws.{held_at}
use Rattle.held.proofs.Storing.{mark_held, mark_sound}
use Rattle.held.proofs.Chains.{chained}
use Rattle.expansion.specs.declared.Full.{Full}
use Rattle.expansion.specs.Growth.{Grown, Grew}
use Rattle.expansion.proofs.GrowthLaws.{grew_none, grew_held, grew_running}
use Rattle.search.specs.GoalSlots.{slot_cut, any_cut, first_due, After}
use Rattle.search.specs.Outcome.{Ended, EndsFor, EndsAs, GoesOn, EndsIn, Least, Taking}
use Rattle.search.proofs.GoalLaws.{due_after}
use Rattle.search.proofs.FirstGoal.{path_found, goal_found, cut_records}

-- ---- any system

-- Nothing is open: 11 if some node was cut, else 12.
exhausted_by : (S : System) (t : astar.Table S) (b : Bool) → has_cut_in S t ≡ b → exhausted S t ≡ no_plan (choose b 11 12)
unfolding exhausted
exhausted_by S t true e = rw (e, exhausted)
exhausted_by S t false e = rw (e, exhausted)

module _ (S : System) (places : ℕ) (t : astar.Table S) (k : ℕ) where
  -- A turn ends the search where nothing is open.
  turn_none : least_open S t 0 ≡ None → turns S places (suc k) t ≡ answered (exhausted S t)
  unfolding turns
  turn_none e = rw (e, turns)

  module _ {o : Open} (e : least_open S t 0 ≡ Some o) where
    -- A turn ends the search where a goal has the least rank.
    turn_goal : {p : List ℕ} → first_goal S t o.rank t 0 ≡ Some p → turns S places (suc k) t ≡ answered (plan o.rank.cost p)
    unfolding turns
    turn_goal f = rw (e, turns, f)

    module _ (f : first_goal S t o.rank t 0 ≡ None) {r : Held S} (h : Holds t o.slot r) where
      -- The search goes on after a slot that is cut.
      turn_cut_on : S.cut r.hints ≡ true → turns S places (suc k) t ≡ turns S places k (mark S t o.slot)
      unfolding turns
      turn_cut_on c = rw (e, turns, f, h, c)

      -- The search goes on after a slot that was expanded, unless the table is full.
      turn_on : S.cut r.hints ≡ false → {u : astar.Table S} → expand S places (mark S t o.slot) r o.slot S.actions ≡ goes_on u
          → turns S places (suc k) t ≡ turns S places k u
      unfolding turns
      turn_on c g = rw (e, turns, f, h, c, g)

      turn_full : S.cut r.hints ≡ false → expand S places (mark S t o.slot) r o.slot S.actions ≡ full → turns S places (suc k) t ≡ too_small
      unfolding turns
      turn_full c g = rw (e, turns, f, h, c, g)

-- That a record is taken does not matter to its expansion.
expand_taken : (S : System) (places : ℕ) (t : astar.Table S) (r : Held S) (i c : ℕ) → expand S places t r i c ≡ expand S places t (take-it S r) i c
unfolding expand follow take-it
expand_taken S places t r i zero = refl
expand_taken S places t r i (suc c) =
    ap (λ (g : Filled S). elim g as (λ z. Filled S) [ full ↦ full | goes_on u ↦ follow S places u r i c ]) (expand_taken S places t r i c)

-- What holds of the reason that a `?` passes on holds of what it gives.
pub passed : {A : Type 0} {r : Reason} (P : Result A Reason → Type 0) (x : Result A Reason) → IsErrAnd x (λ y. y ≡ r) → P (Err r) → P x
passed P x h e = subst P (sym (passed_on x h)) e

-- ---- a job's table

-- The slots in use are chained.
pub idle_chained : {job : Query} {t : Table} → Idle job t → Chained t.slots
idle_chained {job} {t} d = chained job t.slots d.2.inv

-- The reason of number 11 or 12 is that of the result with that number.
ends_for : (r : Reason) (b : Bool) {res : search.Result} → number_of r ≡ choose b 11 12 → res ≡ answered (no_plan (choose b 11 12)) → EndsFor r res
unfolding reason_of
ends_for r b {res} e h = go b e h
  where
    go : (b : Bool) → number_of r ≡ choose b 11 12 → res ≡ answered (no_plan (choose b 11 12)) → EndsFor r res
    go true e h = subst (λ (x : Reason). EndsFor x res) (sym (ap reason_of e) ∙ reason_is r) h
    go false e h = subst (λ (x : Reason). EndsFor x res) (sym (ap reason_of e) ∙ reason_is r) h

-- No slot is open: the reason is the end.
pub nothing_ends : (job : Query) (t : Table) (r : Reason) → least_open (sys job) (held_in job.bytes t.slots) 0 ≡ None
    → number_of r ≡ choose (any_cut job.bytes t.slots) 11 12 → EndsIn job t t (Err r)
nothing_ends job t r e h = λ k.
    ends_for r _ h (turn_none (sys job) t.room (held_in job.bytes t.slots) k e
    ∙ ap answered (exhausted_by (sys job) (held_in job.bytes t.slots) _ (cut_records job t.slots)))

-- Between two turns, with k turns left, a search comes to res.
pub record Going (job : Query) (t : Table) (k : ℕ) (res : search.Result) : Type 0 where
  pub idle : Idle job t
  pub comes : turns (sys job) t.room k (held_in job.bytes t.slots) ≡ res

module _ {job : Query} {t : Table} {k : ℕ} {res : search.Result} (going : Going job t k res) where
  counted : {l : ℕ} → k ≡ l → turns (sys job) t.room l (held_in job.bytes t.slots) ≡ res
  counted e = ap (λ (n : ℕ). turns (sys job) t.room n (held_in job.bytes t.slots)) (sym e) ∙ going.comes

  -- A turn that ends the search ends it as res.
  pub turn_ends : (u : Table) (e : Ended) → EndsIn job t u e → 0 < k → EndsAs u e res
  turn_ends u e h l = subst (EndsAs u e) (counted (omega arith)) (h (k - 1))

  -- It is so, too, where a `?` passes the reason on.
  pub turn_passed : (u : Table) (x : Ended) (r : Reason) → IsErrAnd x (λ y. y ≡ r) → EndsIn job t u (Err r) → 0 < k → EndsAs u x res
  turn_passed u x r p h l = passed (λ (e : Ended). EndsAs u e res) x p (turn_ends u (Err r) h l)

  -- Where no turn is left, the table is full.
  pub turns_over : k ≡ 0 → res ≡ too_small
  unfolding turns
  turns_over d = sym (counted d)

module _ {job : Query} {t : Table} (idle : Idle job t) {i : ℕ} (l : Least job t i) {f : Option ℕ}
    (found : f ≡ first_due job.bytes (rank_at (slot_in t.slots i)) t.slots t.slots 0) where
  abbrev S : System
  S = sys job

  goals : first_goal S (held_in job.bytes t.slots) (rank_at (slot_in t.slots i)) (held_in job.bytes t.slots) 0
      ≡ path_found t.slots (slot_in t.slots i).key.steps f
  goals = rw found (goal_found job t.slots idle.1.sound idle.2.inv (rank_at (slot_in t.slots i)))

  -- A goal has the least rank: its slot is the answer's.
  pub goal_ends : {g : ℕ} → f ≡ Some g → EndsIn job t t (Ok g)
  goal_ends {g} e = λ k.
      let b : After t.slots 0 (rank_at (slot_in t.slots i)) (Some g)
      = subst (After t.slots 0 (rank_at (slot_in t.slots i))) (sym found ∙ e) (due_after job.bytes (rank_at (slot_in t.slots i)) t.slots 0 (omega arith)) in
      let p = goals ∙ ap (path_found t.slots (slot_in t.slots i).key.steps) e in (
        idle_chained idle,
        b.1,
        turn_goal S t.room (held_in job.bytes t.slots) k l.least p ∙ (λ z. answered (plan (sym b.2 z) (slot_path t.slots (sym b.3 z) g))),
      )

  -- None has: its slot is taken.
  pub none_takes : f ≡ None → Taking job t i
  none_takes e = record { idle = idle; chosen = l; no_goal = goals ∙ ap (path_found t.slots (slot_in t.slots i).key.steps) e }

-- Slot i is taken: the table is u then.
module _ {job : Query} {t : Table} {i : ℕ} (taking : Taking job t i) where
  abbrev T : astar.Table (sys job)
  T = held_in job.bytes t.slots

  abbrev U : astar.Table (sys job)
  U = held_in job.bytes (marked t i).slots

  abbrev r : Held (sys job)
  r = held_is job.bytes (slot_in t.slots i)

  abbrev inside : i < length t.slots
  inside = taking.chosen.inside

  slot : Holds T i r
  slot = held_at job.bytes t.slots i inside

  same : U ≡ mark (sys job) T i
  same = mark_held job t.slots i inside

  inside_marked : i < length (marked t i).slots
  inside_marked = simp length-set inside

  running : Running job taking.idle.0 (marked t i)
  running =
      let x = taking.idle.1 in
      record {
        accepted = x.accepted;
        starts = x.starts;
        most = x.most;
        used = simp length-set x.used;
        sound = mark_sound job t.slots i inside x.sound;
      }

  -- After a slot that is cut the search goes on.
  pub cut_goes_on : true ≡ slot_cut job.bytes (slot_in t.slots i) → GoesOn job t (marked t i)
  unfolding slot_cut held_is
  cut_goes_on c =
      let ready = (turn_cut (sys job) t.room taking.idle.2 taking.chosen.least slot taking.no_goal (sys_laws job) (sym c)).0 in (
        (taking.idle.0, running, subst (Ready (sys job) t.room taking.idle.0) (sym same) ready),
        refl,
        λ k. turn_cut_on (sys job) t.room T k taking.chosen.least taking.no_goal slot (sym c) ∙ ap (turns (sys job) t.room k) (sym same),
      )

  -- A slot that is not cut is expanded.
  module _ (uncut : false ≡ slot_cut job.bytes (slot_in t.slots i)) where
    c : (sys job).cut r.hints ≡ false
    unfolding slot_cut held_is
    c = sym uncut

    expanding : Expanding (sys job) taking.idle.0 U i (take-it (sys job) r) 0
    expanding = subst (λ (v : astar.Table (sys job)). Expanding (sys job) taking.idle.0 v i (take-it (sys job) r) 0) (sym same)
        (turn_uncut (sys job) t.room taking.idle.2 taking.chosen.least slot taking.no_goal (sys_laws job) c).0

    now_taken : take-it (sys job) r ≡ held_is job.bytes (slot_in (marked t i).slots i)
    now_taken = holds_one U i expanding.held (held_at job.bytes (marked t i).slots i inside_marked)

    pub uncut_busy : Busy job (marked t i) i 0
    uncut_busy =
        let m0 = taking.idle.0 in
        (m0, running, inside_marked, subst (λ (q : Held (sys job)). Expanding (sys job) m0 U i q 0) now_taken expanding)

    -- After its expansion the table is v: the search goes on, or it was full.
    module _ (v : Table) where
      abbrev Expanded : Grown → Type 0
      Expanded x = Grew job t.room (expand (sys job) t.room U (held_is job.bytes (slot_in (marked t i).slots i)) i (sys job).actions) x v

      same_expanded : expand (sys job) t.room (mark (sys job) T i) r i (sys job).actions
          ≡ expand (sys job) t.room U (held_is job.bytes (slot_in (marked t i).slots i)) i (sys job).actions
      same_expanded =
          expand_taken (sys job) t.room (mark (sys job) T i) r i (sys job).actions
          ∙ (λ z. expand (sys job) t.room (sym same z) (now_taken z) i (sys job).actions)

      pub grown_goes_on : {u : Unit {0}} → Expanded (Ok u) → GoesOn job t v
      grown_goes_on g =
          let w = same_expanded ∙ grew_held g refl in
          let m0 = taking.idle.0 in
          let ready = subst (turning.Turned (sys job) t.room taking.idle.2 taking.chosen.least slot taking.no_goal (sys_laws job)) w
          (turn_expanded (sys job) t.room taking.idle.2 taking.chosen.least slot taking.no_goal (sys_laws job) c) in (
            (m0, grew_running g running refl refl, subst (λ (n : ℕ). Ready (sys job) n m0 (held_in job.bytes v.slots)) (sym g.same_room) ready.0),
            g.same_room,
            λ k. turn_on (sys job) t.room T k taking.chosen.least taking.no_goal slot c w,
          )

      pub full_ends : {u : Full} → Expanded (Err u) → EndsIn job t v (Err TableTooSmall)
      full_ends g = λ k. turn_full (sys job) t.room T k taking.chosen.least taking.no_goal slot c (same_expanded ∙ grew_none g refl)
